-- What is told once of each inductive type, beside the environment.
use Rattle.std.proofs.Common.{◌≡◌, ℕ, zero, suc, ◌+◌, List, [], ◌∷◌, ◌++◌, length, Bool, true, false, ◌||◌, Option, refl, sym, ap, ◌∙◌, arith}
use Rattle.std.specs.Prelude.{slice_get, ◌==◌, if◌then◌else◌}
use Rattle.term_spine.specs.Globals.{has}
use Rattle.cic_rules.specs.declared.env.Slot.{Slot}
use Rattle.cic_rules.specs.declared.shapes.FamilyShape.{FamilyShape}
use Rattle.cic_rules.specs.Environments.{slot_decl, decl_at}
use Rattle.cic_rules.specs.Shapes.{shape_if_any, shape_at, shapes_from, kept_shape, AreShapes}

append_by : (b : Bool) (one two : Bool) → (if b then true else (one || two)) ≡ ((if b then true else one) || two)
append_by true one two = refl
append_by false one two = refl

-- a place stands in one of two lists
pub has_append : (ps qs : List ℕ) (place : ℕ) → has (ps ++ qs) place ≡ (has ps place || has qs place)
has_append [] qs place = refl
has_append (p ∷ ps) qs place =
    ap (λ more. if p == place then true else more) (has_append ps qs place) ∙ append_by (p == place) (has ps place) (has qs place)

-- one more global
shapes_last : (n : ℕ) (env : List Slot) (s : Slot) → shapes_from n (env ++ (s ∷ [])) ≡ shapes_from n env ++ (shape_if_any (n + length env) s.decl ∷ [])
shapes_last n [] s = let none : n ≡ n + 0 = omega arith in ap (λ m. shape_if_any m s.decl ∷ []) none
shapes_last n (e ∷ env) s =
    let at : suc n + length env ≡ n + suc (length env) = omega arith in
    ap (λ more. shape_if_any n e.decl ∷ more) (shapes_last (suc n) env s ∙ ap (λ m. shapes_from (suc n) env ++ (shape_if_any m s.decl ∷ [])) at)

pub shapes_more : (env : List Slot) (shapes : List (Option FamilyShape)) (s : Slot) → AreShapes shapes env →
    AreShapes (shapes ++ (shape_if_any (length env) s.decl ∷ [])) (env ++ (s ∷ []))
unfolding AreShapes
shapes_more env shapes s old =
    let at : 0 + length env ≡ length env = omega arith in
    ap (λ more. more ++ (shape_if_any (length env) s.decl ∷ [])) old
    ∙ sym (shapes_last 0 env s ∙ ap (λ m. shapes_from 0 env ++ (shape_if_any m s.decl ∷ [])) at)

shape_from : (n : ℕ) (env : List Slot) (i : ℕ) → kept_shape (slice_get (shapes_from n env) i) ≡ shape_if_any (n + i) (slot_decl (slice_get env i))
shape_from n [] i = refl
shape_from n (s ∷ ss) zero = let none : n ≡ n + zero = omega arith in ap (λ m. shape_if_any m s.decl) none
shape_from n (s ∷ ss) (suc i) =
    let at : suc n + i ≡ n + suc i = omega arith in
    shape_from (suc n) ss i ∙ ap (λ m. shape_if_any m (slot_decl (slice_get ss i))) at

-- the shape that is kept for a place
pub shape_found : (env : List Slot) (shapes : List (Option FamilyShape)) (place : ℕ) → AreShapes shapes env →
    kept_shape (slice_get shapes place) ≡ shape_at env place
unfolding AreShapes
shape_found env shapes place e =
    let none : 0 + place ≡ place = omega arith in
    ap (λ all. kept_shape (slice_get all place)) e ∙ shape_from 0 env place ∙ ap (λ m. shape_if_any m (decl_at env place)) none

-- an empty environment
pub shapes_none : AreShapes [] []
unfolding AreShapes
shapes_none = refl
