-- Iota is the case that was chosen, with the eliminator itself for the recursive results.
use Rattle.std.specs.Prelude.{◌≡◌, ℕ, ◌+◌, ◌==◌, List, [], ◌∷◌, length, take, drop, Bool, true, false, Option, Some, None, slice_get, refl, if◌then◌else◌}
use Rattle.std.proofs.Common.{ap, sym, ◌∙◌}
use Rattle.core_term.specs.Tree.{Tree, Var, Sorted, Constant, Prod, Lam, LetIn, App}
use Rattle.term_spine.specs.Instantiate.{instantiate, values_under}
use Rattle.term_spine.specs.Spine.{apply_all, shift, eta_body}
use Rattle.term_spine.specs.Spines.{IsSpineOf}
use Rattle.term_spine.specs.declared.spines.Spine.{Spine}
use Rattle.cic_rules.specs.declared.decls.Ctor.{Ctor}
use Rattle.cic_rules.specs.declared.decls.InductiveDecl.{InductiveDecl}
use Rattle.cic_rules.specs.declared.env.Slot.{Slot}
use Rattle.cic_rules.specs.declared.shapes.FamilyShape.{FamilyShape}
use Rattle.cic_rules.specs.Environments.{decl_at}
use Rattle.cic_rules.specs.Families.{eliminator_of, constructor_of, newest_first, recursive_call, case_applied_to, iota}
use Rattle.cic_rules.specs.Shapes.{shape_if_any, shape_at}
use Rattle.conversion.specs.Iota.{case_by}
use Rattle.conversion.specs.Lookups.{family_if_any}
use Rattle.conversion.proofs.FireLaws.{no_index, no_ctor, no_mark, no_case, not_full, fires}
use Rattle.move_compute.specs.Cases.{call_on, argument_on, case_on}
use Rattle.move_compute.specs.Firing.{chosen_case, chosen_marks, chosen_ctor, chosen_index, chosen_in, chosen_by}
use Rattle.move_compute.specs.Turns.{iota_fired}
use Rattle.move_compute.specs.declared.cases.Call.{Call}
use Rattle.move_compute.specs.declared.firing.Chosen.{Chosen}

-- a call with nothing behind
abbrev plain : Tree → Call
plain e = record { front = e; behind = [] }

call_plain : (params : ℕ) (e x : Tree) (values : List Tree) (t : Tree) → call_on params (plain e) x values t ≡ recursive_call params e x values t
call_plain params e x values (Prod n a b) = ap (Lam n (instantiate values a)) (call_plain params (shift e) (eta_body x) (values_under values) b)
call_plain params e x values (Var i) = refl
call_plain params e x values (Sorted s) = refl
call_plain params e x values (Constant c) = refl
call_plain params e x values (Lam n a b) = refl
call_plain params e x values (LetIn n a t b) = refl
call_plain params e x values (App f a) = refl

argument_plain : (params : ℕ) (mark : Bool) (e case v : Tree) (values : List Tree) (a : Tree) →
    argument_on params mark (plain e) case v values a ≡ case_applied_to params mark e case v values a
argument_plain params false e case v values a = refl
argument_plain params true e case v values a = ap (App (App case v)) (call_plain params e v values a)

case_plain : (params : ℕ) (marks : List Bool) (e case : Tree) (values : List Tree) (t : Tree) (vs : List Tree) →
    case_on params marks (plain e) case values t vs ≡ case_by params marks e case values t vs
case_plain params (mark ∷ marks) e case values (Prod n a b) (v ∷ vs) =
    ap (λ u. case_on params marks (plain e) u (v ∷ values) b vs) (argument_plain params mark e case v values a) ∙
    case_plain params marks e (case_applied_to params mark e case v values a) (v ∷ values) b vs
case_plain params (mark ∷ marks) e case values (Prod n a b) [] = refl
case_plain params (mark ∷ marks) e case values (Var i) vs = refl
case_plain params (mark ∷ marks) e case values (Sorted s) vs = refl
case_plain params (mark ∷ marks) e case values (Constant c) vs = refl
case_plain params (mark ∷ marks) e case values (Lam n a b) vs = refl
case_plain params (mark ∷ marks) e case values (LetIn n a t b) vs = refl
case_plain params (mark ∷ marks) e case values (App f a) vs = refl
case_plain params [] e case values t vs = refl

-- what an eliminator becomes, if a case was chosen
abbrev pub iota_if_any : FamilyShape → Tree → List Tree → Option Chosen → Option Tree
iota_if_any shape head args None = None
iota_if_any shape head args (Some c) = Some (iota_fired shape head args c)

module _ (env : List Slot) (head : Tree) (args : List Tree) (w : Tree) (of : ℕ) (family : eliminator_of env head ≡ family_if_any env (Some of))
    (d : InductiveDecl) (decl : decl_at env of ≡ Some d) (shape : FamilyShape) (told : shape_at env of ≡ Some shape) (m : Spine) (made : IsSpineOf m w) where
  full_is : (i : ℕ) (c : Ctor) (marks : List Bool) (case : Tree) (b : Bool) → constructor_of env of m.head ≡ Some i → slice_get d.ctors i ≡ Some c →
      slice_get shape.recursive i ≡ Some marks → slice_get args (shape.params + 1 + i) ≡ Some case → (length m.args == shape.params + length marks) ≡ b →
      iota env head args w ≡
      iota_if_any shape head args (if b then Some (record { params = shape.params; marks = marks; ty = c.ty; case = case; given = drop shape.params m.args }) else None)
  full_is i c marks case true index ctor marked found full =
      fires env head args w of family d decl shape told m made i index c ctor case found marks marked (sym full) ∙
      ap (λ t. Some (apply_all t (drop (shape.major + 1) args)))
      (sym (case_plain shape.params marks (apply_all head (take shape.fixed args)) case (newest_first (take shape.params args) []) c.ty (drop shape.params m.args)))
  full_is i c marks case false index ctor marked found full =
      not_full env head args w of family d decl shape told m made i index c ctor case found marks marked (sym full)

  case_is : (i : ℕ) (c : Ctor) (marks : List Bool) (there : Option Tree) → constructor_of env of m.head ≡ Some i → slice_get d.ctors i ≡ Some c →
      slice_get shape.recursive i ≡ Some marks → slice_get args (shape.params + 1 + i) ≡ there →
      iota env head args w ≡ iota_if_any shape head args (chosen_case shape m.args c marks there)
  case_is i c marks None index ctor marked found = no_case env head args w of family d decl shape told m made i index c ctor found
  case_is i c marks (Some case) index ctor marked found = full_is i c marks case (length m.args == shape.params + length marks) index ctor marked found refl

  marks_is : (i : ℕ) (c : Ctor) (there : Option (List Bool)) → constructor_of env of m.head ≡ Some i → slice_get d.ctors i ≡ Some c →
      slice_get shape.recursive i ≡ there → iota env head args w ≡ iota_if_any shape head args (chosen_marks shape m.args args i c there)
  marks_is i c None index ctor marked = no_mark env head args w of family d decl shape told m made i index marked
  marks_is i c (Some marks) index ctor marked = case_is i c marks (slice_get args (shape.params + 1 + i)) index ctor marked refl

  ctor_is : (i : ℕ) (there : Option Ctor) → constructor_of env of m.head ≡ Some i → slice_get d.ctors i ≡ there →
      iota env head args w ≡ iota_if_any shape head args (chosen_ctor shape m.args args i there)
  ctor_is i None index ctor = no_ctor env head args w of family d decl shape told m made i index ctor
  ctor_is i (Some c) index ctor = marks_is i c (slice_get shape.recursive i) index ctor refl

  index_is : (there : Option ℕ) → constructor_of env of m.head ≡ there → iota env head args w ≡ iota_if_any shape head args (chosen_index shape m.args args d there)
  index_is None index = no_index env head args w of family d decl shape told m made index
  index_is (Some i) index = ctor_is i (slice_get d.ctors i) index refl

decl_is : (env : List Slot) (head : Tree) (args : List Tree) (w : Tree) (of : ℕ) → eliminator_of env head ≡ family_if_any env (Some of) →
    (found : Option InductiveDecl) → decl_at env of ≡ found → (shape : FamilyShape) → shape_if_any of found ≡ Some shape → shape_at env of ≡ Some shape →
    (m : Spine) → IsSpineOf m w → iota env head args w ≡ iota_if_any shape head args (chosen_by env of args m.head m.args)
decl_is env head args w of family None decl shape e told m made = cc
decl_is env head args w of family (Some d) decl shape e told m made =
    let same : chosen_by env of args m.head m.args ≡ chosen_index shape m.args args d (constructor_of env of m.head) =
    ap (λ x. chosen_in x (shape_at env of) args m.args (constructor_of env of m.head)) decl ∙
    ap (λ x. chosen_in (Some d) x args m.args (constructor_of env of m.head)) told in
    index_is env head args w of family d decl shape told m made (constructor_of env of m.head) refl ∙ ap (iota_if_any shape head args) (sym same)

pub iota_chosen : (env : List Slot) (head : Tree) (args : List Tree) (w : Tree) (of : ℕ) → eliminator_of env head ≡ family_if_any env (Some of) →
    (shape : FamilyShape) → shape_at env of ≡ Some shape → (m : Spine) → IsSpineOf m w →
    iota env head args w ≡ iota_if_any shape head args (chosen_by env of args m.head m.args)
iota_chosen env head args w of family shape told m made = decl_is env head args w of family (decl_at env of) refl shape told told m made
