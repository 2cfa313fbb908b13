-- Names with their index.
use Rattle.std.proofs.Common.{◌≡◌, ℕ, List, [], ◌∷◌, Bool, true, false, ◌&&◌, Option, Some, is_some, if◌then◌else◌, bytes_eq, nat_eq, refl, sym, ◌∙◌, ap, arith}
use Rattle.std.proofs.lemmas.Bool.Decides.{nat_tests}
use Rattle.std.specs.Ordering.{is_eq, nat_cmp}
use Rattle.std.specs.Cmp.Lexicographic.{slice_cmp}
use Rattle.std.proofs.lemmas.Map.Text.{is_eq-slice_cmp}
use Rattle.shared_map.specs.Entries.{look, PutsOnly}
use Rattle.cic_rules.specs.Eliminators.{same_name, has_name}
use Rattle.fresh_names.specs.Index.{IsIndex}

there_by : (b : Bool) (value : Unit {0}) (old : Option (Unit {0})) → is_some (if b then Some value else old) ≡ (if b then true else is_some old)
there_by true value old = refl
there_by false value old = refl

numbers_by : (b : Bool) (x y : ℕ) → nat_eq x y ≡ b → nat_eq y x ≡ b
numbers_by true x y e = grind (arith, nat_tests, e)
numbers_by false x y e = grind (arith, nat_tests, e)

-- two names are one either way
same_either : (m n : List ℕ) → bytes_eq m n ≡ same_name n m
same_either [] [] = refl
same_either [] (y ∷ ys) = refl
same_either (x ∷ xs) [] = refl
same_either (x ∷ xs) (y ∷ ys) =
    ap (λ b. b && bytes_eq xs ys) (sym (numbers_by (nat_eq x y) x y refl)) ∙ ap (λ b. nat_eq y x && b) (same_either xs ys)

-- an index with one more name
pub index_more : (old new : List (List ℕ × Unit {0})) (names now : List (List ℕ)) (key own : List ℕ) (value : Unit {0}) →
    IsIndex old names → PutsOnly (slice_cmp nat_cmp) old new key value → key ≡ own → now ≡ own ∷ names → IsIndex new now
index_more old new names now key own value h only e f name =
    ap is_some (only name) ∙ there_by (is_eq (slice_cmp nat_cmp name key)) value (look (slice_cmp nat_cmp) old name)
    ∙ ap (λ b. if b then true else is_some (look (slice_cmp nat_cmp) old name)) (is_eq-slice_cmp name key)
    ∙ ap (λ b. if b then true else is_some (look (slice_cmp nat_cmp) old name)) (same_either name key)
    ∙ ap (λ b. if same_name key name then true else b) (h name)
    ∙ ap (λ k. has_name (k ∷ names) name) e ∙ ap (λ ns. has_name ns name) (sym f)
