-- A list of places that has each place of another is the union of both.
use Rattle.std.proofs.Common.{◌≡◌, ℕ, suc, List, [], ◌∷◌, length, ◌+◌, ◌≤◌, ◌<◌, ◌==◌, true, false, refl, sym, ap, subst, ◌∙◌, arith, drop, get_or}
use Rattle.std.specs.Prelude.{IsTrue, Bool, if◌then◌else◌, HoldsAt}
use Rattle.std.specs.Cmp.{unsigned_tied}
use Rattle.std.specs.Ordering.{nat_cmp, is_eq}
use Rattle.std.specs.declared.cmp.Ordering.TheVariants.{Equal}
use Rattle.std.proofs.lemmas.Bool.Decides.{nat_tests}
use Rattle.std.proofs.lemmas.List.{drop_more, drop_all}
use Rattle.term_spine.specs.Globals.{has, IsAscending}
use Rattle.term_spine.proofs.Places.{ascending_one, has_contained}
use Rattle.cic_rules.specs.Infer.{union}
use Rattle.cic_rules.specs.Scopes.{AreBefore}
use Rattle.cic_rules.specs.Unions.{HasEach}
use Rattle.cic_rules.proofs.ReachLaws.{InTwo, First, Second, merged_parts}
use Rattle.cic_rules.proofs.UsedLaws.{names_union, union_first, union_second}

-- two tests that hold together are one
same_test : (b c : Bool) → (b ≡ true → c ≡ true) → (c ≡ true → b ≡ true) → b ≡ c
same_test true c there back = sym (there refl)
same_test false true there back = back refl
same_test false false there back = refl

-- a place behind all of these
abbrev top : List ℕ → ℕ
top [] = 0
top (p ∷ ps) = suc p + top ps

before_top : (m : ℕ) (ps : List ℕ) → top ps ≤ m → AreBefore m ps
before_top m [] le = tt
before_top m (p ∷ ps) le = (omega (arith, le), before_top m ps (omega (arith, le)))

pub ascending_union : (us vs : List ℕ) → IsAscending us → IsAscending vs → IsAscending (union us vs)
ascending_union us vs up also =
    let all = top us + top vs in
    let names = names_union all us vs (record { ascending = up; before = before_top all us (omega arith) })
    (record { ascending = also; before = before_top all vs (omega arith) }) in
    names.ascending

each_has : (all some : List ℕ) (q : ℕ) → HasEach all some → IsTrue (has some q) → IsTrue (has all q)
each_has all [] q each is = absurd (cc)
each_has all (p ∷ ps) q each is =
    elim (p == q) as (λ b. (p == q) ≡ b → IsTrue (if b then true else has ps q) → IsTrue (has all q)) [
      | true ↦ λ same _. let e : p ≡ q = grind (arith, nat_tests) in subst (λ x. IsTrue (has all x)) e each.0
      | false ↦ λ same later. each_has all ps q each.1 later
    ] refl is

-- one place more, and none
pub each_step : (all items : List ℕ) (k : ℕ) → k < length items → IsTrue (has all (get_or items k 0)) → HasEach all (drop (k + 1) items) → HasEach all (drop k items)
each_step all items k within is rest = rw (drop_more items k 0 within) (is, rest)

pub each_end : (all items : List ℕ) (k : ℕ) → length items ≤ k → HasEach all (drop k items)
each_end all items k past = rw (drop_all k items past) tt

-- what a search finds is there
pub found_has : (all : List ℕ) (place k : ℕ) → k < length all → HoldsAt (λ y. nat_cmp y place ≡ Equal) all k → IsTrue (has all place)
found_has all place k within held =
    let equal : nat_cmp (get_or all k place) place ≡ Equal = held place in
    let tied : (get_or all k place == place) ≡ true = sym (unsigned_tied (get_or all k place) place) ∙ ap is_eq equal in
    has_contained all place k within (grind (arith, nat_tests, tied))

module _ (us vs : List ℕ) (up : IsAscending us) (also : IsAscending vs) where
  in_second : HasEach vs us → (q : ℕ) → InTwo q us vs → has vs q ≡ true
  in_second all q (First h) = each_has vs us q all h
  in_second all q (Second h) = h

  -- the second has each place of the first
  pub union_is_second : HasEach vs us → vs ≡ union us vs
  union_is_second all =
      ascending_one vs (union us vs) also (ascending_union us vs up also)
      (λ q. same_test (has vs q) (has (union us vs) q) (λ h. union_second us vs q h) (λ h. in_second all q (merged_parts q (length us + length vs) us vs h)))

  in_first : HasEach us vs → (q : ℕ) → InTwo q us vs → has us q ≡ true
  in_first all q (First h) = h
  in_first all q (Second h) = each_has us vs q all h

  -- the first has each place of the second
  pub union_is_first : HasEach us vs → us ≡ union us vs
  union_is_first all =
      ascending_one us (union us vs) up (ascending_union us vs up also)
      (λ q. same_test (has us q) (has (union us vs) q) (λ h. union_first us vs q h) (λ h. in_first all q (merged_parts q (length us + length vs) us vs h)))
