-- The places of a list, ascending, each once: what they are, and that a sort without repetition gives them.
use Rattle.std.specs.Prelude.{◌≡◌, ℕ, zero, suc, ◌+◌, ◌<◌, ◌==◌, nat_lt, List, [], ◌∷◌, length, true, false, if◌then◌else◌, slice_index, refl}
use Rattle.std.specs.List.{Contains, dedup}
use Rattle.std.specs.List.Sorted.{IsStrictlyIncreasing, IsPermutation, IsSorted}
use Rattle.std.specs.Ordering.{nat_cmp}
use lib.Dec.{eqb}
use Rattle.std.proofs.Common.{arith, ap, ◌∙◌, sym, subst, get_or}
use Rattle.std.proofs.lemmas.Bool.Decides.{nat_tests}
use Rattle.std.proofs.lemmas.List.Kept.{Contains-dedup_nat, Contains-from_dedup}
use Rattle.std.proofs.lemmas.List.Sorted.{Contains-permutation, IsPermutation-sym}
use Rattle.std.proofs.lemmas.Map.Keys.{IsStrictlyIncreasing-dedup}
use Rattle.term_spine.specs.Globals.{has, AreBehind, IsAscending, with_place, places_in}

-- the place that was put in is there, and no other
pub has_with : (place : ℕ) (ps : List ℕ) (q : ℕ) → has (with_place place ps) q ≡ (if place == q then true else has ps q)
has_with place [] q = refl
has_with place (p ∷ ps) q = has_step place p ps q (has_with place ps q)
  where
    has_step : (place p : ℕ) (ps : List ℕ) (q : ℕ) → has (with_place place ps) q ≡ (if place == q then true else has ps q) →
        has (with_place place (p ∷ ps)) q ≡ (if place == q then true else has (p ∷ ps) q)
    has_step place p ps q before = grind (arith, nat_tests)

pub places_has : (ps : List ℕ) (place : ℕ) → has (places_in ps) place ≡ has ps place
places_has [] place = refl
places_has (p ∷ ps) place =
    has_with p (places_in ps) place ∙ ap (λ b. if p == place then true else b) (places_has ps place)

behind_less : (p q : ℕ) (ps : List ℕ) → p < q → AreBehind q ps → AreBehind p ps
behind_less p q [] less behind = tt
behind_less p q (r ∷ ps) less behind = (omega (arith, behind.0), behind_less p q ps less behind.1)

behind_with : (q place : ℕ) (ps : List ℕ) → q < place → AreBehind q ps → AreBehind q (with_place place ps)
behind_with q place [] less behind = (less, tt)
behind_with q place (p ∷ ps) less behind =
    elim (nat_lt place p) as (λ b. AreBehind q (if b then place ∷ p ∷ ps else (if nat_lt p place then p ∷ with_place place ps else p ∷ ps))) [
      | true ↦ (less, behind)
      | false ↦ elim (nat_lt p place) as (λ b. AreBehind q (if b then p ∷ with_place place ps else p ∷ ps)) [
        | true ↦ (behind.0, behind_with q place ps less behind.1)
        | false ↦ behind
      ]
    ]

pub ascending_with : (place : ℕ) (ps : List ℕ) → IsAscending ps → IsAscending (with_place place ps)
ascending_with place [] up = (tt, tt)
ascending_with place (p ∷ ps) up =
    elim (nat_lt place p) as (λ b. nat_lt place p ≡ b → IsAscending (if b then place ∷ p ∷ ps else (if nat_lt p place then p ∷ with_place place ps else p ∷ ps))) [
      | true ↦ λ less. let lt : place < p = grind (arith, nat_tests) in ((lt, behind_less place p ps lt up.0), up)
      | false ↦ λ _. elim (nat_lt p place) as (λ b. nat_lt p place ≡ b → IsAscending (if b then p ∷ with_place place ps else p ∷ ps)) [
        | true ↦ λ less. (behind_with p place ps (grind (arith, nat_tests)) up.0, ascending_with place ps up.1)
        | false ↦ λ _. up
      ] refl
    ] refl

pub places_ascend : (ps : List ℕ) → IsAscending (places_in ps)
places_ascend [] = tt
places_ascend (p ∷ ps) = ascending_with p (places_in ps) (places_ascend ps)

not_behind : (p : ℕ) (ps : List ℕ) → AreBehind p ps → has ps p ≡ false
not_behind p [] behind = refl
not_behind p (q ∷ ps) behind = let rest = not_behind p ps behind.1 in let less = behind.0 in grind (arith, nat_tests)

not_first : (x y : ℕ) (xs ys : List ℕ) → AreBehind y ys → has (x ∷ xs) x ≡ has (y ∷ ys) x → x < y → ⊥
not_first x y xs ys behind at_x less =
    let absent = not_behind x (y ∷ ys) (less, behind_less x y ys less behind) in grind (arith, nat_tests)

first_one : (x y : ℕ) (xs ys : List ℕ) → AreBehind x xs → AreBehind y ys → has (x ∷ xs) x ≡ has (y ∷ ys) x → has (x ∷ xs) y ≡ has (y ∷ ys) y → x ≡ y
first_one x y xs ys up also at_x at_y =
    let left = not_first x y xs ys also at_x in
    let right = not_first y x ys xs up (sym at_y) in
    omega arith

rest_same : (x y : ℕ) (xs ys : List ℕ) (q : ℕ) → AreBehind x xs → AreBehind y ys → x ≡ y → has (x ∷ xs) q ≡ has (y ∷ ys) q → has xs q ≡ has ys q
rest_same x y xs ys q up also one at_q =
    let left = not_behind x xs up in
    let right = not_behind y ys also in
    grind (arith, nat_tests)

-- two ascending lists with the same places are one
pub ascending_one : (xs ys : List ℕ) → IsAscending xs → IsAscending ys → ((q : ℕ) → has xs q ≡ has ys q) → xs ≡ ys
ascending_one [] [] up also same = refl
ascending_one [] (y ∷ ys) up also same = absurd (let apart = same y in grind (arith, nat_tests))
ascending_one (x ∷ xs) [] up also same = absurd (let apart = same x in grind (arith, nat_tests))
ascending_one (x ∷ xs) (y ∷ ys) up also same =
    let first = first_one x y xs ys up.0 also.0 (same x) (same y) in
    cc (first, ascending_one xs ys up.1 also.1 (λ q. rest_same x y xs ys q up.0 also.0 first (same q)))

-- std's words for the same
pub has_contained : (xs : List ℕ) (x k : ℕ) → k < length xs → get_or xs k x ≡ x → has xs x ≡ true
has_contained [] x k within is = absurd (omega arith)
has_contained (p ∷ ps) x zero within is = grind (arith, nat_tests)
has_contained (p ∷ ps) x (suc k) within is =
    elim (p == x) as (λ b. (if b then true else has ps x) ≡ true) [ true ↦ refl | false ↦ has_contained ps x k (omega arith) is ]

pub contains_had : (xs : List ℕ) (x : ℕ) → has xs x ≡ true → Contains xs x
contains_had [] x is = absurd (cc)
contains_had (p ∷ ps) x is =
    elim (p == x) as (λ b. (p == x) ≡ b → (if b then true else has ps x) ≡ true → Contains (p ∷ ps) x) [
      | true ↦ λ same _. (0, omega arith, grind (arith, nat_tests))
      | false ↦ λ _ later. let found = contains_had ps x later in (suc found.0, omega (arith, found.1), found.2)
    ] refl is

tail_increasing : (x : ℕ) (xs : List ℕ) → IsStrictlyIncreasing (x ∷ xs) → IsStrictlyIncreasing xs
tail_increasing x xs up k within =
    let next : suc k + 1 ≡ suc (k + 1) = omega arith in
    let P : ℕ → Type 0 = λ n. slice_index xs k < slice_index (x ∷ xs) n in
    subst P next (up (suc k) (omega arith))

behind_first : (x : ℕ) (xs : List ℕ) → IsStrictlyIncreasing (x ∷ xs) → AreBehind x xs
behind_first x [] up = tt
behind_first x (y ∷ ys) up =
    let less : x < y = up 0 (omega arith) in
    (less, behind_less x y ys less (behind_first y ys (tail_increasing x (y ∷ ys) up)))

pub ascending_increasing : (xs : List ℕ) → IsStrictlyIncreasing xs → IsAscending xs
ascending_increasing [] up = tt
ascending_increasing (x ∷ xs) up = (behind_first x xs up, ascending_increasing xs (tail_increasing x xs up))

same_has : (zs ps : List ℕ) (q : ℕ) → (Contains zs q → Contains ps q) → (Contains ps q → Contains zs q) → has zs q ≡ has ps q
same_has zs ps q there back =
    elim (has zs q) as (λ b. has zs q ≡ b → b ≡ has ps q) [
      | true ↦ λ is. let found = there (contains_had zs q is) in sym (has_contained ps q found.0 found.1 found.2)
      | false ↦ λ absent. elim (has ps q) as (λ b. has ps q ≡ b → false ≡ b) [
        | true ↦ λ is. let found = back (contains_had ps q is) in let there_too = has_contained zs q found.0 found.1 found.2 in absurd (cc)
        | false ↦ λ _. refl
      ] refl
    ] refl

-- a list that rises and has the places of another is their list
pub places_listed : (ps zs : List ℕ) → IsStrictlyIncreasing zs → ((x : ℕ) → Contains ps x → Contains zs x) → ((x : ℕ) → Contains zs x → Contains ps x) →
    zs ≡ places_in ps
places_listed ps zs up keeps adds_none =
    ascending_one zs (places_in ps) (ascending_increasing zs up) (places_ascend ps) (λ q. same_has zs ps q (adds_none q) (keeps q) ∙ sym (places_has ps q))

-- a sort without repetition lists the places
pub listed_by_sort : (ps row up : List ℕ) → IsPermutation ps row → IsSorted nat_cmp row → up ≡ dedup eqb row → up ≡ places_in ps
listed_by_sort ps row up moved sorted is =
    is ∙ places_listed ps (dedup eqb row) (IsStrictlyIncreasing-dedup row sorted)
    (λ x h. Contains-dedup_nat row x (Contains-permutation ps row x moved h))
    (λ x h. Contains-permutation row ps x (IsPermutation-sym ps row moved) (Contains-from_dedup eqb row x h))
