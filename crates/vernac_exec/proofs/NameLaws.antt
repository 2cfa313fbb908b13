-- Names that stand twice, from the last on.
use Rattle.std.proofs.Common.{◌≡◌, ℕ, suc, ◌-◌, ◌<◌, ◌≤◌, List, ◌∷◌, length, drop, get_or, true, false, is_some, refl, sym, ap, ◌∙◌, arith, drop-cons}
use Rattle.std.specs.Ordering.{nat_cmp}
use Rattle.std.specs.Cmp.Lexicographic.{slice_cmp}
use Rattle.shared_map.specs.Entries.{look, PutsOnly}
use Rattle.cic_rules.specs.Inductive.{has_twice}
use Rattle.fresh_names.specs.Index.{IsIndex}
use Rattle.fresh_names.proofs.NameLaws.{index_more}
use Rattle.inductive_check.proofs.PartLaws.{twice_at, twice_not}

-- an index of the names behind a place, of which none stands twice
pub record AreApart (index : List (List ℕ × Unit {0})) (names : List (List ℕ)) (at : ℕ) : Type 0 where
  pub within : at ≤ length names
  pub index_is : IsIndex index (drop at names)
  pub apart : has_twice (drop at names) ≡ false

one_before : (names : List (List ℕ)) (at : ℕ) (n : List ℕ) → 0 < at → at ≤ length names → n ≡ get_or names (at - 1) n → drop (at - 1) names ≡ n ∷ drop at names
one_before names at n some within is =
    let lt : at - 1 < length names = omega (arith, some, within) in
    let next : suc (at - 1) ≡ at = omega (arith, some) in
    drop-cons names (at - 1) n lt ∙ ap (λ x. x ∷ drop (suc (at - 1)) names) (sym is) ∙ ap (λ k. n ∷ drop k names) next

pub next_name : (old new : List (List ℕ × Unit {0})) (names : List (List ℕ)) (at : ℕ) (n key : List ℕ) (value : Unit {0}) → AreApart old names at → 0 < at →
    n ≡ get_or names (at - 1) n → is_some (look (slice_cmp nat_cmp) old n) ≡ false → key ≡ n → PutsOnly (slice_cmp nat_cmp) old new key value →
    AreApart new names (at - 1)
next_name old new names at n key value are some is none same only =
    let split = one_before names at n some are.within is in
    record {
      within = let most = are.within in omega (arith, most);
      index_is = index_more old new (drop at names) (drop (at - 1) names) key n value are.index_is only same split;
      apart = ap has_twice split ∙ twice_not n (drop at names) (sym (are.index_is n) ∙ none) are.apart;
    }

pub found_twice : (index : List (List ℕ × Unit {0})) (names : List (List ℕ)) (at : ℕ) (n : List ℕ) → AreApart index names at → 0 < at →
    n ≡ get_or names (at - 1) n → is_some (look (slice_cmp nat_cmp) index n) ≡ true → true ≡ has_twice names
found_twice index names at n are some is found =
    twice_at at names n (drop at names) some are.within is refl (sym (are.index_is n) ∙ found)
