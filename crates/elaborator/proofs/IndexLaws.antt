-- What an index of names has after one more hypothesis, and what it tells.
use Rattle.std.proofs.Common.{◌≡◌, ℕ, suc, ◌-◌, ◌<◌, List, [], ◌∷◌, length, Bool, true, false, Some, None, if◌then◌else◌, bytes_eq, refl, sym, ◌∙◌, ap, arith}
use Rattle.std.specs.Ordering.{nat_cmp}
use Rattle.std.specs.Cmp.Lexicographic.{slice_cmp}
use Rattle.std.proofs.lemmas.Map.Text.{is_eq-slice_cmp}
use Rattle.shared_map.specs.Entries.{look, PutsOnly}
use Rattle.cic_rules.specs.declared.context.Hyp.{Hyp}
use Rattle.elaborator.specs.Names.{one_more, index_of}
use Rattle.elaborator.specs.Index.{before_newest, IsIndex}

pub index_none : IsIndex [] []
index_none name = refl

pub index_more : (old new : List (List ℕ × ℕ)) (ctx now : List Hyp) (h : Hyp) (key : List ℕ) (before : ℕ) →
    IsIndex old ctx → PutsOnly (slice_cmp nat_cmp) old new key before → key ≡ h.name → before ≡ length ctx → now ≡ h ∷ ctx → IsIndex new now
index_more old new ctx now h key before is only same count e name =
    only name
    ∙ ap (λ b. if b then Some before else look (slice_cmp nat_cmp) old name) (is_eq-slice_cmp name key)
    ∙ ap (λ o. if bytes_eq name key then Some before else o) (is name)
    ∙ ap (λ k. if bytes_eq name k then Some before else before_newest ctx name) same
    ∙ ap (λ n. if bytes_eq name h.name then Some n else before_newest ctx name) count
    ∙ ap (λ c. before_newest c name) (sym e)

newest_by : (b : Bool) (h : Hyp) (hs : List Hyp) (name : List ℕ) (n : ℕ) → (if b then Some (length hs) else before_newest hs name) ≡ Some n →
    (before_newest hs name ≡ Some n → (n < length hs) × (index_of hs name ≡ Some (length hs - 1 - n))) →
    (n < suc (length hs)) × ((if b then Some 0 else one_more (index_of hs name)) ≡ Some (suc (length hs) - 1 - n))
newest_by true h hs name n e rest =
    let same : length hs ≡ n = cc in
    let none : 0 ≡ suc (length hs) - 1 - n = omega (arith, same) in
    (omega (arith, same), ap Some none)
newest_by false h hs name n e rest =
    let both = rest e in
    let less : n < length hs = both.0 in
    let one : suc (length hs - 1 - n) ≡ suc (length hs) - 1 - n = omega (arith, less) in
    (omega (arith, less), ap one_more both.1 ∙ ap Some one)

newest : (ctx : List Hyp) (name : List ℕ) (n : ℕ) → before_newest ctx name ≡ Some n → (n < length ctx) × (index_of ctx name ≡ Some (length ctx - 1 - n))
newest [] name n e = cc
newest (h ∷ hs) name n e = newest_by (bytes_eq name h.name) h hs name n e (newest hs name n)

none_by : (b : Bool) (hs : List Hyp) (name : List ℕ) → (if b then Some (length hs) else before_newest hs name) ≡ None →
    (before_newest hs name ≡ None → index_of hs name ≡ None) → (if b then Some 0 else one_more (index_of hs name)) ≡ None
none_by true hs name e rest = cc
none_by false hs name e rest = ap one_more (rest e)

none : (ctx : List Hyp) (name : List ℕ) → before_newest ctx name ≡ None → index_of ctx name ≡ None
none [] name e = refl
none (h ∷ hs) name e = none_by (bytes_eq name h.name) hs name e (none hs name)

-- a name that the index has
pub found : (index : List (List ℕ × ℕ)) (ctx : List Hyp) (name : List ℕ) (n : ℕ) → IsIndex index ctx → Some n ≡ look (slice_cmp nat_cmp) index name →
    (n < length ctx) × (Some (length ctx - 1 - n) ≡ index_of ctx name)
found index ctx name n is e =
    let both = newest ctx name n (sym (is name) ∙ sym e) in
    (both.0, sym both.1)

pub not_found : (index : List (List ℕ × ℕ)) (ctx : List Hyp) (name : List ℕ) → IsIndex index ctx → None ≡ look (slice_cmp nat_cmp) index name →
    None ≡ index_of ctx name
not_found index ctx name is e = sym (none ctx name (sym (is name) ∙ sym e))
