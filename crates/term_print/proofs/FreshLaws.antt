-- The search for a free name, step by step.
use Rattle.std.proofs.Common.{◌≡◌, ℕ, zero, suc, ◌-◌, ◌<◌, ◌≤◌, List, true, false, if◌then◌else◌, ◌∙◌, ap, arith}
use Rattle.term_print.specs.Freshness.{has_name, candidate, first_free}
use Rattle.term_print.specs.Scope.{AreTaken}

pub is_taken : (taken : List (List ℕ)) (stem : List ℕ) (k n : ℕ) → k < n → has_name taken (candidate stem k) ≡ true →
    first_free taken stem k (n - k) ≡ first_free taken stem (suc k) (n - suc k)
is_taken taken stem k n h e =
    let f : n - k ≡ suc (n - suc k) = omega (arith, h) in
    ap (first_free taken stem k) f ∙ ap (λ b. if b then first_free taken stem (suc k) (n - suc k) else candidate stem k) e

pub is_free : (taken : List (List ℕ)) (stem : List ℕ) (k n : ℕ) → k < n → has_name taken (candidate stem k) ≡ false →
    first_free taken stem k (n - k) ≡ candidate stem k
is_free taken stem k n h e =
    let f : n - k ≡ suc (n - suc k) = omega (arith, h) in
    ap (first_free taken stem k) f ∙ ap (λ b. if b then first_free taken stem (suc k) (n - suc k) else candidate stem k) e

pub is_last : (taken : List (List ℕ)) (stem : List ℕ) (n : ℕ) → first_free taken stem n (n - n) ≡ candidate stem n
is_last taken stem n = let f : n - n ≡ 0 = omega arith in ap (first_free taken stem n) f

-- the search may begin behind those that are known to be taken
pub skip : (taken : List (List ℕ)) (stem : List ℕ) (n count : ℕ) → n ≤ count → AreTaken taken stem n →
    first_free taken stem 0 count ≡ first_free taken stem n (count - n)
skip taken stem zero count h all = let e : count ≡ count - 0 = omega arith in ap (first_free taken stem 0) e
skip taken stem (suc n) count h all =
    let less : n ≤ count = omega (arith, h) in
    let below : n < count = omega (arith, h) in
    let own : n < suc n = omega arith in
    skip taken stem n count less (λ k g. let f : k < suc n = omega (arith, g) in all k f)
    ∙ is_taken taken stem n count below (all n own)
