-- Two splits of one token list.
use Rattle.std.proofs.Common.{◌≡◌, ℕ, suc, ◌<◌, ◌⊎◌, inl, inr, List, [], ◌∷◌, ◌++◌, length, refl, sym, ◌∙◌, ap, arith, length-append}
use Rattle.coq_syntax.specs.declared.token.Token.{Token}

-- the second part of one of them is the longer
pub record Longer (u v u' v' : List Token) : Type 0 where
  pub first : Token
  pub back : List Token
  pub last : v' ≡ first ∷ (back ++ v)
  pub whole : u ≡ u' ++ first ∷ back

pub longer : (u v u' v' : List Token) → u ++ v ≡ u' ++ v' → length v < length v' → Longer u v u' v'
longer [] v [] v' e l = absurd (let size : length v ≡ length v' = ap length e in omega arith)
longer (t ∷ u) v [] v' e l = record { first = t; back = u; last = sym e; whole = refl }
longer [] v (t ∷ u') v' e l = absurd (let size : length v ≡ suc (length (u' ++ v')) = ap length e in omega (arith, length-append u' v'))
longer (s ∷ u) v (t ∷ u') v' e l =
    let head : s ≡ t = cc in
    let tails : u ++ v ≡ u' ++ v' = cc in
    let inner : Longer u v u' v' = longer u v u' v' tails l in
    record { first = inner.first; back = inner.back; last = inner.last; whole = ap (λ w. s ∷ w) inner.whole ∙ ap (λ x. x ∷ (u' ++ inner.first ∷ inner.back)) head }

-- three ways in which two splits of a list stand to one another
pub data Order (u v u' v' : List Token) : Type 0 where
  Before : Longer u v u' v' → Order u v u' v'
  Behind : Longer u' v' u v → Order u v u' v'
  Here : u ≡ u' → v ≡ v' → Order u v u' v'

pub three : (m n : ℕ) → (m < n) ⊎ (n < m) ⊎ (m ≡ n)
three m n = grind arith

lengths_same : (u v u' v' : List Token) → u ++ v ≡ u' ++ v' → length v ≡ length v' → (u ≡ u') × (v ≡ v')
lengths_same [] v [] v' e l = (refl, e)
lengths_same [] v (t ∷ u') v' e l = absurd (let size : length v ≡ suc (length (u' ++ v')) = ap length e in omega (arith, length-append u' v'))
lengths_same (t ∷ u) v [] v' e l = absurd (let size : suc (length (u ++ v)) ≡ length v' = ap length e in omega (arith, length-append u v))
lengths_same (s ∷ u) v (t ∷ u') v' e l =
    let head : s ≡ t = cc in
    let tails : u ++ v ≡ u' ++ v' = cc in
    let inner : (u ≡ u') × (v ≡ v') = lengths_same u v u' v' tails l in
    (ap (λ x. x ∷ u) head ∙ ap (λ w. t ∷ w) inner.0, inner.1)

order_by : (u v u' v' : List Token) → u ++ v ≡ u' ++ v' → (length v < length v') ⊎ (length v' < length v) ⊎ (length v ≡ length v') → Order u v u' v'
order_by u v u' v' e (inl l) = Before (longer u v u' v' e l)
order_by u v u' v' e (inr (inl l)) = Behind (longer u' v' u v (sym e) l)
order_by u v u' v' e (inr (inr l)) = let h : (u ≡ u') × (v ≡ v') = lengths_same u v u' v' e l in Here h.0 h.1

pub order : (i u v u' v' : List Token) → i ≡ u ++ v → i ≡ u' ++ v' → Order u v u' v'
order i u v u' v' h h' = order_by u v u' v' (sym h ∙ h') (three (length v) (length v'))
