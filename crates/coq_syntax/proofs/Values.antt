-- The value of digits, up to a greatest one.
use Rattle.std.proofs.Common.{◌≡◌, ℕ, suc, ◌+◌, ◌-◌, ◌*◌, ◌<◌, ◌≤◌, min, inl, inr, List, [], ◌∷◌, length, drop, get_or, ap, ◌∙◌, sym, arith}
use Rattle.std.proofs.lemmas.Bool.{cases_lt}
use Rattle.std.proofs.Math.Seq.{drop-cons}
use Rattle.coq_syntax.specs.Faults.{digits_value}

at_least : (most n : ℕ) (digits : List ℕ) → most ≤ n → most ≤ digits_value n digits
at_least most n [] h = h
at_least most n (d ∷ ds) h = at_least most (n * 10 + (d - 48)) ds (omega arith)

capped : (most n : ℕ) (digits : List ℕ) → min (digits_value (min n most) digits) most ≡ min (digits_value n digits) most
capped most n digits =
    elim (cases_lt n most) [
      | inl h ↦ let e : min n most ≡ n = omega arith in ap (λ k. min (digits_value k digits) most) e
      | inr h ↦
          let e : min n most ≡ most = omega arith in
          let above : most ≤ digits_value n digits = at_least most n digits h in
          let same : most ≤ digits_value most digits = at_least most most digits (omega arith) in
          ap (λ k. min (digits_value k digits) most) e ∙ omega arith
    ]

-- one digit more
pub read_digit : (most n m i : ℕ) (digits : List ℕ) → i < length digits → m ≡ min (n * 10 + (get_or digits i 0 - 48)) most
    → min (digits_value m (drop (i + 1) digits)) most ≡ min (digits_value n (drop i digits)) most
read_digit most n m i digits h e =
    let plus : i + 1 ≡ suc i = omega arith in
    let front : drop i digits ≡ get_or digits i 0 ∷ drop (suc i) digits = drop-cons digits i 0 h in
    ap (λ k. min (digits_value k (drop (i + 1) digits)) most) e
    ∙ ap (λ k. min (digits_value (min (n * 10 + (get_or digits i 0 - 48)) most) (drop k digits)) most) plus
    ∙ capped most (n * 10 + (get_or digits i 0 - 48)) (drop (suc i) digits)
    ∙ ap (λ l. min (digits_value n l) most) (sym front)
