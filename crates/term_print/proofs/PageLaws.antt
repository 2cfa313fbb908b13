-- What is added to a page in two steps.
use Rattle.std.proofs.Common.{◌≡◌, ℕ, ◌+◌, ◌<◌, nat_lt, List, [], ◌∷◌, ◌++◌, length, Bool, true, false, Option, Some, None, if◌then◌else◌, refl, sym, ◌∙◌, ap, arith, append_assoc, length-append}
use Rattle.std.proofs.lemmas.Bool.{ltb-true, lt-ltb}
use Rattle.base_core.specs.declared.limits.TheConstants.{PRINTED_BYTES_LIMIT}
use Rattle.term_print.specs.Pages.{added}

-- a text that is too long stays so
too_long : (most : ℕ) (t a : List ℕ) → nat_lt most (length t) ≡ true → nat_lt most (length (t ++ a)) ≡ true
too_long most t a h =
    let e : length (t ++ a) ≡ length t + length a = length-append t a in
    let k : most < length t = ltb-true most (length t) h in
    lt-ltb most (length (t ++ a)) (omega (arith, e, k))

added_by : (b : Bool) (t u more : List ℕ) → nat_lt PRINTED_BYTES_LIMIT (length t) ≡ b → t ++ more ≡ u →
    added (if b then None else Some t) more ≡ (if nat_lt PRINTED_BYTES_LIMIT (length u) then None else Some u)
added_by true t u more h e =
    let k : nat_lt PRINTED_BYTES_LIMIT (length u) ≡ true = ap (λ x. nat_lt PRINTED_BYTES_LIMIT (length x)) (sym e) ∙ too_long PRINTED_BYTES_LIMIT t more h in
    ap (λ c. if c then None else Some u) (sym k)
added_by false t u more h e = ap (λ x. if nat_lt PRINTED_BYTES_LIMIT (length x) then None else Some x) e

pub added_append : (page : Option (List ℕ)) (a b : List ℕ) → added (added page a) b ≡ added page (a ++ b)
added_append None a b = refl
added_append (Some t) a b = added_by (nat_lt PRINTED_BYTES_LIMIT (length (t ++ a))) (t ++ a) (t ++ (a ++ b)) b refl (append_assoc t a b)

pub append_nothing : (xs : List ℕ) → xs ++ [] ≡ xs
append_nothing [] = refl
append_nothing (x ∷ xs) = ap (λ ys. x ∷ ys) (append_nothing xs)
