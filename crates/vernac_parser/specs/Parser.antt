-- Parsers over the tokens that are left, and the steps that every rule is made of.
use Rattle.std.specs.Prelude.{ℕ, zero, suc, Bool, if◌then◌else◌, Result, Ok, Err, List, [], ◌∷◌, length}
use Rattle.coq_syntax.specs.declared.token.Token.{Token}
use Rattle.coq_syntax.specs.declared.words.TokenPlace.{TokenPlace}
use Rattle.coq_syntax.specs.declared.words.Word.{Word}
use Rattle.coq_syntax.specs.Faults.{Fault, value_of}
use Rattle.vernac_parser.specs.declared.sign.Sign.{Sign}
use Rattle.vernac_parser.specs.declared.sign.Sign.TheVariants as sign
pub use Rattle.coq_syntax.specs.Readings.{place_of, word_of}
pub use Rattle.coq_syntax.specs.Refusals.{Outcome, unexpected}
use Rattle.vernac_parser.specs.Signs.{is_sign, sign_of, sign_at}

abbrev pub Parser : Type 0 → Type 0
Parser A = List Token → Outcome A

abbrev pub and_then : {A B : Type 0} → Outcome A → (A → Parser B) → Outcome B
and_then (Ok p) f = f p.0 p.1
and_then (Err e) f = Err e

infixl 10 ◌>>=◌
abbrev pub ◌>>=◌ : {A B : Type 0} → Parser A → (A → Parser B) → Parser B
p >>= f = λ i. and_then (p i) f

abbrev pub pure : {A : Type 0} → A → Parser A
pure a = λ i. Ok (a, i)

infixr 11 ◌<$>◌
abbrev pub ◌<$>◌ : {A B : Type 0} → (A → B) → Parser A → Parser B
f <$> p = p >>= (λ x. pure (f x))

-- a refusal at the next token, by its number
abbrev pub refuse_as : {A : Type 0} → ℕ → Parser A
refuse_as code = λ i. Err (record { code = code; rest = i })

abbrev pub refuse : {A : Type 0} → Parser A
refuse = refuse_as unexpected

-- a choice by the next token
abbrev pub choose : {A : Type 0} → (Sign → Bool) → Parser A → Parser A → Parser A
choose test p q = λ i. if test (sign_at i) then p i else q i

abbrev pub when : {A : Type 0} → Sign → Parser A → Parser A → Parser A
when s p q = choose (λ t. is_sign t s) p q

-- the next token, which has to be this one, and what is made of it
abbrev pub taken : {A : Type 0} → (Token → A) → Sign → Parser A
taken make s [] = refuse []
taken make s (t ∷ rest) = if is_sign (sign_of t) s then Ok (make t, rest) else refuse (t ∷ rest)

abbrev pub take : Sign → Parser TokenPlace
take s = taken place_of s

abbrev pub identifier : Parser Word
identifier = taken word_of sign.Identifier

-- a number, which is refused by this number where its value is out of range
abbrev pub number : (ℕ → Bool) → ℕ → Parser Word
number is_out code [] = refuse []
number is_out code (t ∷ rest) =
    if is_sign (sign_of t) sign.Number then (if is_out (value_of (word_of t)) then refuse_as code (t ∷ rest) else Ok (word_of t, rest)) else refuse (t ∷ rest)

-- ---- lists. The number bounds the turns, and each turn takes a token, so one more than there are tokens is enough.

-- the items that stand next, each of which a token that passes the test begins
unfoldable pub many : {A B : Type 0} → (Sign → Bool) → Parser A → (A → B → B) → B → ℕ → Parser B
many begins item front none zero = refuse
many begins item front none (suc n) = choose begins (do x ← item; xs ← many begins item front none n; pure (front x xs)) (pure none)

abbrev pub repeated : {A B : Type 0} → (Sign → Bool) → Parser A → (A → B → B) → B → Parser B
repeated begins item front none = λ i. many begins item front none (suc (length i)) i
