-- What a cursor takes of the tokens that are left.
use Rattle.std.specs.Prelude.{◌≡◌, Bool, false, bytes_eq, codes, if◌then◌else◌, Option, None, Some, Result, Ok, Err, List, ◌∷◌}
use denote.Enum.Bare.{sameb}
use Rattle.coq_syntax.specs.contracts.token.TokenKind.{the_type}
use Rattle.coq_syntax.specs.declared.token.TokenKind.TheVariants.{Wildcard}
use Rattle.coq_syntax.specs.declared.token.Token.{Token}
use Rattle.move_parser.specs.declared.cursor.Halt.{Halt}
use Rattle.move_parser.specs.declared.cursor.Halt.TheVariants.{Unexpected, NoMem}

-- the next token is none that is made so
abbrev pub NoneNext : {X : Type 0} → (X → Token) → List Token → Type 0
NoneNext {X} make tokens = (x : X) (rest : List Token) → tokens ≡ make x ∷ rest → ⊥

-- the next token, if it is made so
abbrev pub MayTake : {X : Type 0} → (X → Token) → List Token → Option X → List Token → Type 0
MayTake make old (Some x) new = old ≡ make x ∷ new
MayTake make old None new = (new ≡ old) × NoneNext make old

-- the next token, which has to be made so
abbrev pub IsTaken : {X : Type 0} → (X → Token) → List Token → Result X Halt → List Token → Type 0
IsTaken make old (Ok x) new = old ≡ make x ∷ new
IsTaken make old (Err (Unexpected left)) new = (left.now ≡ old) × NoneNext make old
IsTaken make old (Err NoMem) new = Unit {0}

-- the halt at these tokens
abbrev pub IsHere : List Token → Halt → Type 0
IsHere tokens (Unexpected left) = left.now ≡ tokens
IsHere tokens NoMem = ⊥

-- the token is `_`
abbrev pub is_wildcard : Token → Bool
is_wildcard t = if sameb the_type t.kind Wildcard then bytes_eq t.text (codes "_") else false
