-- What the code of a rule answers, by the parser of the rule.
use Rattle.std.specs.Prelude.{◌≡◌, ◌≢◌, List, length, Result, Ok, Err}
use Rattle.coq_syntax.specs.declared.token.Token.{Token}
use Rattle.vernac_parser.specs.declared.cursor.Halt.{Halt}
use Rattle.vernac_parser.specs.declared.cursor.Halt.TheVariants.{Refused, NoMem}
use Rattle.vernac_parser.specs.Parser.{Outcome}

-- an outcome whose refusal counts the tokens from its place on
abbrev pub counted : {A : Type 0} → Outcome A → Result (A × List Token) Halt
counted (Ok p) = Ok p
counted (Err f) = Err (Refused f.code (length f.rest))

-- what was read, seen in this way, and what is left; or the refusal. Want of memory is free.
abbrev pub ReadsAs : {A B : Type 0} → (B → A) → Outcome A → Result B Halt → List Token → Type 0
ReadsAs view outcome (Ok b) left = outcome ≡ Ok (view b, left)
ReadsAs view outcome (Err e) left = e ≢ NoMem → counted outcome ≡ Err e

abbrev pub Reads : {A : Type 0} → Outcome A → Result A Halt → List Token → Type 0
Reads outcome (Ok a) left = outcome ≡ Ok (a, left)
Reads outcome (Err e) left = e ≢ NoMem → counted outcome ≡ Err e
