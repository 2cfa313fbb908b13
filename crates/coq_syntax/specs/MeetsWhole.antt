-- What a parser of whole token lists answers, for any grammar: the one tree, or the leftmost refusal.
use Rattle.std.specs.Prelude.{◌≡◌, ◌⊎◌, Option, None, Ok, Err, List, []}
use Rattle.coq_syntax.specs.declared.token.Token.{Token}
use Rattle.coq_syntax.specs.Faults.{Fault}
use Rattle.coq_syntax.specs.CommandTrees.{Command}
use Rattle.coq_syntax.specs.MoveTrees.{Move}
use Rattle.coq_syntax.specs.Commands.{IsCommandOf, command_fault}
use Rattle.coq_syntax.specs.Moves.{IsMoveOf, move_fault}
use Rattle.coq_syntax.specs.Refusals.{Outcome, unexpected, OneTreeOf, IsUnexpected, IsLimit}

module _ {A : Type 0} (Is : List Token → A → Type 0) (fault_of : A → Option Fault) where
  -- the next token is unexpected, or a limit is passed there
  abbrev pub IsRefusedWhole : List Token → Fault → Type 0
  IsRefusedWhole tokens f = ((f.code ≡ unexpected) × IsUnexpected Is fault_of tokens f.rest) ⊎ IsLimit Is fault_of tokens f

  -- the answer to these tokens
  abbrev pub IsWholeAnswer : List Token → Outcome A → Type 0
  IsWholeAnswer tokens (Ok p) = (p.1 ≡ []) × Is tokens p.0 × (fault_of p.0 ≡ None)
  IsWholeAnswer tokens (Err f) = IsRefusedWhole tokens f

  -- a token list has at most one answer, since the clauses on it leave nothing open
  abbrev pub OneWholeAnswer : Type 0
  OneWholeAnswer = (tokens : List Token) (a b : Outcome A) → IsWholeAnswer tokens a → IsWholeAnswer tokens b → a ≡ b

-- of commands
abbrev pub OneCommandAnswer : Type 0
OneCommandAnswer = OneWholeAnswer IsCommandOf command_fault

-- of proof moves
abbrev pub OneMoveAnswer : Type 0
OneMoveAnswer = OneWholeAnswer IsMoveOf move_fault

-- a token list has at most one command
abbrev pub OneCommand : Type 0
OneCommand = OneTreeOf IsCommandOf

-- a token list has at most one proof move
abbrev pub OneMove : Type 0
OneMove = OneTreeOf IsMoveOf
