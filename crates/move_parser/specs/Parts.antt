-- The parts of proof moves that end with the sentence, and what a reader of one answers.
use Rattle.std.specs.Prelude.{◌≡◌, ℕ, drop, Option, None, Result, Ok, Err, List, [], ◌∷◌}
use Rattle.base_core.specs.declared.refusals.Stop.{Stop}
use Rattle.base_core.specs.declared.refusals.Stop.TheVariants as stop
use Rattle.coq_syntax.specs.declared.token.Token.{Token}
use Rattle.coq_syntax.specs.declared.words.Word.{Word}
use Rattle.coq_syntax.specs.declared.words.BoundName.{BoundName}
use Rattle.coq_syntax.specs.declared.moves.Direction.{Direction}
use Rattle.coq_syntax.specs.declared.moves.Direction.TheVariants.{Unmarked, Forward, Backward}
use Rattle.coq_syntax.specs.Tokens.{Tokens}
use Rattle.coq_syntax.specs.Trees.{Term}
use Rattle.coq_syntax.specs.MoveTrees.{PatternCase, Pattern}
use Rattle.coq_syntax.specs.Spelled.{identifier, name, names, spells}
use Rattle.coq_syntax.specs.Grammar.{IsTerm}
use Rattle.coq_syntax.specs.Faults.{Fault}
use Rattle.coq_syntax.specs.Moves.{optional, identifiers, cases, pattern_tokens, direction}
use Rattle.coq_syntax.specs.Refusals.{IsUnexpected}
use Rattle.coq_syntax.specs.Meets.{fault_of_term}
use Rattle.coq_syntax.specs.MeetsWhole.{IsRefusedWhole}
use Rattle.coq_syntax.specs.Answers.{IsRefusal}
use Rattle.move_parser.specs.declared.cursor.Halt.{Halt}
use Rattle.move_parser.specs.declared.cursor.Halt.TheVariants.{Unexpected, NoMem}
use Rattle.move_parser.specs.Marks.{written}
use Rattle.move_parser.specs.declared.mark.Mark.TheVariants as mark
use Rattle.move_parser.specs.Reading.{NoneNext}

-- ---- the parts

-- no token
abbrev pub IsEndOf : List Token → Unit {0} → Type 0
IsEndOf tokens u = [] ≡ tokens

-- [identifier]
abbrev pub IsOptionalOf : List Token → Option Word → Type 0
IsOptionalOf tokens x = optional x ≡ tokens

-- {identifier}
abbrev pub AreIdentifiersOf : List Token → List Word → Type 0
AreIdentifiersOf tokens xs = identifiers xs ≡ tokens

-- identifier
abbrev pub IsIdentifierOf : List Token → Word → Type 0
IsIdentifierOf tokens x = identifier x ∷ [] ≡ tokens

-- [`as` pattern]
abbrev pub IsPatternOf : List Token → Option Pattern → Type 0
IsPatternOf tokens p = pattern_tokens p ≡ tokens

-- identifier [`as` pattern]
abbrev pub IsSubjectOf : List Token → Word × Option Pattern → Type 0
IsSubjectOf tokens s = identifier s.0 ∷ pattern_tokens s.1 ≡ tokens

-- [`->` | `<-`] term
abbrev pub IsRewritingOf : List Token → Direction × Term → Type 0
IsRewritingOf tokens r = IsTerm r.1 × (direction r.0 (spells r.1 []) ≡ tokens)

abbrev pub fault_of_rewriting : Direction × Term → Option Fault
fault_of_rewriting r = fault_of_term r.1

-- the arrow that stands first, or none does
abbrev pub IsDirection : List Token → Direction → Type 0
IsDirection tokens Unmarked = NoneNext (written mark.Forward) tokens × NoneNext (written mark.Backward) tokens
IsDirection tokens (Forward place) = (rest : List Token) × (tokens ≡ written mark.Forward place ∷ rest)
IsDirection tokens (Backward place) = (rest : List Token) × (tokens ≡ written mark.Backward place ∷ rest)

-- where the term of a rewriting begins, whose word stands first
abbrev pub term_place : Direction → ℕ
term_place Unmarked = 1
term_place (Forward place) = 2
term_place (Backward place) = 2

-- these tokens stand behind the first of the list
abbrev pub IsBehindFirst : List Token → List Token → Type 0
IsBehindFirst [] rest = ⊥
IsBehindFirst (t ∷ tokens) rest = tokens ≡ rest

-- no limit is named for a part without a term
abbrev pub no_fault : {A : Type 0} → A → Option Fault
no_fault x = None

-- ---- lists that end where no further item stands

-- {name}
abbrev pub AreNames : List Token → List BoundName → List Token → Type 0
AreNames tokens ns rest = (tokens ≡ names ns rest) × NoneNext name rest

-- {"|" {name}}, behind which stands no name where none stood before it
abbrev pub AreCases : List Token → List PatternCase → List Token → Type 0
AreCases tokens cs rest = (tokens ≡ cases cs rest) × (NoneNext name tokens → NoneNext name rest) × NoneNext (written mark.Bar) rest

-- ---- what is answered

module _ {A B : Type 0} (Is : List Token → A → Type 0) (fault_of : A → Option Fault) (view : B → A) where
  -- these tokens are the whole of a part, or the next of those that are left is unexpected
  abbrev pub IsPart : List Token → Result B Halt → Type 0
  IsPart tokens (Ok b) = Is tokens (view b) × (fault_of (view b) ≡ None)
  IsPart tokens (Err (Unexpected left)) = IsUnexpected Is fault_of tokens left.now
  IsPart tokens (Err NoMem) = Unit {0}

  -- the tokens from a place of the list on are the whole of a part, or are refused
  abbrev pub IsTail : Tokens → ℕ → Result B Stop → Type 0
  IsTail tokens at (Ok b) = Is (drop at tokens.items) (view b) × (fault_of (view b) ≡ None)
  IsTail tokens at (Err (stop.Refused r)) = (f : Fault) × IsRefusedWhole Is fault_of (drop at tokens.items) f × IsRefusal tokens r f
  IsTail tokens at (Err (stop.Out limit)) = ⊥
  IsTail tokens at (Err stop.NoMem) = Unit {0}
