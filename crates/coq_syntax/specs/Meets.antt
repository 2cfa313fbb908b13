-- What a parser of terms answers, in the words of the grammar: the one tree, or the leftmost refusal.
use Rattle.std.specs.Prelude.{◌≡◌, ◌⊎◌, Option, None, Ok, Err, List, [], ◌++◌, length}
use Rattle.coq_syntax.specs.declared.token.Token.{Token}
use Rattle.coq_syntax.specs.Trees.{Term}
use Rattle.coq_syntax.specs.Grammar.{IsTermOf}
use Rattle.coq_syntax.specs.Faults.{Fault, term_fault}
use Rattle.coq_syntax.specs.Refusals.{Outcome, unexpected, IsBehind, IsLongest, NoTree, OneTreeOf, IsAssigned, IsUnexpected, IsLimit}

-- the fault of a term and its tokens alone
abbrev pub fault_of_term : Term → Option Fault
fault_of_term t = term_fault t []

-- The tokens are those of this tree, which has no fault, and then these: it is read up to the first token with which no
-- term begins. No longer term that they begin has a fault in them either, unless `:=` stands next here and not there.
pub record IsRead (tokens : List Token) (t : Term) (rest : List Token) : Type 0 where
  pub used : List Token
  pub parts : tokens ≡ used ++ rest
  pub tree : IsTermOf used t
  pub sound : fault_of_term t ≡ None
  pub each : (others : List Token) (longer : Term) → IsTermOf (used ++ others) longer → (IsAssigned rest → IsAssigned others)
      → IsBehind (length others) (fault_of_term longer)
  pub longest : IsLongest IsTermOf used rest

-- the next token is unexpected and those before it are no term, or a limit is passed there
abbrev pub IsRefused : List Token → Fault → Type 0
IsRefused tokens f =
    ((f.code ≡ unexpected) × (why : IsUnexpected IsTermOf fault_of_term tokens f.rest) × NoTree IsTermOf why.used)
    ⊎ IsLimit IsTermOf fault_of_term tokens f

-- the answer to these tokens
abbrev pub IsAnswer : List Token → Outcome Term → Type 0
IsAnswer tokens (Ok p) = IsRead tokens p.0 p.1
IsAnswer tokens (Err f) = IsRefused tokens f

-- a token list has at most one answer, since the clauses on it leave nothing open
abbrev pub OneAnswer : Type 0
OneAnswer = (tokens : List Token) (a b : Outcome Term) → IsAnswer tokens a → IsAnswer tokens b → a ≡ b

-- a token list has at most one tree
abbrev pub OneTree : Type 0
OneTree = OneTreeOf IsTermOf
