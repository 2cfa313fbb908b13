-- Where a refusal stands, for any grammar: which trees a token list has, and the first fault of a tree.
use Rattle.std.specs.Prelude.{◌≡◌, ℕ, ◌≤◌, Option, None, Some, Result, List, [], ◌∷◌, ◌++◌, codes, length}
use Rattle.base_core.specs.declared.refusal_codes.TheConstants as code
use Rattle.coq_syntax.specs.declared.token.Token.{Token}
use Rattle.coq_syntax.specs.declared.words.TokenPlace.{TokenPlace}
use Rattle.coq_syntax.specs.Spelled.{symbol}
use Rattle.coq_syntax.specs.Limits.{too_deep}
use Rattle.coq_syntax.specs.Faults.{Fault}

-- the refusal of a token that no tree allows, by its number
abbrev pub unexpected : ℕ
unexpected = code.UNEXPECTED_TOKEN

-- what was read and the tokens behind it, or a refusal
abbrev pub Outcome : Type 0 → Type 0
Outcome A = Result (A × List Token) Fault

-- a fault, if there is one, is among the last so many tokens
abbrev pub IsBehind : ℕ → Option Fault → Type 0
IsBehind left None = Unit {0}
IsBehind left (Some f) = length f.rest ≤ left

module _ {A : Type 0} (Is : List Token → A → Type 0) where
  -- some list that begins with these tokens has a tree
  abbrev pub Begin : List Token → Type 0
  Begin front = (more : List Token) × (tree : A) × Is (front ++ more) tree

  -- no list that begins with these tokens and the next of the others has a tree, if there is a next
  abbrev pub IsLongest : List Token → List Token → Type 0
  IsLongest used [] = Unit {0}
  IsLongest used (next ∷ rest) = Begin (used ++ next ∷ []) → ⊥

  abbrev pub NoTree : List Token → Type 0
  NoTree tokens = (tree : A) → Is tokens tree → ⊥

  -- at most one
  abbrev pub OneTreeOf : Type 0
  OneTreeOf = (tokens : List Token) (a b : A) → Is tokens a → Is tokens b → a ≡ b

-- only where no token is left
abbrev pub AtEnd : List Token → Type 0 → Type 0
AtEnd [] P = P
AtEnd (next ∷ rest) P = Unit {0}

-- ---- Where one token decides how those before it are read, a fault is said only of lists in which what stands behind
-- ---- decides alike: `Alike a b` where all that `a` decides there `b` decides too.

module _ (Alike : List Token → List Token → Type 0) {A : Type 0} (Is : List Token → A → Type 0) (fault_of : A → Option Fault) where
  -- No tree allows the next of these tokens, or they end too early: those before it begin a tree without a fault in them,
  -- and with the next they begin none; at the end they are none. No tree that they begin has a fault in them, where what
  -- stands behind decides alike.
  pub record IsUnexpectedBy (tokens rest : List Token) : Type 0 where
    pub used : List Token
    pub parts : tokens ≡ used ++ rest
    pub more : List Token
    pub tree : A
    pub begun : Is (used ++ more) tree
    pub sound : IsBehind (length more) (fault_of tree)
    pub each : (others : List Token) (t : A) → Is (used ++ others) t → Alike rest others → IsBehind (length others) (fault_of t)
    pub longest : IsLongest Is used rest
    pub early : AtEnd rest (NoTree Is used)

  -- A limit is passed at the next of these tokens: the tokens up to it begin a tree, and its first fault is this one.
  -- That is so of each tree which they begin, and for a nesting too deep of each where what stands behind decides alike.
  pub record IsLimitBy (tokens : List Token) (fault : Fault) : Type 0 where
    pub used : List Token
    pub next : Token
    pub after : List Token
    pub parts : tokens ≡ used ++ next ∷ after
    pub place : fault.rest ≡ next ∷ after
    pub more : List Token
    pub tree : A
    pub begun : Is (used ++ next ∷ more) tree
    pub first : fault_of tree ≡ Some (record { code = fault.code; rest = next ∷ more })
    pub each : (others : List Token) (t : A) → Is (used ++ next ∷ others) t → (fault.code ≡ too_deep → Alike others after)
        → fault_of t ≡ Some (record { code = fault.code; rest = next ∷ others })

-- ---- the grammar of terms, commands and proof moves

-- `:=` stands next, so an identifier before it in an argument is the argument's name and begins no term
abbrev pub IsAssigned : List Token → Type 0
IsAssigned [] = ⊥
IsAssigned (t ∷ rest) = (place : TokenPlace) × (t ≡ symbol (codes ":=") place)

-- where `:=` stands in the first, it stands in the second
abbrev pub AssignedAlike : List Token → List Token → Type 0
AssignedAlike a b = IsAssigned a → IsAssigned b

abbrev pub IsUnexpected : {A : Type 0} → (List Token → A → Type 0) → (A → Option Fault) → List Token → List Token → Type 0
IsUnexpected Is fault_of tokens rest = IsUnexpectedBy AssignedAlike Is fault_of tokens rest

abbrev pub IsLimit : {A : Type 0} → (List Token → A → Type 0) → (A → Option Fault) → List Token → Fault → Type 0
IsLimit Is fault_of tokens fault = IsLimitBy AssignedAlike Is fault_of tokens fault
