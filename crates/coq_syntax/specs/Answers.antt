-- What the calls on a token list answer, with the places of refusals.
use Rattle.std.specs.Prelude.{◌≡◌, ℕ, ◌+◌, ◌-◌, ◌^◌, min, Option, None, Result, Ok, Err, List, [], ◌∷◌, ◌++◌}
use Rattle.base_core.specs.declared.refusals.Place.{Place}
use Rattle.base_core.specs.declared.refusals.Place.TheVariants.{Part}
use Rattle.base_core.specs.declared.refusals.Refusal.{Refusal}
use Rattle.base_core.specs.declared.refusals.Stop.{Stop}
use Rattle.base_core.specs.declared.refusals.Stop.TheVariants.{Refused, Out, NoMem}
use Rattle.coq_syntax.specs.declared.token.Token.{Token}
use Rattle.coq_syntax.specs.Tokens.{Tokens}
use Rattle.coq_syntax.specs.Faults.{Fault}
use Rattle.coq_syntax.specs.CommandTrees.{Command}
use Rattle.coq_syntax.specs.MoveTrees.{Move}
use Rattle.coq_syntax.specs.Commands.{IsCommandOf, command_fault}
use Rattle.coq_syntax.specs.Moves.{IsMoveOf, move_fault}
use Rattle.coq_syntax.specs.Refusals.{Outcome}
use Rattle.coq_syntax.specs.MeetsWhole.{IsRefusedWhole}

-- the place of the next of these tokens, or of the period behind them, as far as numbers of 32 bits go
abbrev pub next_place : ℕ → List Token → Place
next_place period [] = Part period (min (period + 1) (2 ^ 32 - 1))
next_place period (t ∷ rest) = Part t.from t.to

-- the refusal that a fault is
abbrev pub refusal : Tokens → Fault → Refusal
refusal tokens f = record { code = f.code; place = next_place tokens.period f.rest }

abbrev pub IsRefusal : Tokens → Refusal → Fault → Type 0
IsRefusal tokens r f = (r.code ≡ f.code) × (r.place ≡ next_place tokens.period f.rest)

-- the answer to a whole list, as it is told to callers
abbrev pub told : {A : Type 0} → Tokens → Outcome A → Result A Stop
told tokens (Ok p) = Ok p.0
told tokens (Err f) = Err (Refused (refusal tokens f))

-- the place of a token of the list, or of the period behind them all
pub record IsPlaceIn (tokens : Tokens) (place : Place) : Type 0 where
  pub used : List Token
  pub rest : List Token
  pub parts : tokens.items ≡ used ++ rest
  pub is : place ≡ next_place tokens.period rest

module _ {A : Type 0} (Is : List Token → A → Type 0) (fault_of : A → Option Fault) where
  -- the list is whole a tree, or none
  abbrev pub IsWholeParsed : Tokens → Result A Stop → Type 0
  IsWholeParsed tokens (Ok x) = Is tokens.items x × (fault_of x ≡ None)
  IsWholeParsed tokens (Err (Refused r)) = (f : Fault) × IsRefusedWhole Is fault_of tokens.items f × IsRefusal tokens r f
  IsWholeParsed tokens (Err (Out limit)) = ⊥
  IsWholeParsed tokens (Err NoMem) = Unit {0}

-- the list is a command, or none
abbrev pub IsCommandParsed : Tokens → Result Command Stop → Type 0
IsCommandParsed = IsWholeParsed IsCommandOf command_fault

-- the list is a proof move, or none
abbrev pub IsMoveParsed : Tokens → Result Move Stop → Type 0
IsMoveParsed = IsWholeParsed IsMoveOf move_fault
