-- What stands in scope: an equation, and what is found in a goal.
use Rattle.std.specs.Prelude.{◌≡◌, ◌<◌, ℕ, ◌-◌, List, length, Option, Some, None}
use Rattle.cic_rules.specs.declared.context.Hyp.{Hyp}
use Rattle.cic_rules.specs.declared.env.Slot.{Slot}
use Rattle.cic_rules.specs.Judges.{IsTermIn}
use Rattle.cic_rules.specs.Scopes.{IsScoped}
use Rattle.matching.specs.Scopes.{AreValues}
use Rattle.move_rewrite.specs.declared.equations.Equation.{Equation}
use Rattle.move_rewrite.specs.declared.searching.Found.{Found}

-- an equation with so many variables and globals to speak of
pub record IsEquationIn (vars globals : ℕ) (e : Equation) : Type 0 where
  pub eq : e.eq < globals
  pub same : e.same < globals
  pub by : e.by < globals
  pub ty : IsScoped vars globals e.ty
  pub left : IsScoped vars globals e.left
  pub right : IsScoped vars globals e.right

-- a subterm, and values outside of all binders
pub record IsFound (env : List Slot) (ctx : List Hyp) (x : Found) : Type 0 where
  pub subterm : IsTermIn env ctx x.subterm
  pub values : AreValues (length ctx - 0) (length env) x.values

-- one for so many variables, if there is one
abbrev pub IsFoundFor : List Slot → List Hyp → ℕ → Option Found → Type 0
IsFoundFor env ctx count None = Unit {0}
IsFoundFor env ctx count (Some x) = IsFound env ctx x × (length x.values ≡ count)
