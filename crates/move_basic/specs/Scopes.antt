-- What stands in scope: a binder, an equation, and what a match found.
use Rattle.std.specs.Prelude.{◌<◌, ◌≤◌, ℕ, suc, List, length, Option, Some, None}
use Rattle.cic_rules.specs.declared.context.Hyp.{Hyp}
use Rattle.cic_rules.specs.declared.env.Slot.{Slot}
use Rattle.cic_rules.specs.Judges.{IsTermIn}
use Rattle.cic_rules.specs.Scopes.{IsScoped, IsScopedHyp}
use Rattle.matching.specs.Patterns.{Values}
use Rattle.matching.specs.Scopes.{AreValues}
use Rattle.move_basic.specs.declared.equality.Equation.{Equation}
use Rattle.move_basic.specs.declared.opening.Opening.{Opening}

-- a type's binder, and what stands under it
pub record IsOpeningIn (env : List Slot) (ctx : List Hyp) (o : Opening) : Type 0 where
  pub hyp : IsScopedHyp (length ctx) (length env) o.hyp
  pub under : IsScoped (suc (length ctx)) (length env) o.under

-- an equation
pub record IsEquationIn (env : List Slot) (ctx : List Hyp) (e : Equation) : Type 0 where
  pub same : e.same < length env
  pub ty : IsTermIn env ctx e.ty
  pub left : IsTermIn env ctx e.left
  pub right : IsTermIn env ctx e.right

-- what a match found for so few variables, if it found anything
abbrev pub AreFoundFor : ℕ → ℕ → Option Values → Type 0
AreFoundFor vars globals None = Unit {0}
AreFoundFor vars globals (Some values) = AreValues vars globals values × (length values ≤ 1000)
