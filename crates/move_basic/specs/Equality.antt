-- Equations between sides that are convertible.
use Rattle.std.specs.Prelude.{ℕ, ◌==◌, List, true, Option, Some, None, if◌then◌else◌, codes}
use Rattle.base_core.specs.declared.refusal_codes.TheConstants.{NOT_AN_EQUALITY, NOT_CONVERTIBLE}
use Rattle.core_term.specs.Tree.{Tree, Constant, App}
use Rattle.cic_rules.specs.declared.context.Hyp.{Hyp}
use Rattle.cic_rules.specs.declared.env.Slot.{Slot}
use Rattle.cic_rules.specs.declared.judge.Mode.TheVariants.{Same}
use Rattle.cic_rules.specs.Convert.{conv_at}
use Rattle.cic_rules.specs.Environments.{place_in}
use Rattle.cic_rules.specs.Reduce.{whnf_at}
use Rattle.cic_rules.specs.Runs.{Run, ◌>>=◌, ◌>>◌, pure, require, check_size, some_or}
use Rattle.proof_state.specs.declared.goals.Goal.{Goal}
use Rattle.proof_state.specs.Partial.{Partial, Ready}
use Rattle.move_basic.specs.declared.equality.Equation.{Equation}

-- by the places of `eq` and of its constructor
abbrev pub sides_of : ℕ → ℕ → Tree → Option Equation
sides_of eq same (App (App (App (Constant c) a) l) r) = if c == eq then Some (record { same = same; ty = a; left = l; right = r }) else None
sides_of eq same _ = None

-- .. and of its eliminator into `Prop`
abbrev pub equation_by : Option ℕ → Option ℕ → Option ℕ → Tree → Option Equation
equation_by (Some eq) (Some same) (Some by) t = sides_of eq same t
equation_by _ _ _ t = None

-- an equation; none is one where the environment lacks `eq`, its constructor or its eliminator
abbrev pub equation_of : List Slot → Tree → Option Equation
equation_of env t = equation_by (place_in env (codes "eq")) (place_in env (codes "eq_refl")) (place_in env (codes "eq_ind")) t

-- the left side is itself
abbrev pub reflexive : Equation → Tree
reflexive e = App (App (Constant e.same) e.ty) e.left

-- the term for an equation, whose sides must be convertible
abbrev pub by_sides : List Slot → ℕ → List Hyp → Equation → Run (Partial Goal)
by_sides env calls ctx e = do
  same ← conv_at env calls ctx Same e.left e.right
  require same NOT_CONVERTIBLE
  check_size (reflexive e)
  pure (Ready (reflexive e))

-- `reflexivity`
abbrev pub reflexivity : List Slot → ℕ → List Hyp → Tree → Run (Partial Goal)
reflexivity env calls ctx ty = do
  reduced ← whnf_at env true calls ctx ty
  e ← some_or NOT_AN_EQUALITY (equation_of env reduced)
  by_sides env calls ctx e
