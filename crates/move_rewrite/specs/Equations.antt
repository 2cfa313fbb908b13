-- Equations that goals are rewritten by, and the sides of one.
use Rattle.std.specs.Prelude.{ℕ, ◌==◌, nat_lt, List, Bool, false, ◌||◌, Option, Some, None, if◌then◌else◌, codes}
use Rattle.coq_syntax.specs.declared.moves.Direction.{Direction}
use Rattle.coq_syntax.specs.declared.moves.Direction.TheVariants.{Backward}
use Rattle.core_term.specs.Tree.{Tree, Var, Constant, App}
use Rattle.cic_rules.specs.declared.env.Slot.{Slot}
use Rattle.cic_rules.specs.Environments.{place_in}
use Rattle.cic_rules.specs.Steps.{Step, ◌>>◌, sized_step}
use Rattle.std.specs.Prelude.{Ok}
use Rattle.matching.specs.Patterns.{Values, has_unset, fill}
use Rattle.move_rewrite.specs.declared.equations.Equation.{Equation}

-- by the places of `eq`, of its constructor and of its eliminator into `Prop`
abbrev pub sides_of : ℕ → ℕ → ℕ → Tree → Option Equation
sides_of eq same by (App (App (App (Constant c) a) l) r) =
    if c == eq then Some (record { eq = eq; same = same; by = by; ty = a; left = l; right = r }) else None
sides_of eq same by _ = None

abbrev pub equation_by : Option ℕ → Option ℕ → Option ℕ → Tree → Option Equation
equation_by (Some eq) (Some same) (Some by) t = sides_of eq same by t
equation_by _ _ _ t = None

-- the equation that a term is; none is one where the environment lacks `eq`, its constructor or its eliminator
abbrev pub equation_of : List Slot → Tree → Option Equation
equation_of env t = equation_by (place_in env (codes "eq")) (place_in env (codes "eq_refl")) (place_in env (codes "eq_ind")) t

-- the side that is looked for, and the one that comes in its place
abbrev pub pattern_of : Direction → Equation → Tree
pattern_of (Backward place) e = e.right
pattern_of _ e = e.left

abbrev pub other_of : Direction → Equation → Tree
other_of (Backward place) e = e.left
other_of _ e = e.right

-- the head of a term is one of its newest variables, so many
abbrev pub has_variable_head : ℕ → Tree → Bool
has_variable_head count (App f a) = has_variable_head count f
has_variable_head count (Var i) = nat_lt i count
has_variable_head count _ = false

-- a variable without a value stands in the equation
abbrev pub is_unsettled : Values → Equation → Bool
is_unsettled values e = has_unset values e.ty 0 || (has_unset values e.left 0 || has_unset values e.right 0)

-- the equation at values of its variables
abbrev pub at_values : Values → Equation → Equation
at_values values e = record e { ty = fill values e.ty 0; left = fill values e.left 0; right = fill values e.right 0 }

abbrev pub filled_equation : Values → Equation → Step Equation
filled_equation values e = do
  sized_step (fill values e.ty 0)
  sized_step (fill values e.left 0)
  sized_step (fill values e.right 0)
  Ok (at_values values e)
