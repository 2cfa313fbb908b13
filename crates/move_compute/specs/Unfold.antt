-- `unfold`: the goal with a definition's body in its place. It takes no units.
use Rattle.std.specs.Prelude.{ℕ, List, Bool, Option, Some, None, Ok, Err, if◌then◌else◌}
use Rattle.base_core.specs.declared.refusals.Place.TheVariants.{Whole}
use Rattle.base_core.specs.declared.refusal_codes.TheConstants.{NOT_TRANSPARENT, NAME_NOT_IN_GOAL}
use Rattle.core_term.specs.Tree.{Tree}
use Rattle.term_spine.specs.Globals.{mentions}
use Rattle.cic_rules.specs.declared.env.Slot.{Slot}
use Rattle.cic_rules.specs.Environments.{body_of_global, place_in}
use Rattle.cic_rules.specs.Steps.{Step, TooLarge, ◌>>=◌, ◌>>◌, refuse_step}
use Rattle.move_compute.specs.Unfolding.{Making, unfolded}
use Rattle.move_compute.specs.declared.unfolding.Unfolded.{Unfolded}

-- a value that must be there
abbrev pub some_step : {A : Type 0} → ℕ → Option A → Step A
some_step code None = refuse_step code Whole
some_step code (Some x) = Ok x

-- this must hold
abbrev pub require_step : Bool → ℕ → Step (Unit {0})
require_step test code = if test then Ok tt else refuse_step code Whole

abbrev pub term_step : Making Unfolded → Step Tree
term_step (Ok u) = Ok u.term
term_step (Err stop) = Err TooLarge

-- the global of a name must be a transparent definition, whatever hypothesis has that name, and stand in the goal
abbrev pub unfold_in : List Slot → List ℕ → Tree → Step Tree
unfold_in env name goal = do
  place ← some_step NOT_TRANSPARENT (place_in env name)
  body ← some_step NOT_TRANSPARENT (body_of_global env place)
  require_step (mentions place goal) NAME_NOT_IN_GOAL
  term_step (unfolded place body goal)
