-- The goals of a sketch get their numbers.
use Rattle.std.specs.Prelude.{◌+◌, nat_le, List, ◌++◌, length, map, Result, Ok, Err, if◌then◌else◌}
use Rattle.base_core.specs.declared.refusals.Stop.{Stop}
use Rattle.base_core.specs.declared.refusals.Stop.TheVariants.{Out}
use Rattle.base_core.specs.declared.refusals.Limit.TheVariants.{SizeLimit}
use Rattle.proof_state.specs.declared.goals.Goal.{Goal}
use Rattle.proof_state.specs.declared.goals.TheConstants.{GOAL_LIMIT}
use Rattle.proof_state.specs.declared.parts.Part.{Part}
use Rattle.proof_state.specs.declared.parts.Part.TheVariants.{Open}
use Rattle.proof_state.specs.declared.numbering.Numbered.{Numbered}
use Rattle.proof_state.specs.Partial.{Partial, holes, numbered}

-- the goals of a sketch stand behind the parts, and their numbers in the sketch
abbrev pub all_numbered : Partial Goal → List Part → Numbered
all_numbered s ps = record { sketch = numbered (length ps) s; parts = ps ++ map Open (holes s) }

-- where there are not too many
abbrev pub numbering : Partial Goal → List Part → Result Numbered Stop
numbering s ps = if nat_le (length ps + length (holes s)) GOAL_LIMIT then Ok (all_numbered s ps) else Err (Out SizeLimit)
