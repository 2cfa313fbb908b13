-- The arguments of a term by which a goal is rewritten: the values that the match found, and goals for the others.
use Rattle.std.specs.Prelude.{ℕ, ◌-◌, nat_lt, List}
use Rattle.core_term.specs.Tree.{Tree, Prod}
use Rattle.core_term.specs.Places.{occurrences}
use Rattle.cic_rules.specs.declared.context.Hyp.{Hyp}
use Rattle.cic_rules.specs.declared.env.Slot.{Slot}
use Rattle.cic_rules.specs.Runs.{Run, ◌>>=◌, pure}
use Rattle.matching.specs.Patterns.{Values}
use Rattle.move_basic.specs.Apply.{argument}
use Rattle.proof_state.specs.declared.goals.Goal.{Goal}
use Rattle.proof_state.specs.Partial.{Partial, Applies}

-- a function of this type, of whose products so many are left, with an argument for each. A variable without a value may stand nowhere behind
-- its product: in no later type, and in the equation on no side
abbrev pub with_arguments : List Slot → ℕ → List Hyp → Values → ℕ → Tree → Partial Goal → Run (Partial Goal)
with_arguments env calls ctx values count (Prod n a b) function = do
  x ← argument env calls ctx values count a (nat_lt 0 (occurrences b 0))
  with_arguments env calls ctx values (count - 1) b (Applies function x)
with_arguments env calls ctx values count _ function = pure function
