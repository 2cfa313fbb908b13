-- A proof under way, as contracts see it.
use Rattle.std.specs.Prelude.{ℕ, List}
use Rattle.core_term.specs.Tree.{Tree}
use Rattle.cic_rules.specs.declared.context.Hyp.{Hyp}
use Rattle.proof_state.specs.declared.goals.Goal.{Goal}
use Rattle.proof_state.specs.Partial.{Partial}

-- what became of a goal
pub data GoalStatus : Type 0 where
  Unsolved : Goal → GoalStatus
  GivenUp : Goal → GoalStatus
  Solved : GoalStatus

-- a statement over hypotheses; its term, with the number of a goal at each hole; what became of each goal that was ever made, by
-- its number; and the numbers of those that were given up, in the order in which they were
pub record Proof : Type 0 where
  pub hyps : List Hyp
  pub statement : Tree
  pub term : Partial ℕ
  pub goals : List GoalStatus
  pub given_up : List ℕ
