use Rattle.std.proofs.Common.{◌≡◌, ◌++◌, drop}
use Rattle.vernac_exec.specs.Views.{goal_views}
use Rattle.vernac_exec.proofs.views.listed_views.Given as goal

abbrev pub invariant-loop-at : goal.invariant-loop-at
invariant-loop-at l = l.views ++ goal_views l.env l.proof.goals (drop l.at l.numbers) ≡ goal_views l.env l.proof.goals l.numbers
