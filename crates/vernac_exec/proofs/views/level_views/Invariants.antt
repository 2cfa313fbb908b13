use Rattle.std.proofs.Common.{◌≡◌, ◌++◌, drop}
use Rattle.vernac_exec.specs.Views.{level_views}
use Rattle.vernac_exec.proofs.views.level_views.Given as goal

abbrev pub invariant-loop-level : goal.invariant-loop-level
invariant-loop-level l = l.views ++ level_views l.env l.proof.goals (drop l.level l.focus.levels) ≡ level_views l.env l.proof.goals l.focus.levels
