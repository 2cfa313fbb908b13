use Rattle.std.proofs.Common.{◌≡◌, ◌++◌, drop}
use Rattle.move_elim.specs.Branches.{without_names}
use Rattle.move_elim.proofs.branches.without_names.Given as goal

abbrev pub invariant-loop : goal.invariant-loop
invariant-loop l = l.branches ++ without_names (drop l.index l.ctors) ≡ without_names l.ctors
