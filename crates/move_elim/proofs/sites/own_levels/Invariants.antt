use Rattle.std.proofs.Common.{◌≡◌}
use Rattle.move_elim.specs.Sites.{levels_of}
use Rattle.move_elim.proofs.sites.own_levels.Given as goal

abbrev pub invariant-loop-level : goal.invariant-loop-level
invariant-loop-level l = l.levels ≡ levels_of l.level
