use Rattle.std.proofs.Common.{◌≡◌, ◌++◌, drop}
use Rattle.cic_rules.specs.Environments.{without}
use Rattle.inductive_check.proofs.sorts.without.Given as goal

abbrev pub invariant-loop-other : goal.invariant-loop-other
invariant-loop-other l = l.others ++ without l.place (drop l.other-index l.used) ≡ without l.place l.used
