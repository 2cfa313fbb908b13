use Rattle.std.proofs.Common.{◌≡◌, ◌≤◌, length, drop, false}
use Rattle.cic_rules.specs.Inductive.{has_twice}
use Rattle.inductive_check.proofs.names.has_twice.Given as goal

abbrev pub invariant-loop-at : goal.invariant-loop-at
invariant-loop-at l = record {
  within : l.at ≤ length l.names;
  behind : l.behind ≡ drop l.at l.names;
  apart : has_twice (drop l.at l.names) ≡ false;
}

abbrev pub decreases-loop-at : goal.decreases-loop-at
decreases-loop-at l = l.at
