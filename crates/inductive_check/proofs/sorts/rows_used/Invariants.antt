use Rattle.std.proofs.Common.{◌≡◌, ◌≤◌, length, drop}
use Rattle.inductive_check.specs.Rows.{rows_used}
use Rattle.inductive_check.proofs.sorts.rows_used.Given as goal

abbrev pub invariant-loop-at : goal.invariant-loop-at
invariant-loop-at l = record {
  within : l.at ≤ length l.rows;
  found : l.used ≡ rows_used (drop l.at l.rows);
}

abbrev pub decreases-loop-at : goal.decreases-loop-at
decreases-loop-at l = l.at
