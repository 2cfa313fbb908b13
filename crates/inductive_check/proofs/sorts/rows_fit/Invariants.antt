use Rattle.std.proofs.Common.{◌≡◌, drop}
use Rattle.cic_rules.specs.Inductive.{rows_fit}
use Rattle.inductive_check.specs.Rows.{row_domains}
use Rattle.inductive_check.proofs.sorts.rows_fit.Given as goal

abbrev pub invariant-loop-row : goal.invariant-loop-row
invariant-loop-row l = rows_fit l.sort (row_domains (drop l.row-index l.rows)) ≡ rows_fit l.sort (row_domains l.rows)
