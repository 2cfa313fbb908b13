use Rattle.std.proofs.Common.{◌+◌, ◌*◌}
use Rattle.core_term.specs.Tree.{depth_of}
use Rattle.cic_rules.proofs.rows.+row.Given as goal

abbrev pub decreases-row_of : goal.decreases-row_of
decreases-row_of g l = 2 * depth_of l.t.now

abbrev pub decreases-product_row : goal.decreases-product_row
decreases-product_row g l = 2 * depth_of l.b.now + 1
