use Rattle.std.proofs.Common.{◌∙◌}
use Rattle.memo_table.proofs.Counting.{none_at_start}
use Rattle.memo_table.proofs.table.MemoTable.entry.Goals as goal

pub returns-clause-none : goal.returns-clause-none
returns-clause-none g c is = c.made.ensures ∙ none_at_start c.self.inside.given _ c.self.invariant c.args.number is
