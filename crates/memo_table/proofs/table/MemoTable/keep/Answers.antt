use Rattle.std.proofs.Common.{rules}
use Rattle.base_core.specs.declared.limits.TheConstants.{TABLE_LIMIT}
use Rattle.memo_table.proofs.Counting.{next_fresh, counted_entered}
use Rattle.memo_table.proofs.table.MemoTable.keep.Goals as goal

pub put-requires-clause-new_number : goal.put-requires-clause-new_number
put-requires-clause-new_number g c = next_fresh c.self.inside.given _ c.self.invariant c.in-Some.number (search rules)

pub invariant_of-self-2 : goal.invariant_of-self-2
invariant_of-self-2 g c = counted_entered c.self.inside.given c.self.inside.slots c.self.invariant c.in-Some.number (search rules) TABLE_LIMIT _ c.put.new.self c.in_ok-put.ensures.entered
