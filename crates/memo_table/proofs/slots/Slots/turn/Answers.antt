use Rattle.std.proofs.Common.{rules}
use Rattle.memo_table.proofs.Turning.{turn_kept, turn_left}
use Rattle.memo_table.proofs.slots.Slots.turn.Goals as goal

pub returns-then-contains : goal.returns-then-contains
returns-then-contains g c es e is = turn_kept c.args.hold.now.keys c.args.self.now c.promote.new.self c.in-Some.number es e is (search rules) (search rules) (search rules) (search rules)

pub returns-else-contains : goal.returns-else-contains
returns-else-contains g c es e is = turn_left c.args.hold.now.keys c.args.self.now c.drop_last.new.self c.in-Some.number es e is (search rules) (search rules) (search rules)
