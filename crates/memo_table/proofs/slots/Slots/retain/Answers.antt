use Rattle.std.proofs.Common.{rules}
use Rattle.memo_table.proofs.Turning.{trimming_starts, trimming_goes}
use Rattle.memo_table.proofs.slots.Slots.retain.Goals as goal

pub loop-turn-init : goal.loop-turn-init
loop-turn-init g c = (c.len-turn-end.ensures.len, trimming_starts c.args.hold.now.keys c.args.self.now)

pub loop-turn-preserved : goal.loop-turn-preserved
loop-turn-preserved g c = (
  c.len-turn-end.ensures.len,
  trimming_goes c.args.hold.now.keys c.args.self.now c.loop-turn.self c.turn.new.self c.loop-turn._turn c.loop-turn.invariant.1 (search rules) c.turn.ensures,
)
