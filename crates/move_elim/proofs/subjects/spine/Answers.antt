use Rattle.std.proofs.Common.{rules}
use Rattle.move_elim.proofs.ArgumentLaws.{spine_head, spine_args}
use Rattle.move_elim.proofs.subjects.spine.Goals as goal

pub returns-in-Ok-clause-head : goal.returns-in-Ok-clause-head
returns-in-Ok-clause-head c = spine_head c.in-Ok.spine _ c.args.t.now c.in-Ok.ensures (search rules)

pub returns-in-Ok-clause-args : goal.returns-in-Ok-clause-args
returns-in-Ok-clause-args c = spine_args c.in-Ok.spine _ c.args.t.now c.in-Ok.ensures (search rules)
