use Rattle.std.proofs.Common.{codes}
use Rattle.serde_json.specs.View.{view}
use Rattle.sched_core.specs.Bodies.{log_data}
use Rattle.sched_core.proofs.Floats.{log_whole, note_is}
use Rattle.sched_core.proofs.bodies.log_body.Goals as goal

pub returns : goal.returns
returns c =
    note_is c.encode_note.result (codes "window/logMessage") (view c.in_ok-params.params) (log_data c.args.text.now)
    c.in_ok-params.ensures (log_whole c.args.text.now) c.encode_note.ensures.text
