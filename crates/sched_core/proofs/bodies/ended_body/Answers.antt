use Rattle.std.proofs.Common.{codes, rules, []}
use Rattle.serde_json.specs.View.{view}
use Rattle.sched_core.specs.Bodies.{progress_data}
use Rattle.sched_core.proofs.Floats.{ended_whole, note_is}
use Rattle.sched_core.proofs.bodies.ended_body.Goals as goal

pub returns : goal.returns
returns c =
    note_is c.encode_note.result (codes "$/coq/fileProgress") (view c.in_ok-params.params) (progress_data [] c.args.uri.now c.args.version)
    (search rules)
    (ended_whole c.args.uri.now c.args.version) c.encode_note.ensures.text
