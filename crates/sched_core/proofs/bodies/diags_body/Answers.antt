use Rattle.std.proofs.Common.{codes, rules}
use Rattle.serde_json.specs.View.{view}
use Rattle.utf16_doc.specs.Indexed.{position_in}
use Rattle.sched_core.specs.Bodies.{diags_data}
use Rattle.sched_core.proofs.Floats.{diags_whole, note_is}
use Rattle.sched_core.proofs.bodies.diags_body.Goals as goal

pub returns : goal.returns
returns c =
    note_is c.encode_note.result (codes "textDocument/publishDiagnostics") (view c.in_ok-params.params)
    (diags_data (position_in c.args.doc.now) c.args.uri.now c.args.version c.args.diags.now)
    (search rules) (diags_whole (position_in c.args.doc.now) c.args.uri.now c.args.version c.args.diags.now) c.encode_note.ensures.text
