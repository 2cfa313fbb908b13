use Rattle.std.proofs.Common.{codes, length, [], ◌∷◌, rules}
use Rattle.serde_json.specs.View.{view}
use Rattle.utf16_doc.specs.Indexed.{position_in}
use Rattle.goals_query.specs.Places.{range_data}
use Rattle.sched_core.specs.Bodies.{progress_data, processing_data}
use Rattle.sched_core.proofs.Floats.{progress_whole, note_is}
use Rattle.sched_core.proofs.bodies.progress_body.Goals as goal

pub returns : goal.returns
returns c =
    let text = c.args.doc.now.text in
    let at = position_in c.args.doc.now in
    note_is c.encode_note.result (codes "$/coq/fileProgress") (view c.in_ok-params.params)
    (progress_data (processing_data (range_data at c.args.from (length text)) ∷ []) c.args.uri.now c.args.version)
    (search rules)
    (progress_whole at c.args.uri.now c.args.version c.args.from (length text)) c.encode_note.ensures.text
