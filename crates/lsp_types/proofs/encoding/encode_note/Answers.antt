use Rattle.serde_json.specs.View.{view}
use Rattle.lsp_types.proofs.Printed.{note_told}
use Rattle.lsp_types.proofs.encoding.encode_note.Goals as goal

pub returns-clause-text : goal.returns-clause-text
returns-clause-text c = note_told c.write.result _ c.args.method.now (view c.args.params) c.in_ok-body.ensures c.write.ensures.text
