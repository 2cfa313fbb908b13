use Rattle.serde_json.specs.View.{view}
use Rattle.lsp_types.proofs.Printed.{result_told}
use Rattle.lsp_types.proofs.encoding.encode_result.Goals as goal

pub returns-clause-text : goal.returns-clause-text
returns-clause-text c = result_told c.write.result _ c.args.id.now (view c.args.x) c.in_ok-body.ensures c.write.ensures.text
