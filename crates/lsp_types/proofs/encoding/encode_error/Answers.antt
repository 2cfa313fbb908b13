use Rattle.lsp_types.proofs.Printed.{error_told}
use Rattle.lsp_types.proofs.encoding.encode_error.Goals as goal

pub returns-clause-text : goal.returns-clause-text
returns-clause-text c = error_told c.write.result _ c.args.id.now c.args.error c.in_ok-body.ensures c.write.ensures.text
