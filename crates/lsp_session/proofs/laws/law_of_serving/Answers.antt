use Rattle.lsp_session.proofs.ServedLemmas.{served_sessions_have_causes}
use Rattle.lsp_session.proofs.laws.law_of_serving.Goals as goal

pub returns : goal.returns
returns c = served_sessions_have_causes
