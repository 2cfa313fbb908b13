use Rattle.lsp_session.proofs.StatusLemmas.{statuses_have_causes}
use Rattle.lsp_session.proofs.laws.law_of_statuses.Goals as goal

pub returns : goal.returns
returns c = statuses_have_causes
