use Rattle.lsp_session.proofs.EndingLemmas.{endings_have_causes}
use Rattle.lsp_session.proofs.laws.law_of_endings.Goals as goal

pub returns : goal.returns
returns c = endings_have_causes
