use Rattle.lsp_session.proofs.LeavingLemmas.{clean_exits, no_exits}
use Rattle.lsp_session.proofs.laws.law_of_exits.Goals as goal

pub returns : goal.returns
returns c = record { clean = clean_exits; none = no_exits }
