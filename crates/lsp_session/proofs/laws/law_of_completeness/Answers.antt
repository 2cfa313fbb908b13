use Rattle.lsp_session.proofs.LeavingLemmas.{whole_sessions_end_clean, taken_sessions_end_clean}
use Rattle.lsp_session.proofs.GivenLemmas.{given_sessions_end_clean}
use Rattle.lsp_session.proofs.laws.law_of_completeness.Goals as goal

pub returns : goal.returns
returns c = record { ending = whole_sessions_end_clean; taken = taken_sessions_end_clean; given = given_sessions_end_clean }
