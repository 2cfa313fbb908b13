use Rattle.lsp_session.proofs.WaitLemmas.{sessions_wait_for_nobody, sessions_forget_none, sessions_answer_first, served_sessions_wait, broken_sessions_wait}
use Rattle.lsp_session.proofs.laws.law_of_waiting.Goals as goal

pub returns : goal.returns
returns c = record {
  runs = sessions_wait_for_nobody;
  forgets = sessions_forget_none;
  answers = sessions_answer_first;
  served = served_sessions_wait;
  broken = broken_sessions_wait;
}
