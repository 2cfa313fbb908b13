-- The causes of the status of a session over a link and a sink.
use Rattle.std.proofs.Common.{ℕ, Bool, Option, Some, List}
use Rattle.base_core.specs.Link.{Poll}
use Rattle.doc_check.specs.Check.{Views}
use Rattle.sched_core.specs.Session.{Session}
use Rattle.lsp_session.specs.Rules.{Counted, counted}
use Rattle.lsp_session.specs.Run.{Outcome, outcome}
use Rattle.lsp_session.specs.Served.{IsServed}
use Rattle.lsp_session.specs.Causes.{HasCauses}
use Rattle.lsp_session.proofs.StatusLemmas.{statuses_have_causes}
use Rattle.lsp_session.proofs.LeavingLemmas.{taken_sessions_end_clean}
use Rattle.lsp_session.proofs.GivenLemmas.{given_sessions_end_clean}

pub served_sessions_have_causes : (views : Views) (paced : Bool) (limit status before after : ℕ) (told now : Option (List ℕ)) (old new : Option (List Poll)) → IsServed views paced limit status before after told now old new → HasCauses limit status old new
served_sessions_have_causes views paced limit status before after told now old new h =
    let run = h.whole.whole in
    let whole : Outcome (Counted Session) = outcome h.whole.end (counted h.state after) (Some run.bytes) in
    record {
      polls = run.polls;
      grown = run.grown;
      causes = statuses_have_causes views paced limit before run.polls whole status run.ran h.whole.is;
      taken = taken_sessions_end_clean views paced limit before run.polls whole status run.ran h.whole.is;
      given = λ bytes. given_sessions_end_clean views paced limit before run.polls whole status bytes run.ran h.whole.is;
    }
