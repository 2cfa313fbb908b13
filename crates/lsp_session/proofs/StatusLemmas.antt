-- Each exit status comes exactly where its ending does.
use Rattle.std.proofs.Common.{◌≡◌, ℕ, ◌↔◌, Bool, ◌==◌, Some, List, refl, sym, ◌∙◌, ap, if◌then◌else◌}
use Rattle.base_core.specs.Link.{Poll}
use Rattle.sched_core.specs.declared.events.Exit.TheVariants.{Clean, Early}
use Rattle.lsp_session.specs.declared.endings.Ending.{Ending}
use Rattle.lsp_session.specs.declared.endings.Ending.TheVariants as ending
use Rattle.lsp_session.specs.Run.{Outcome}
use Rattle.lsp_session.specs.Status.{status_of}
use Rattle.doc_check.specs.Check.{Views}
use Rattle.sched_core.specs.Session.{Session}
use Rattle.lsp_session.specs.Rules.{Counted}
use Rattle.lsp_session.specs.Served.{session_run}
use Rattle.lsp_session.specs.Causes.{EndsBy, StatusBy}
use Rattle.lsp_session.proofs.EndingLemmas.{endings_have_causes}

-- the ending of a status
abbrev ending_of : ℕ → Ending
ending_of status =
    if status == 0 then ending.Exit Clean else
    (if status == 1 then ending.Exit Early else
    (if status == 3 then ending.LinkFailed else
    (if status == 6 then ending.LinkEnded else
    (if status == 7 then ending.FrameFault else ending.TakenLimit))))

ending_of_status : (end : Ending) → ending_of (status_of end) ≡ end
ending_of_status (ending.Exit Clean) = refl
ending_of_status (ending.Exit Early) = refl
ending_of_status ending.LinkFailed = refl
ending_of_status ending.LinkEnded = refl
ending_of_status ending.FrameFault = refl
ending_of_status ending.TakenLimit = refl

-- a status is that of one ending
by_ending : (status : ℕ) (end other : Ending) {P : Type 0} → status ≡ status_of end → (end ≡ other) ↔ P → (status ≡ status_of other) ↔ P
by_ending status end other is h = (
  λ e. h.0 (sym (ending_of_status end) ∙ ap ending_of (sym is ∙ e) ∙ ending_of_status other),
  λ k. is ∙ ap status_of (h.1 k),
)

status_by : (limit : ℕ) (status : ℕ) (end : Ending) (polls : List Poll) → status ≡ status_of end → EndsBy limit end polls → StatusBy limit status polls
status_by limit status end polls is h = record {
  clean = by_ending status end (ending.Exit Clean) is h.clean;
  early = by_ending status end (ending.Exit Early) is h.early;
  failed = by_ending status end ending.LinkFailed is h.failed;
  ended = by_ending status end ending.LinkEnded is h.ended;
  faulty = by_ending status end ending.FrameFault is h.faulty;
  full = by_ending status end ending.TakenLimit is h.full;
  end_first = h.end_first;
}

pub statuses_have_causes : (views : Views) (paced : Bool) (limit work : ℕ) (polls : List Poll) (whole : Outcome (Counted Session)) (status : ℕ) → session_run views paced limit work polls ≡ Some whole → status ≡ status_of whole.ending → StatusBy limit status polls
statuses_have_causes views paced limit work polls whole status ran is = status_by limit status whole.ending polls is (endings_have_causes views paced limit work polls whole ran)
