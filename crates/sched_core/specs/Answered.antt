-- A request that waits goes on waiting until it is answered: no step forgets one.
use Rattle.std.specs.Prelude.{◌≡◌, ◌⊎◌, ℕ, List, All, Contains}
use Rattle.serde_json.specs.Data.{Data}
use Rattle.lsp_types.specs.declared.error_codes.ErrorCode.{ErrorCode}
use Rattle.lsp_types.specs.Bodies.{result_body, error_body}
use Rattle.doc_check.specs.Check.{Views}
use Rattle.sched_core.specs.declared.events.Event.{Event}
use Rattle.sched_core.specs.declared.waiting.Waiting.{Waiting}
use Rattle.sched_core.specs.Step.{Step}
use Rattle.sched_core.specs.Session.{Session}
use Rattle.sched_core.specs.Plain.{step}

-- a body answers a request, with a result or an error
abbrev pub Answers : Waiting → List ℕ → Type 0
Answers w body = ((result : Data) × (body ≡ result_body w.id result)) ⊎ ((code : ErrorCode) × (body ≡ error_body w.id code))

-- one of these bodies does
pub record IsAnswered (bodies : List (List ℕ)) (w : Waiting) : Type 0 where
  pub body : List ℕ
  pub listed : Contains bodies body
  pub answers : Answers w body

-- a step leaves a request waiting, or answers it
abbrev pub WaitsOrIsAnswered : Step Session → Waiting → Type 0
WaitsOrIsAnswered made w = Contains made.state.waiting w ⊎ IsAnswered made.bodies w

-- so does each step, with all that wait
abbrev pub StepsForgetNone : Type 0
StepsForgetNone = (views : Views) (session : Session) (event : Event) → All (WaitsOrIsAnswered (step views session event)) session.waiting
