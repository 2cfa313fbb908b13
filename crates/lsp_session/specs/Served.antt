-- What a session over a link and a sink is held to.
use Rattle.std.specs.Prelude.{◌≡◌, ◌≢◌, ◌⊎◌, ℕ, ◌+◌, Bool, Option, Some, List}
use Rattle.base_core.specs.Link.{Poll}
use Rattle.prover_iface.specs.Meanings.{Meanings}
use Rattle.doc_check.specs.Check.{Views, views}
use Rattle.sched_core.specs.Session.{Session, fresh}
use Rattle.sched_core.specs.Work.{waits}
use Rattle.sched_core.specs.Plain.{step}
use Rattle.lsp_session.specs.Rules.{Rules, Counted, counted, counting}
use Rattle.lsp_session.specs.Run.{Outcome, run}
use Rattle.lsp_session.specs.Serves.{ServesWhole, IsFront}

-- the steps of the plain session, by what checking a text says
abbrev pub rules : Views → Rules Session
rules views = record { step = step views; waits = waits }

-- where a session begins, after so much work
abbrev pub begun : Bool → ℕ → Counted Session
begun paced work = counted (fresh paced) work

-- the run of a session
abbrev pub session_run : Views → Bool → ℕ → ℕ → List Poll → Option (Outcome (Counted Session))
session_run views paced limit work polls = run (counting (rules views)) limit (begun paced work) polls

-- what was written in this call is what the run over its polls writes, the status is its end, and the count of work
-- stands where the run's does
pub record IsServed (views : Views) (paced : Bool) (limit : ℕ) (status : ℕ) (before after : ℕ) (told now : Option (List ℕ)) (old new : Option (List Poll)) : Type 0 where
  pub state : Session
  pub whole : ServesWhole (counting (rules views)) limit (begun paced before) status (counted state after) told now old new

-- or it is a first part of that, which holds all that the run without the last poll writes; and the count of work
-- stands no higher than the run's
abbrev pub IsFrontOf : Views → Bool → ℕ → ℕ → ℕ → Option (List ℕ) → Option (List ℕ) → Option (List Poll) → Option (List Poll) → Type 0
IsFrontOf views paced limit before after told now old new = IsFront (counting (rules views)) limit (begun paced before) after told now old new

-- a session by its status: 4 and 5 break it off. It begins with the work that a prover's first state costs
pub record SessionServes {M : Type 0} (means : Meanings M) (paced : Bool) (limit : ℕ) (status : ℕ) (before after : ℕ) (told now : Option (List ℕ)) (old new : Option (List Poll)) : Type 0 where
  pub whole : status ≢ 4 → status ≢ 5 → IsServed (views means) paced limit status (before + means.first_cost) after told now old new
  pub cut : (status ≡ 4) ⊎ (status ≡ 5) → (bytes : List ℕ) → told ≡ Some bytes → IsFrontOf (views means) paced limit (before + means.first_cost) after told now old new
