-- In a session that isn't paced, every request that waits is answered before the link is asked to wait.
use Rattle.std.specs.Prelude.{◌≡◌, ◌⊎◌, ℕ, false, true, Option, Some, List, [], ◌∷◌, ◌++◌, All, Contains}
use Rattle.base_core.specs.Link.{Poll}
use Rattle.base_core.specs.Sink.{appended}
use Rattle.rpc_frames.specs.Frames.{framed}
use Rattle.doc_check.specs.Check.{Views}
use Rattle.sched_core.specs.declared.waiting.Waiting.{Waiting}
use Rattle.sched_core.specs.Session.{Session}
use Rattle.sched_core.specs.Answered.{Answers}
use Rattle.lsp_session.specs.Rules.{Counted, counted, counting}
use Rattle.lsp_session.specs.Run.{Progress, Going, played, Outcome}
use Rattle.lsp_session.specs.Calls.{told_at}
use Rattle.lsp_session.specs.Served.{rules, begun, session_run, IsServed, IsFrontOf}

-- how far these polls bring a session that isn't paced
abbrev pub behind : Views → ℕ → ℕ → List Poll → Progress (Counted Session)
behind views limit work polls = played (counting (rules views)) limit (Going (begun false work) [] 0 (Some [])) polls

-- to where it polls again, and no request waits there
pub record NoneWaits (views : Views) (limit work : ℕ) (polls : List Poll) : Type 0 where
  pub state : Session
  pub used : ℕ
  pub pending : List ℕ
  pub taken : ℕ
  pub told : Option (List ℕ)
  pub there : behind views limit work polls ≡ Going (counted state used) pending taken told
  pub none : state.waiting ≡ []

-- so it is at each of these polls that may wait, behind those before it
abbrev pub WaitsForNobody : Views → ℕ → ℕ → List Poll → Type 0
WaitsForNobody views limit work polls = (before after : List Poll) (one : Poll) → polls ≡ before ++ one ∷ after → one.waits ≡ true → NoneWaits views limit work before

-- so it is in all runs of a plain session that isn't paced
abbrev pub SessionsWaitForNobody : Type 0
SessionsWaitForNobody = (views : Views) (limit work : ℕ) (polls : List Poll) (whole : Outcome (Counted Session)) → session_run views false limit work polls ≡ Some whole → WaitsForNobody views limit work polls

-- what is told now answers a request, behind what was told
pub record AnsweredSince (w : Waiting) (old now : Option (List ℕ)) : Type 0 where
  pub body : List ℕ
  pub before : List ℕ
  pub after : List ℕ
  pub grown : now ≡ appended old (before ++ (framed body ++ after))
  pub answers : Answers w body

-- over any polls a request that waits is answered, or it still waits, in a session paced or not
abbrev pub SessionsForgetNone : Type 0
SessionsForgetNone = (views : Views) (limit : ℕ) (polls : List Poll) (old new : Counted Session) (pending rest : List ℕ) (taken later : ℕ) (told now : Option (List ℕ)) → played (counting (rules views)) limit (Going old pending taken told) polls ≡ Going new rest later now → All (λ w. Contains new.plain.waiting w ⊎ AnsweredSince w told now) old.plain.waiting

-- so in one that isn't paced a request that waits behind the first polls is answered before the next one that may wait
abbrev pub SessionsAnswerFirst : Type 0
SessionsAnswerFirst = (views : Views) (limit work : ℕ) (first more after : List Poll) (one : Poll) (whole : Outcome (Counted Session)) (state : Counted Session) (pending : List ℕ) (taken : ℕ) (told : Option (List ℕ)) → session_run views false limit work ((first ++ more) ++ one ∷ after) ≡ Some whole → one.waits ≡ true → behind views limit work first ≡ Going state pending taken told → All (λ w. AnsweredSince w told (told_at (behind views limit work (first ++ more)))) state.plain.waiting

-- at the polls of a call
pub record CallWaitsForNobody (views : Views) (limit work : ℕ) (old new : Option (List Poll)) : Type 0 where
  pub polls : List Poll
  pub grown : new ≡ appended old polls
  pub waits : WaitsForNobody views limit work polls

-- so do the polls of a session over a link and a sink, one that is broken off too
abbrev pub ServedSessionsWaitForNobody : Type 0
ServedSessionsWaitForNobody = (views : Views) (limit status before after : ℕ) (told now : Option (List ℕ)) (old new : Option (List Poll)) → IsServed views false limit status before after told now old new → CallWaitsForNobody views limit before old new

abbrev pub BrokenSessionsWaitForNobody : Type 0
BrokenSessionsWaitForNobody = (views : Views) (limit before after : ℕ) (told now : Option (List ℕ)) (old new : Option (List Poll)) → IsFrontOf views false limit before after told now old new → CallWaitsForNobody views limit before old new
