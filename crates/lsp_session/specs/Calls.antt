-- What the calls of a session's loop do.
use Rattle.std.specs.Prelude.{◌≡◌, ℕ, ◌+◌, ◌-◌, ◌*◌, ◌<◌, ◌≤◌, ◌⊎◌, Bool, false, Option, None, Some, Result, Ok, Err, List}
use Rattle.std.specs.List.{flat_map}
use Rattle.base_core.specs.declared.limits.TheConstants.{TEXT_LIMIT}
use Rattle.rpc_frames.specs.Frames.{framed, frames}
use Rattle.base_core.specs.Link.{Poll, polled}
use Rattle.base_core.specs.Sink.{appended, Begins}
use Rattle.base_core.specs.declared.writing.Halt.{Halt}
use Rattle.sched_core.specs.declared.events.Event.{Event}
use Rattle.sched_core.specs.declared.events.Event.TheVariants as event
use Rattle.sched_core.specs.declared.events.Exit.{Exit}
use Rattle.sched_core.specs.declared.events.Written.{Written}
use Rattle.sched_core.specs.Step.{Step}
use Rattle.lsp_session.specs.declared.endings.Ending.{Ending}
use Rattle.lsp_session.specs.declared.endings.Ending.TheVariants as ending
use Rattle.lsp_session.specs.declared.messages.Drained.{Drained}
use Rattle.lsp_session.specs.declared.messages.Drained.TheVariants as drained
use Rattle.lsp_session.specs.declared.turns.Turn.{Turn}
use Rattle.lsp_session.specs.declared.turns.Turn.TheVariants as turn
use Rattle.lsp_session.specs.Rules.{Rules, Counted, said}
use Rattle.lsp_session.specs.Run.{Progress, Going, Gone, Strange, all_heard, play}

-- what is told now is what was told, and perhaps more
pub record Extends (old new : Option (List ℕ)) : Type 0 where
  pub more : List ℕ
  pub grown : new ≡ appended old more

-- what the sink tells at this point of a run
abbrev pub told_at : {S : Type 0} → Progress S → Option (List ℕ)
told_at (Going state pending taken told) = told
told_at (Gone end state told) = told
told_at Strange = None

-- the work that was done up to there
abbrev pub work_at : {S : Type 0} → Progress (Counted S) → ℕ
work_at (Going state pending taken told) = state.work
work_at (Gone end state told) = state.work
work_at Strange = 0

-- some of what is due was written, and no more work was done
pub record IsCut {S : Type 0} (whole : Progress (Counted S)) (used : ℕ) (old new : Option (List ℕ)) : Type 0 where
  pub holds : Extends old new
  pub front : Extends new (told_at whole)
  pub spent : used ≤ work_at whole

-- what a step gave is written, or some of the first bytes of it
abbrev pub Emits : Written → Result (Option Exit) Halt → Option (List ℕ) → Option (List ℕ) → Type 0
Emits written (Ok exit) old new = (exit ≡ written.exit) × (new ≡ appended old (flat_map framed written.bodies))
Emits written (Err halt) old new = Begins old new (flat_map framed written.bodies)

-- a step is made and its bodies are written, or some of their first bytes, by no more work
abbrev pub Does : {S : Type 0} → Step (Counted S) → Result (Option Exit) Halt → Counted S → Option (List ℕ) → Option (List ℕ) → Type 0
Does step (Ok exit) state old new = (exit ≡ step.exit) × (state ≡ step.state) × (new ≡ appended old (said step))
Does step (Err halt) state old new = (state.work ≤ step.state.work) × Begins old new (said step)

-- how many idle steps are left behind an event: a message adds no more than a text has bytes, and each of
-- them takes one away
abbrev pub LeavesIdle : Event → Bool → ℕ → ℕ → Type 0
LeavesIdle (event.Message message) waits old new = new ≤ old + TEXT_LIMIT
LeavesIdle event.Idle waits old new = waits ≡ false → new < old

-- all messages were heard, to where the run then is; or it is broken off
abbrev pub Drains : {S : Type 0} → ℕ → Progress (Counted S) → Result Drained Halt → Counted S → List ℕ → Option (List ℕ) → Option (List ℕ) → Type 0
Drains taken whole (Ok drained.Rest) state pending old new = whole ≡ Going state pending taken new
Drains taken whole (Ok (drained.Exit exit)) state pending old new = whole ≡ Gone (ending.Exit exit) state new
Drains taken whole (Ok drained.Fault) state pending old new = whole ≡ Gone ending.FrameFault state new
Drains taken whole (Err halt) state pending old new = IsCut whole state.work old new

-- one message was heard and others are left, or all were
abbrev pub Goes : {S : Type 0} → (Counted S → List ℕ → Option (List ℕ) → Progress (Counted S)) → ℕ → Progress (Counted S) → Result (Option Drained) Halt → Counted S → List ℕ → Option (List ℕ) → Option (List ℕ) → Type 0
Goes left taken whole (Ok None) state pending old new = (left state pending new ≡ whole) × Extends old new
Goes left taken whole (Ok (Some last)) state pending old new = Drains taken whole (Ok last) state pending old new
Goes left taken whole (Err halt) state pending old new = IsCut whole state.work old new

-- the messages of these bytes
abbrev pub heard_of : {S : Type 0} → Rules S → ℕ → S → List ℕ → Option (List ℕ) → Progress S
heard_of rules taken state bytes told = all_heard rules taken (frames bytes) state told

-- all messages of these bytes were heard, whatever was taken before
abbrev pub HearsAll : {S : Type 0} → Rules (Counted S) → List ℕ → Counted S → Result Drained Halt → Counted S → List ℕ → Option (List ℕ) → Option (List ℕ) → Type 0
HearsAll rules bytes start result state pending old new = (taken : ℕ) → Drains taken (heard_of rules taken start bytes old) result state pending old new

-- one of them was
abbrev pub HearsOne : {S : Type 0} → Rules (Counted S) → List ℕ → Counted S → Result (Option Drained) Halt → Counted S → List ℕ → Option (List ℕ) → Option (List ℕ) → Type 0
HearsOne rules bytes start result state pending old new = (taken : ℕ) → Goes (heard_of rules taken) taken (heard_of rules taken start bytes old) result state pending old new

-- how much the bytes held can still bring: each message takes a byte at least, and adds 1,048,576 idle steps
-- at most
abbrev pub weight_held : ℕ → ℕ → ℕ
weight_held held left = held * 1048577 + left

-- how much can still be done: each byte not yet taken counts one more than a byte held
abbrev pub weight : ℕ → ℕ → ℕ → ℕ → ℕ
weight limit taken held left = (limit - taken) * 1048578 + weight_held held left

-- how a turn ends by what became of the bytes that came
abbrev pub after_bytes : Drained → Turn
after_bytes drained.Rest = turn.On
after_bytes (drained.Exit exit) = turn.Over (ending.Exit exit)
after_bytes drained.Fault = turn.Over ending.FrameFault

-- how a turn ends by what became of the idle step
abbrev pub after_idle : Option Exit → Turn
after_idle None = turn.On
after_idle (Some exit) = turn.Over (ending.Exit exit)

-- one poll more leads from here to there
pub record OnePoll {S : Type 0} (rules : Rules S) (limit : ℕ) (start end : Progress S) (old new : Option (List Poll)) : Type 0 where
  pub one : Poll
  pub grown : new ≡ polled old one
  pub plays : play rules limit start one ≡ end

-- a poll failed, which may not be told
abbrev pub Fails : {S : Type 0} → Rules S → ℕ → Progress S → S → Option (List ℕ) → Option (List Poll) → Option (List Poll) → Type 0
Fails rules limit start state told old new = (new ≡ old) ⊎ OnePoll rules limit start (Gone ending.LinkFailed state told) old new

-- no poll came that no session makes
abbrev pub IsRun : {S : Type 0} → Progress S → Type 0
IsRun (Going state pending taken told) = Unit {0}
IsRun (Gone end state told) = Unit {0}
IsRun Strange = ⊥

-- what the last poll brought is broken off
pub record IsBroken {S : Type 0} (rules : Rules (Counted S)) (limit : ℕ) (start : Progress (Counted S)) (used : ℕ) (told now : Option (List ℕ)) (old new : Option (List Poll)) : Type 0 where
  pub whole : Progress (Counted S)
  pub poll : OnePoll rules limit start whole old new
  pub is_run : IsRun whole
  pub cut : IsCut whole used told now

-- one poll, and all that it brought: the session goes on or is over, or the poll failed
abbrev pub Turns : {S : Type 0} → Rules (Counted S) → ℕ → Progress (Counted S) → Result Turn Halt → Counted S → List ℕ → ℕ → Option (List ℕ) → Option (List ℕ) → Option (List Poll) → Option (List Poll) → Type 0
Turns rules limit start (Ok turn.On) state pending taken told now old new = OnePoll rules limit start (Going state pending taken now) old new
Turns rules limit start (Ok (turn.Over end)) state pending taken told now old new = OnePoll rules limit start (Gone end state now) old new
Turns rules limit start (Ok turn.Failed) state pending taken told now old new = Fails rules limit start state now old new × (start ≡ Going state pending taken now)
Turns rules limit start (Err halt) state pending taken told now old new = IsBroken rules limit start state.work told now old new

-- where no poll failed the count of faults stays
abbrev pub IsCalmTurn : Result Turn Halt → ℕ → ℕ → Type 0
IsCalmTurn (Ok turn.On) old new = new ≡ old
IsCalmTurn (Ok (turn.Over end)) old new = new ≡ old
IsCalmTurn (Ok turn.Failed) old new = Unit {0}
IsCalmTurn (Err halt) old new = new ≡ old

abbrev pub IsCalmEnd : Result Ending Halt → ℕ → ℕ → Type 0
IsCalmEnd (Ok (ending.Exit exit)) old new = new ≡ old
IsCalmEnd (Ok ending.LinkFailed) old new = Unit {0}
IsCalmEnd (Ok ending.LinkEnded) old new = new ≡ old
IsCalmEnd (Ok ending.FrameFault) old new = new ≡ old
IsCalmEnd (Ok ending.TakenLimit) old new = new ≡ old
IsCalmEnd (Err halt) old new = new ≡ old
