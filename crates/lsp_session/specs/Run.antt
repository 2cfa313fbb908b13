-- The run of a session over the polls of one call, up to a limit of bytes.
use Rattle.std.specs.Prelude.{ℕ, ◌+◌, ◌-◌, ◌&&◌, Bool, true, false, not, nat_le, nat_lt, min, Option, None, Some, List, [], ◌∷◌, ◌++◌, length, if◌then◌else◌}
use Rattle.base_core.specs.declared.limits.TheConstants.{POLL_LIMIT}
use Rattle.base_core.specs.Link.{Seen, Bytes, Nothing, Ended, Fault, Poll}
use Rattle.base_core.specs.Sink.{appended}
use Rattle.rpc_frames.specs.Frames as spec
use Rattle.lsp_types.specs.Bodies.{error_body}
use Rattle.lsp_types.specs.Decoding.{decoded}
use Rattle.lsp_types.specs.declared.messages.Id.TheVariants.{Null}
use Rattle.lsp_types.specs.declared.error_codes.ErrorCode.TheVariants.{ParseError}
use Rattle.sched_core.specs.declared.events.Exit.{Exit}
use Rattle.sched_core.specs.declared.events.Event.TheVariants as event
use Rattle.sched_core.specs.Step.{Step}
use Rattle.lsp_session.specs.declared.endings.Ending.{Ending}
use Rattle.lsp_session.specs.declared.endings.Ending.TheVariants as ending
use Rattle.lsp_session.specs.Rules.{Rules, said}

-- how far a run is: it goes on in a state, with the bytes that no message used, so many bytes taken, and
-- what the sink then tells; it has ended; or a poll came that no session makes
pub data Progress (S : Type 0) : Type 0 where
  Going : S → List ℕ → ℕ → Option (List ℕ) → Progress S
  Gone : Ending → S → Option (List ℕ) → Progress S
  Strange : Progress S

-- an exit ends the run; else it goes on from the state and what is told
abbrev pub unless_exit : {S : Type 0} → Option Exit → S → Option (List ℕ) → (S → Option (List ℕ) → Progress S) → Progress S
unless_exit None state told rest = rest state told
unless_exit (Some exit) state told rest = Gone (ending.Exit exit) state told

-- a step's bodies are written, and then its exit ends the run, or it goes on
abbrev pub after_step : {S : Type 0} → Step S → Option (List ℕ) → (S → Option (List ℕ) → Progress S) → Progress S
after_step step told rest = unless_exit step.exit step.state (appended told (said step)) rest

-- the refusal of bytes that have a frame fault
abbrev pub fault_bytes : List ℕ
fault_bytes = spec.framed (error_body Null ParseError)

-- at the end of the bytes: what is less than a frame stays; a fault is refused and ends the run
abbrev pub at_end : {S : Type 0} → ℕ → spec.End → S → Option (List ℕ) → Progress S
at_end taken (spec.Rest pending) state told = Going state pending taken told
at_end taken (spec.Fault fault) state told = Gone ending.FrameFault state (appended told fault_bytes)

-- each body is one step, in order
abbrev pub each_heard : {S : Type 0} → Rules S → ℕ → spec.End → List (List ℕ) → S → Option (List ℕ) → Progress S
each_heard rules taken end [] state told = at_end taken end state told
each_heard rules taken end (body ∷ bodies) state told =
    after_step (rules.step state (event.Message (decoded body))) told (λ s t. each_heard rules taken end bodies s t)

-- the messages of these bytes
abbrev pub all_heard : {S : Type 0} → Rules S → ℕ → spec.Stream → S → Option (List ℕ) → Progress S
all_heard rules taken stream state told = each_heard rules taken stream.end stream.bodies state told

-- two flags are the same
abbrev pub agrees : Bool → Bool → Bool
agrees true flag = flag
agrees false flag = not flag

-- a session polls until it has taken as many bytes as it may; the poll may wait exactly where nothing is to be
-- done
abbrev pub is_due : {S : Type 0} → Rules S → ℕ → S → ℕ → Bool → Bool
is_due rules limit state taken waits = nat_lt taken limit && agrees waits (rules.waits state)

-- a poll asks for at most 4096 bytes, and for no more than may still be taken
abbrev pub most_asked : ℕ → ℕ → ℕ
most_asked limit taken = min POLL_LIMIT (limit - taken)

-- what a poll brings: bytes join those that no message used; where nothing came, an idle step, and none
-- comes to a poll that waits; the end, and a failure, end the run
abbrev pub brought : {S : Type 0} → Rules S → ℕ → Bool → Seen → S → List ℕ → ℕ → Option (List ℕ) → Progress S
brought rules limit waits (Bytes bytes) state pending taken told =
    if nat_le (length bytes) (most_asked limit taken) then all_heard rules (taken + length bytes) (spec.frames (pending ++ bytes)) state told else Strange
brought rules limit waits Nothing state pending taken told =
    if waits then Strange else after_step (rules.step state event.Idle) told (λ s t. Going s pending taken t)
brought rules limit waits Ended state pending taken told = Gone ending.LinkEnded state told
brought rules limit waits Fault state pending taken told = Gone ending.LinkFailed state told

-- one poll more; none comes after the end
abbrev pub play : {S : Type 0} → Rules S → ℕ → Progress S → Poll → Progress S
play rules limit (Going state pending taken told) one =
    if is_due rules limit state taken one.waits then brought rules limit one.waits one.seen state pending taken told else Strange
play rules limit (Gone end state told) one = Strange
play rules limit Strange one = Strange

-- all of these polls, in order
abbrev pub played : {S : Type 0} → Rules S → ℕ → Progress S → List Poll → Progress S
played rules limit progress [] = progress
played rules limit progress (one ∷ polls) = played rules limit (play rules limit progress one) polls

-- how a run ends, in which state, and what the sink then tells
pub record Outcome (S : Type 0) : Type 0 where
  pub ending : Ending
  pub state : S
  pub told : Option (List ℕ)

-- an outcome of these parts
abbrev pub outcome : {S : Type 0} → Ending → S → Option (List ℕ) → Outcome S
outcome end state told = record { ending = end; state = state; told = told }

-- where no further poll comes: the limit of bytes is reached, or the link gives no more
abbrev pub stopped : {S : Type 0} → ℕ → Progress S → Option (Outcome S)
stopped limit (Going state pending taken told) = Some (outcome (if nat_lt taken limit then ending.LinkFailed else ending.TakenLimit) state told)
stopped limit (Gone end state told) = Some (outcome end state told)
stopped limit Strange = None

-- the run from a state over the polls of a call, to a sink that told this before; none where these are no
-- polls of a session
abbrev pub run_from : {S : Type 0} → Rules S → ℕ → S → Option (List ℕ) → List Poll → Option (Outcome S)
run_from rules limit state told polls = stopped limit (played rules limit (Going state [] 0 told) polls)

-- the run, told from its beginning on
abbrev pub run : {S : Type 0} → Rules S → ℕ → S → List Poll → Option (Outcome S)
run rules limit state polls = run_from rules limit state (Some []) polls
