-- The steps of a session, and their work.
use Rattle.std.specs.Prelude.{ℕ, ◌+◌, Bool, List}
use Rattle.std.specs.List.{flat_map}
use Rattle.rpc_frames.specs.Frames.{framed}
use Rattle.sched_core.specs.declared.events.Event.{Event}
use Rattle.sched_core.specs.Step.{Step}

-- the step of each event, and whether nothing is to be done until something comes
pub record Rules (S : Type 0) : Type 0 where
  pub step : S → Event → Step S
  pub waits : S → Bool

-- a state, with the work that was done up to it
pub record Counted (S : Type 0) : Type 0 where
  pub plain : S
  pub work : ℕ

abbrev pub counted : {S : Type 0} → S → ℕ → Counted S
counted state work = record { plain = state; work = work }

-- a step after so much work
abbrev pub counted_step : {S : Type 0} → ℕ → Step S → Step (Counted S)
counted_step before step = record { state = counted step.state (before + step.work); bodies = step.bodies; exit = step.exit; work = step.work }

-- the same steps, with their work
abbrev pub counting : {S : Type 0} → Rules S → Rules (Counted S)
counting rules = record {
  step = λ state event. counted_step state.work (rules.step state.plain event);
  waits = λ state. rules.waits state.plain;
}

-- the bytes of a step: its bodies, each framed
abbrev pub said : {S : Type 0} → Step S → List ℕ
said step = flat_map framed step.bodies
