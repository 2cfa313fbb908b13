-- What a reader of frames holds, and what it answers.
use Rattle.std.specs.Prelude.{◌≡◌, ℕ, Option, None, Some, Result, Ok, Err, List}
use Rattle.std.specs.Option.{IfSome}
use Rattle.rpc_frames.specs.declared.faults.FrameFault.{FrameFault}
use Rattle.rpc_frames.specs.declared.faults.FrameStop.{FrameStop}
use Rattle.rpc_frames.specs.declared.faults.FrameStop.TheVariants.{Fault, NoMem}
use Rattle.rpc_frames.specs.Frames as spec

-- the bytes fed that no body given has used up, and the fault once it was answered
pub record Fed : Type 0 where
  pub bytes : List ℕ
  pub fault : Option FrameFault

abbrev pub IsFrame : spec.Front → Type 0
IsFrame (spec.Frame body rest) = Unit {0}
IsFrame spec.Partial = ⊥
IsFrame (spec.Broken fault) = ⊥

-- an answer and what it leaves: the body of the frame at the front, and the bytes after that frame;
-- none exactly where less than a frame is there; a fault exactly where it is there, and it stays;
-- memory runs out only at a frame, which stays
abbrev pub Answers : Result (Option (List ℕ)) FrameStop → Fed → Fed → Type 0
Answers (Ok (Some body)) old new = (spec.front old.bytes ≡ spec.Frame body new.bytes) × (old.fault ≡ None) × (new.fault ≡ None)
Answers (Ok None) old new = (spec.front old.bytes ≡ spec.Partial) × (old.fault ≡ None) × (new ≡ old)
Answers (Err (Fault fault)) old new = (spec.front old.bytes ≡ spec.Broken fault) × IfSome old.fault (λ earlier. earlier ≡ fault) × (new ≡ record { bytes = old.bytes; fault = Some fault })
Answers (Err NoMem) old new = IsFrame (spec.front old.bytes) × (old.fault ≡ None) × (new ≡ old)

-- the same of the whole stream that the bytes held are: its first body; less than a frame; a fault
abbrev pub AnswersStream : Result (Option (List ℕ)) FrameStop → List ℕ → List ℕ → Type 0
AnswersStream (Ok (Some body)) old new = spec.frames old ≡ spec.with_body body (spec.frames new)
AnswersStream (Ok None) old new = spec.frames old ≡ spec.ended (spec.Rest old)
AnswersStream (Err (Fault fault)) old new = spec.frames old ≡ spec.ended (spec.Fault fault)
AnswersStream (Err NoMem) old new = new ≡ old
