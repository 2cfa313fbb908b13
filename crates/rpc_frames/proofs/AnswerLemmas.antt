-- Answers of a reader of frames.
use Rattle.std.proofs.Common.{◌≡◌, ℕ, ◌+◌, ◌-◌, ◌<◌, ◌≤◌, Option, Some, None, Result, Ok, Err, List, length, take, drop, sym, ◌∙◌, ap, subst, arith, length-append, length-drop}
use Rattle.std.specs.Option.{IfSome}
use Rattle.std.specs.Result.{IfOk}
use Rattle.std.proofs.lemmas.List.{drop-drop}
use Rattle.rpc_frames.specs.declared.faults.FrameFault.{FrameFault}
use Rattle.rpc_frames.specs.declared.faults.FrameStop.{FrameStop}
use Rattle.rpc_frames.specs.declared.faults.FrameStop.TheVariants.{Fault, NoMem}
use Rattle.rpc_frames.specs.declared.header.Stage.{Stage}
use Rattle.rpc_frames.specs.declared.header.Stage.TheVariants.{Header, Broken}
use Rattle.rpc_frames.specs.declared.header.Scan.{Scan}
use Rattle.rpc_frames.specs.Frames as spec
use Rattle.rpc_frames.specs.Stages.{stage_fault, KeepsFault}
use Rattle.rpc_frames.specs.Fed.{Fed, IsFrame, Answers, AnswersStream}
use Rattle.rpc_frames.proofs.StageLemmas.{front_whole}
use Rattle.rpc_frames.proofs.StreamLemmas.{frames_frame, frames_partial, frames_broken, after_frame}

-- the bytes of a whole frame are its body's and those after it
pub body_given : (bytes held body : List ℕ) (from told : ℕ) (new : Fed) → held ≡ bytes → spec.header bytes ≡ spec.Whole told (drop from bytes) → told ≤ length held - from →
    body ≡ take (from + told - from) (drop from held) → new ≡ record { bytes = drop (from + told) bytes; fault = None } → spec.front bytes ≡ spec.Frame body new.bytes
body_given bytes held body from told new same whole room given left =
    front_whole bytes (drop from bytes) told whole (omega (arith, ap length same, length-drop from bytes))
    ∙ ap (λ b. spec.Frame b (drop told (drop from bytes))) (sym text) ∙ ap (spec.Frame body) (drop-drop told from bytes ∙ sym (ap (λ (f : Fed). f.bytes) left)) where
      size : from + told - from ≡ told
      size = omega arith

      text : body ≡ take told (drop from bytes)
      text = given ∙ ap (λ n. take n (drop from held)) size ∙ ap (λ b. take told (drop from b)) same

pub whole_is_frame : (bytes held : List ℕ) (from told : ℕ) → held ≡ bytes → spec.header bytes ≡ spec.Whole told (drop from bytes) → told ≤ length held - from → IsFrame (spec.front bytes)
whole_is_frame bytes held from told same whole room =
    subst IsFrame (sym (front_whole bytes (drop from bytes) told whole (omega (arith, ap length same, length-drop from bytes)))) tt

pub stays : (old new : Fed) (stage : Stage) (scan : Scan) → new ≡ record { bytes = old.bytes; fault = stage_fault stage } → stage ≡ Header scan → old.fault ≡ None → new ≡ old
stays old new stage scan e is none = e ∙ ap (λ s. record { bytes = old.bytes; fault = stage_fault s }) is ∙ ap (λ f. record { bytes = old.bytes; fault = f }) (sym none)

pub faults : (old new : Fed) (stage : Stage) (fault : FrameFault) → new ≡ record { bytes = old.bytes; fault = stage_fault stage } → stage ≡ Broken fault → new ≡ record { bytes = old.bytes; fault = Some fault }
faults old new stage fault e is = e ∙ ap (λ s. record { bytes = old.bytes; fault = stage_fault s }) is

pub same_fault : (answered : Option FrameFault) (fault : FrameFault) → KeepsFault answered (Broken fault) → IfSome answered (λ earlier. earlier ≡ fault)
same_fault None fault k = tt
same_fault (Some earlier) fault k = cc

pub answers_stream : (r : Result (Option (List ℕ)) FrameStop) (old new : Fed) → Answers r old new → AnswersStream r old.bytes new.bytes
answers_stream (Ok (Some body)) old new a = frames_frame old.bytes body new.bytes a.0
answers_stream (Ok None) old new a = frames_partial old.bytes a.0
answers_stream (Err (Fault fault)) old new a = frames_broken old.bytes fault a.0
answers_stream (Err NoMem) old new a = ap (λ (f : Fed). f.bytes) a.2

none_some : (o : Option FrameFault) (P : FrameFault → Type 0) → o ≡ None → IfSome o P
none_some None P e = tt
none_some (Some fault) P e = cc

abbrev stop : FrameFault → Result (Option (List ℕ)) FrameStop
stop fault = Err (Fault fault)

again_same : (o : Option FrameFault) (fault : FrameFault) → IfSome o (λ earlier. earlier ≡ fault) → IfSome o (λ earlier. stop fault ≡ stop earlier)
again_same None fault h = tt
again_same (Some earlier) fault h = ap stop (sym h)

pub answers_again : (r : Result (Option (List ℕ)) FrameStop) (old new : Fed) → Answers r old new → IfSome old.fault (λ fault. r ≡ Err (Fault fault))
answers_again (Ok (Some body)) old new a = none_some old.fault (λ fault. Ok (Some body) ≡ Err (Fault fault)) a.1
answers_again (Ok None) old new a = none_some old.fault (λ fault. Ok None ≡ Err (Fault fault)) a.1
answers_again (Err (Fault fault)) old new a = again_same old.fault fault a.1
answers_again (Err NoMem) old new a = none_some old.fault (λ fault. Err NoMem ≡ Err (Fault fault)) a.1

pub answers_shorter : (r : Result (Option (List ℕ)) FrameStop) (old new : Fed) → Answers r old new → IfOk r (λ found. IfSome found (λ _. length new.bytes < length old.bytes))
answers_shorter (Ok (Some body)) old new a =
    let after = after_frame old.bytes body new.bytes a.0 in omega (arith, ap length after.parts, after.some, length-append after.before new.bytes)
answers_shorter (Ok None) old new a = tt
answers_shorter (Err e) old new a = tt
