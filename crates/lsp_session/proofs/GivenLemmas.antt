-- What a link gives, of which a session takes the first part.
use Rattle.std.proofs.Common.{◌≡◌, ◌≢◌, ℕ, Bool, true, false, Some, List, [], ◌∷◌, ◌++◌, length, map, refl, sym, ◌∙◌, ap, append-nil, arith, length-append, if◌then◌else◌}
use Rattle.std.proofs.lemmas.Bool.{both_ways}
use Rattle.std.proofs.lemmas.List.{map-append}
use Rattle.base_core.specs.Link.{Poll}
use Rattle.rpc_frames.specs.Frames as spec
use Rattle.rpc_frames.proofs.StreamLemmas.{frames_go_on}
use Rattle.lsp_types.specs.Decoding.{decoded}
use Rattle.sched_core.specs.declared.events.Exit.{Exit}
use Rattle.sched_core.specs.declared.events.Exit.TheVariants.{Clean}
use Rattle.lsp_session.specs.declared.endings.Ending.{Ending}
use Rattle.lsp_session.specs.declared.endings.Ending.TheVariants as ending
use Rattle.lsp_session.specs.Run.{Outcome}
use Rattle.lsp_session.specs.Status.{status_of}
use Rattle.sched_core.specs.declared.phase.Phase.{Phase}
use Rattle.sched_core.specs.declared.phase.Phase.TheVariants.{Fresh}
use Rattle.doc_check.specs.Check.{Views}
use Rattle.sched_core.specs.Session.{Session}
use Rattle.lsp_session.specs.Rules.{Counted}
use Rattle.lsp_session.specs.Served.{session_run}
use Rattle.lsp_session.specs.Causes.{Message, phase_after, is_exit, exit_in, exit_of, bytes_taken, messages_of, is_fault, has_fault, exit_among, Gives, HoldsSession}
use Rattle.lsp_session.proofs.CauseLemmas.{never_some}
use Rattle.lsp_session.proofs.EndingLemmas.{IsDue, ending_is_due}
use Rattle.lsp_session.proofs.LeavingLemmas.{session_clean}

-- the first exit stays the first
exit_stays : (phase : Phase) (xs ys : List Message) (exit : Exit) → exit_of phase xs ≡ Some exit → exit_of phase (xs ++ ys) ≡ Some exit
exit_stays phase [] ys exit e = absurd (never_some (sym e))
exit_stays phase (x ∷ xs) ys exit e = by (is_exit x) e (λ h. exit_stays (phase_after phase x) xs ys exit h) where
  by : (b : Bool) → (if b then Some (exit_in phase) else exit_of (phase_after phase x) xs) ≡ Some exit → (exit_of (phase_after phase x) xs ≡ Some exit → exit_of (phase_after phase x) (xs ++ ys) ≡ Some exit) → (if b then Some (exit_in phase) else exit_of (phase_after phase x) (xs ++ ys)) ≡ Some exit
  by true h go = h
  by false h go = go h

among_stays : (bytes more : List ℕ) (exit : Exit) → exit_among bytes ≡ Some exit → exit_among (bytes ++ more) ≡ Some exit
among_stays bytes more exit e =
    ap (λ (s : spec.Stream). exit_of Fresh (map decoded s.bodies)) (frames_go_on bytes more)
    ∙ ap (exit_of Fresh) (map-append decoded (spec.frames bytes).bodies (spec.end_goes_on (spec.frames bytes).end more).bodies)
    ∙ exit_stays Fresh (messages_of bytes) _ exit e

-- and a fault stays
fault_stays : (bytes more : List ℕ) → has_fault bytes ≡ true → has_fault (bytes ++ more) ≡ true
fault_stays bytes more e = ap (λ (s : spec.Stream). is_fault s.end) (frames_go_on bytes more) ∙ by (spec.frames bytes).end e where
  by : (end : spec.End) → is_fault end ≡ true → is_fault (spec.end_goes_on end more).end ≡ true
  by (spec.Rest pending) h = absurd (both_ways false refl h)
  by (spec.Fault fault) h = refl

same_exit : (a b : Exit) → Some a ≡ Some b → a ≡ b
same_exit a b e = cc

given_clean : (limit : ℕ) (end : Ending) (polls : List Poll) (bytes : List ℕ) → IsDue limit end polls → end ≢ ending.LinkFailed → Gives bytes polls → HoldsSession limit bytes → end ≡ ending.Exit Clean
given_clean limit end polls bytes due works gives holds = by end due works where
  clean : exit_among (bytes_taken polls ++ gives.left) ≡ Some Clean
  clean = ap exit_among (sym gives.parts) ∙ session_clean (messages_of bytes) holds.session

  by : (end : Ending) → IsDue limit end polls → end ≢ ending.LinkFailed → end ≡ ending.Exit Clean
  by (ending.Exit exit) h w = ap ending.Exit (same_exit exit Clean (sym (among_stays (bytes_taken polls) gives.left exit h.0) ∙ clean))
  by ending.LinkFailed h w = absurd (w refl)
  by ending.LinkEnded h w = absurd (never_some (sym clean ∙ ap (λ left. exit_among (bytes_taken polls ++ left)) (gives.all_first h.2) ∙ ap exit_among (append-nil (bytes_taken polls)) ∙ h.0.no_exit))
  by ending.FrameFault h w = absurd (both_ways (has_fault bytes) holds.no_fault (ap has_fault gives.parts ∙ fault_stays (bytes_taken polls) gives.left h.1))
  by ending.TakenLimit h w = absurd (omega (arith, h.1, holds.few, ap length gives.parts, length-append (bytes_taken polls) gives.left))

pub given_sessions_end_clean : (views : Views) (paced : Bool) (limit work : ℕ) (polls : List Poll) (whole : Outcome (Counted Session)) (status : ℕ) (bytes : List ℕ) → session_run views paced limit work polls ≡ Some whole → status ≡ status_of whole.ending → status ≢ 3 → Gives bytes polls → HoldsSession limit bytes → status ≡ 0
given_sessions_end_clean views paced limit work polls whole status bytes ran is works gives holds =
    is ∙ ap status_of (given_clean limit whole.ending polls bytes (ending_is_due views paced limit work polls whole ran) (λ e. works (is ∙ ap status_of e)) gives holds)
