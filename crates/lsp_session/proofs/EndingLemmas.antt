-- Each ending comes exactly limit where its cause was brought.
use Rattle.std.proofs.Common.{◌≡◌, ℕ, ◌<◌, ◌↔◌, Bool, true, false, Option, None, Some, List, refl, sym, ◌∙◌, ap, subst, arith}
use Rattle.std.proofs.lemmas.Bool.{both_ways}
use Rattle.base_core.specs.Link.{Poll}
use Rattle.sched_core.specs.declared.events.Exit.{Exit}
use Rattle.sched_core.specs.declared.events.Exit.TheVariants.{Clean, Early}
use Rattle.lsp_session.specs.declared.endings.Ending.{Ending}
use Rattle.lsp_session.specs.declared.endings.Ending.TheVariants as ending
use Rattle.lsp_session.specs.Run.{Outcome}
use Rattle.doc_check.specs.Check.{Views}
use Rattle.sched_core.specs.Session.{Session}
use Rattle.lsp_session.specs.Rules.{Counted, counting}
use Rattle.lsp_session.specs.Served.{rules, begun, session_run}
use Rattle.lsp_session.specs.Causes.{bytes_taken, saw_end, has_fault, IsQuiet, BringsExit, SeesEnd, BringsFault, ReachesLimit, IsUnended, EndsBy}
use Rattle.lsp_session.proofs.PhaseLemmas.{rules_move, phase_in}
use Rattle.lsp_session.proofs.CauseLemmas.{Due, run_due}

-- what brings an ending
abbrev Cause : ℕ → Ending → List Poll → Type 0
Cause limit (ending.Exit exit) polls = BringsExit exit polls
Cause limit ending.LinkFailed polls = IsUnended limit polls
Cause limit ending.LinkEnded polls = SeesEnd polls
Cause limit ending.FrameFault polls = BringsFault polls
Cause limit ending.TakenLimit polls = ReachesLimit limit polls

abbrev pub IsDue : ℕ → Ending → List Poll → Type 0
IsDue limit end polls = Due limit end (bytes_taken polls) (saw_end polls)

brought : (limit : ℕ) (end : Ending) (polls : List Poll) → IsDue limit end polls → Cause limit end polls
brought limit (ending.Exit exit) polls h = h.0
brought limit ending.LinkFailed polls h = record { few = h.1; quiet = h.0; no_end = h.2 }
brought limit ending.LinkEnded polls h = h.2
brought limit ending.FrameFault polls h = record { fault = h.1; no_exit = h.0 }
brought limit ending.TakenLimit polls h = record { all = h.1; quiet = h.0 }

none_or_some : {x : Option Exit} {e : Exit} {P : Type 0} → x ≡ None → x ≡ Some e → P
none_or_some {e = e} h k = absurd (never (sym k ∙ h)) where
  never : Some e ≡ None → ⊥
  never g = cc

false_or_true : (b : Bool) {P : Type 0} → b ≡ false → b ≡ true → P
false_or_true b h k = absurd (both_ways b h k)

one_exit : (a b : Exit) → Some a ≡ Some b → a ≡ b
one_exit a b e = cc

few_or_all : {n limit : ℕ} {P : Type 0} → n < limit → n ≡ limit → P
few_or_all h k = absurd (omega arith)

-- no two causes stand together
same : (limit : ℕ) (end other : Ending) (polls : List Poll) → IsDue limit end polls → Cause limit other polls → end ≡ other
same limit (ending.Exit exit) (ending.Exit exit') polls h k = ap ending.Exit (one_exit exit exit' (sym h.0 ∙ k))
same limit (ending.Exit exit) ending.LinkFailed polls h k = none_or_some k.quiet.no_exit h.0
same limit (ending.Exit exit) ending.LinkEnded polls h k = false_or_true (saw_end polls) h.1 k
same limit (ending.Exit exit) ending.FrameFault polls h k = none_or_some k.no_exit h.0
same limit (ending.Exit exit) ending.TakenLimit polls h k = none_or_some k.quiet.no_exit h.0
same limit ending.LinkFailed (ending.Exit exit) polls h k = none_or_some h.0.no_exit k
same limit ending.LinkFailed ending.LinkFailed polls h k = refl
same limit ending.LinkFailed ending.LinkEnded polls h k = false_or_true (saw_end polls) h.2 k
same limit ending.LinkFailed ending.FrameFault polls h k = false_or_true (has_fault (bytes_taken polls)) h.0.no_fault k.fault
same limit ending.LinkFailed ending.TakenLimit polls h k = few_or_all h.1 k.all
same limit ending.LinkEnded (ending.Exit exit) polls h k = none_or_some h.0.no_exit k
same limit ending.LinkEnded ending.LinkFailed polls h k = false_or_true (saw_end polls) k.no_end h.2
same limit ending.LinkEnded ending.LinkEnded polls h k = refl
same limit ending.LinkEnded ending.FrameFault polls h k = false_or_true (has_fault (bytes_taken polls)) h.0.no_fault k.fault
same limit ending.LinkEnded ending.TakenLimit polls h k = few_or_all h.1 k.all
same limit ending.FrameFault (ending.Exit exit) polls h k = none_or_some h.0 k
same limit ending.FrameFault ending.LinkFailed polls h k = false_or_true (has_fault (bytes_taken polls)) k.quiet.no_fault h.1
same limit ending.FrameFault ending.LinkEnded polls h k = false_or_true (saw_end polls) h.2 k
same limit ending.FrameFault ending.FrameFault polls h k = refl
same limit ending.FrameFault ending.TakenLimit polls h k = false_or_true (has_fault (bytes_taken polls)) k.quiet.no_fault h.1
same limit ending.TakenLimit (ending.Exit exit) polls h k = none_or_some h.0.no_exit k
same limit ending.TakenLimit ending.LinkFailed polls h k = few_or_all k.few h.1
same limit ending.TakenLimit ending.LinkEnded polls h k = false_or_true (saw_end polls) h.2 k
same limit ending.TakenLimit ending.FrameFault polls h k = false_or_true (has_fault (bytes_taken polls)) h.0.no_fault k.fault
same limit ending.TakenLimit ending.TakenLimit polls h k = refl

exactly : (limit : ℕ) (end other : Ending) (polls : List Poll) → IsDue limit end polls → (end ≡ other) ↔ Cause limit other polls
exactly limit end other polls h = (λ e. subst (λ x. Cause limit x polls) e (brought limit end polls h), λ k. same limit end other polls h k)

end_quiet : (limit : ℕ) (end : Ending) (polls : List Poll) → IsDue limit end polls → SeesEnd polls → IsQuiet (bytes_taken polls)
end_quiet limit end polls h k = (subst (λ x. IsDue limit x polls) (same limit end ending.LinkEnded polls h k) h).0

ends_by : (limit : ℕ) (end : Ending) (polls : List Poll) → IsDue limit end polls → EndsBy limit end polls
ends_by limit end polls h = record {
  clean = exactly limit end (ending.Exit Clean) polls h;
  early = exactly limit end (ending.Exit Early) polls h;
  failed = exactly limit end ending.LinkFailed polls h;
  ended = exactly limit end ending.LinkEnded polls h;
  faulty = exactly limit end ending.FrameFault polls h;
  full = exactly limit end ending.TakenLimit polls h;
  end_first = end_quiet limit end polls h;
}

pub ending_is_due : (views : Views) (paced : Bool) (limit work : ℕ) (polls : List Poll) (whole : Outcome (Counted Session)) → session_run views paced limit work polls ≡ Some whole → IsDue limit whole.ending polls
ending_is_due views paced limit work polls whole ran =
    run_due (counting (rules views)) phase_in (rules_move views) limit (begun paced work) polls whole refl ran

pub endings_have_causes : (views : Views) (paced : Bool) (limit work : ℕ) (polls : List Poll) (whole : Outcome (Counted Session)) → session_run views paced limit work polls ≡ Some whole → EndsBy limit whole.ending polls
endings_have_causes views paced limit work polls whole ran = ends_by limit whole.ending polls (ending_is_due views paced limit work polls whole ran)
