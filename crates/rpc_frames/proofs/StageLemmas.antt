-- Stages of the reading of bytes, when more bytes come and at the bytes' front.
use Rattle.std.proofs.Common.{◌≡◌, ℕ, ◌-◌, ◌<◌, ◌≤◌, cond, Option, Some, None, List, ◌++◌, length, take, drop, refl, sym, ◌∙◌, ap, subst, append_assoc, arith, length-append, length-drop}
use Rattle.std.specs.List.{list_all}
use Rattle.std.proofs.lemmas.Bool.{le-leb, lt-leb}
use Rattle.std.proofs.lemmas.List.{take-append-le, drop-append-le}
use Rattle.rpc_frames.specs.declared.faults.FrameFault.{FrameFault}
use Rattle.rpc_frames.specs.declared.header.Stage.{Stage}
use Rattle.rpc_frames.specs.declared.header.Stage.TheVariants.{Header, Body, Broken}
use Rattle.rpc_frames.specs.declared.header.Scan.{Scan}
use Rattle.rpc_frames.specs.Lines.{is_text, lines}
use Rattle.rpc_frames.specs.Frames as spec
use Rattle.rpc_frames.specs.Stages.{IsScan, IsStage, seen_text, KeepsFault}
use Rattle.rpc_frames.proofs.GrowLemmas.{HeaderGrows, header_grows}

scan_more : (scan : Scan) (bytes more : List ℕ) → IsScan scan bytes → IsScan scan (bytes ++ more)
scan_more scan bytes more is = record {
  from = is.from;
  within = omega (arith, is.within, length-append bytes more);
  text = ap (list_all is_text) same_text ∙ is.text;
  reads = λ rest. ap spec.header (append_assoc bytes more rest) ∙ is.reads (more ++ rest)
      ∙ ap (λ d. spec.header_of scan.line scan.told (lines d)) (sym (append_assoc (drop scan.line bytes) more rest) ∙ ap (λ d. d ++ rest) (sym line));
} where
  line : drop scan.line (bytes ++ more) ≡ drop scan.line bytes ++ more
  line = drop-append-le scan.line bytes more (omega (arith, is.from, is.within))

  same_text : seen_text scan (bytes ++ more) ≡ seen_text scan bytes
  same_text = ap (take (scan.seen - scan.line)) line
      ∙ take-append-le (scan.seen - scan.line) (drop scan.line bytes) more (omega (arith, is.from, is.within, length-drop scan.line bytes))

-- what was read stays so when more bytes come
pub stage_more : (stage : Stage) (bytes more : List ℕ) → IsStage stage bytes → IsStage stage (bytes ++ more)
stage_more (Header scan) bytes more is = scan_more scan bytes more is
stage_more (Body from told) bytes more is = (
  omega (arith, is.0, length-append bytes more),
  (subst (λ h. HeaderGrows bytes h more (spec.header (bytes ++ more))) is.1 (header_grows bytes more)).0 ∙ ap (spec.Whole told) (sym (drop-append-le from bytes more is.0)),
)
stage_more (Broken fault) bytes more is = subst (λ h. HeaderGrows bytes h more (spec.header (bytes ++ more))) is (header_grows bytes more)

pub front_short : (bytes : List ℕ) → spec.header bytes ≡ spec.Short → spec.front bytes ≡ spec.Partial
unfolding spec.front
front_short bytes e = ap spec.front_of e

pub front_less : (bytes rest : List ℕ) (told : ℕ) → spec.header bytes ≡ spec.Whole told rest → length rest < told → spec.front bytes ≡ spec.Partial
unfolding spec.front
front_less bytes rest told e h = ap spec.front_of e ∙ ap (λ t. cond t (spec.Frame (take told rest) (drop told rest)) spec.Partial) (lt-leb told (length rest) h)

pub front_whole : (bytes rest : List ℕ) (told : ℕ) → spec.header bytes ≡ spec.Whole told rest → told ≤ length rest → spec.front bytes ≡ spec.Frame (take told rest) (drop told rest)
unfolding spec.front
front_whole bytes rest told e h = ap spec.front_of e ∙ ap (λ t. cond t (spec.Frame (take told rest) (drop told rest)) spec.Partial) (le-leb told (length rest) h)

pub front_faulty : (bytes : List ℕ) (fault : FrameFault) → spec.header bytes ≡ spec.Faulty fault → spec.front bytes ≡ spec.Broken fault
unfolding spec.front
front_faulty bytes fault e = ap spec.front_of e

-- no fault was answered before a stage without one
pub no_fault_header : (answered : Option FrameFault) (scan : Scan) → KeepsFault answered (Header scan) → answered ≡ None
no_fault_header None scan k = refl
no_fault_header (Some fault) scan k = cc

pub no_fault_body : (answered : Option FrameFault) (from told : ℕ) → KeepsFault answered (Body from told) → answered ≡ None
no_fault_body None from told k = refl
no_fault_body (Some fault) from told k = cc

-- after a piece
pub fed_stage : (start : ℕ) (stage : Stage) (items piece grown : List ℕ) → start ≤ length items → IsStage stage (drop start items) → grown ≡ items ++ piece → (start ≤ length grown) × IsStage stage (drop start grown)
fed_stage start stage items piece grown within is e = (
  omega (arith, ap length e, within, length-append items piece),
  subst (IsStage stage) (sym (ap (drop start) e ∙ drop-append-le start items piece within)) (stage_more stage (drop start items) piece is),
)
