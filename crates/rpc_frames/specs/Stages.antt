-- How far the reading of a header part has come.
use Rattle.std.specs.Prelude.{◌≡◌, ℕ, ◌-◌, ◌<◌, ◌≤◌, true, ◌==◌, ◌&&◌, Option, None, Some, List, [], ◌∷◌, ◌++◌, length, take, drop, if◌then◌else◌}
use Rattle.std.specs.List.{list_all}
use Rattle.rpc_frames.specs.declared.faults.FrameFault.{FrameFault}
use Rattle.rpc_frames.specs.declared.header.Scan.{Scan}
use Rattle.rpc_frames.specs.declared.header.Stage.{Stage}
use Rattle.rpc_frames.specs.declared.header.Stage.TheVariants.{Header, Body, Broken}
use Rattle.rpc_frames.specs.declared.header.Step.{Step}
use Rattle.rpc_frames.specs.declared.header.Step.TheVariants.{Next, Stay}
use Rattle.rpc_frames.specs.declared.header.Ending.{Ending}
use Rattle.rpc_frames.specs.declared.header.Ending.TheVariants.{Missing, Stray, End}
use Rattle.rpc_frames.specs.Lines.{Lines, is_text, lines}
use Rattle.rpc_frames.specs.Frames as spec

-- what the bytes after a line's text begin with
abbrev pub ending_of : List ℕ → Ending
ending_of [] = Missing
ending_of (b ∷ []) = if b == 13 then Missing else Stray
ending_of (b ∷ c ∷ bytes) = if (b == 13) && (c == 10) then End else Stray

-- the text of the line under way, as far as it was seen
abbrev pub seen_text : Scan → List ℕ → List ℕ
seen_text scan bytes = take (scan.seen - scan.line) (drop scan.line bytes)

-- the lines before this one were read, whatever follows the bytes, and some text of this one was seen
pub record IsScan (scan : Scan) (bytes : List ℕ) : Type 0 where
  pub from : scan.line ≤ scan.seen
  pub within : scan.seen ≤ length bytes
  pub text : list_all is_text (seen_text scan bytes) ≡ true
  pub reads : (more : List ℕ) → spec.header (bytes ++ more) ≡ spec.header_of scan.line scan.told (lines (drop scan.line bytes ++ more))

-- a stage of the reading of these bytes
abbrev pub IsStage : Stage → List ℕ → Type 0
IsStage (Header scan) bytes = IsScan scan bytes
IsStage (Body from told) bytes = (from ≤ length bytes) × (spec.header bytes ≡ spec.Whole told (drop from bytes))
IsStage (Broken fault) bytes = spec.header bytes ≡ spec.Faulty fault

-- the stage in which the bytes hold no more to read
abbrev pub IsSettled : Stage → List ℕ → Type 0
IsSettled (Header scan) bytes = IsScan scan bytes × (spec.header bytes ≡ spec.Short)
IsSettled (Body from told) bytes = IsStage (Body from told) bytes
IsSettled (Broken fault) bytes = IsStage (Broken fault) bytes

-- a line further on, or the last stage
abbrev pub ReadsLine : Step → Scan → List ℕ → Type 0
ReadsLine (Next next) scan bytes = IsScan next bytes × (scan.line < next.line)
ReadsLine (Stay stage) scan bytes = IsSettled stage bytes

-- what the end of a line, `next` bytes into the header part, leads to
abbrev pub EndsLine : Step → ℕ → List ℕ → Lines → spec.Header → Type 0
EndsLine (Next scan) next rest more whole = (scan.line ≡ next) × (scan.seen ≡ next) × (whole ≡ spec.header_of next scan.told more)
EndsLine (Stay (Body from told)) next rest more whole = (from ≡ next) × (whole ≡ spec.Whole told rest)
EndsLine (Stay (Broken fault)) next rest more whole = whole ≡ spec.Faulty fault
EndsLine (Stay (Header scan)) next rest more whole = ⊥

-- the fault that a stage has answered
abbrev pub stage_fault : Stage → Option FrameFault
stage_fault (Header scan) = None
stage_fault (Body from told) = None
stage_fault (Broken fault) = Some fault

-- a fault that was answered is the stage
abbrev pub KeepsFault : Option FrameFault → Stage → Type 0
KeepsFault None stage = Unit {0}
KeepsFault (Some fault) stage = stage ≡ Broken fault
