-- What holds of every prover.
use Rattle.std.specs.Prelude.{ℕ, ◌^◌, ◌<◌, ◌≤◌, List, length, All}
use Rattle.std.specs.Str.{IsCharBoundary, IsUtf8}
use Rattle.base_core.specs.Fit.{IsFit}
use Rattle.prover_iface.specs.declared.diagnostics.RelDiag.{RelDiag}
use Rattle.prover_iface.specs.declared.outline.OutlineItem.{OutlineItem}
use Rattle.prover_iface.specs.Sentences.{Sentence}

-- a diagnostic of a sentence with this text: a severity from 1 to 3, at a stretch of whole characters
pub record IsDiag (text : List ℕ) (diag : RelDiag) : Type 0 where
  pub severe : 1 ≤ diag.severity
  pub mild : diag.severity ≤ 3
  pub ordered : diag.from ≤ diag.to
  pub from_cut : IsCharBoundary text diag.from
  pub to_cut : IsCharBoundary text diag.to

-- whatever the state, each sentence is told of at whole characters of it
abbrev pub TellsWithin : {M : Type 0} → (M → Sentence → List RelDiag) → Type 0
TellsWithin {M} diagnosed =
    (m : M) (s : Sentence) → IsUtf8 s.text → IsFit s.kind s.text → length s.text < 2 ^ 32 → All (IsDiag s.text) (diagnosed m s)

-- a declaration after so many sentences is by one of them
pub record IsPast (count : ℕ) (item : OutlineItem) : Type 0 where
  pub ordered : item.first ≤ item.last
  pub past : item.last < count
