-- What is known of each sentence's place.
use Rattle.std.specs.Prelude.{ℕ, ◌≤◌, List, length, slice_range}
use Rattle.std.specs.Str.{IsCharBoundary}
use Rattle.base_core.specs.Fit.{IsFit}
use Rattle.sentence_split.specs.declared.spans.Span.{Span}

-- a span stands in the text, between characters, and its bytes fit its kind
pub record IsSpanOf (text : List ℕ) (span : Span) : Type 0 where
  pub ordered : span.from ≤ span.to
  pub within : span.to ≤ length text
  pub from_cut : IsCharBoundary text span.from
  pub to_cut : IsCharBoundary text span.to
  pub fit : IsFit span.kind (slice_range text span.from span.to)
