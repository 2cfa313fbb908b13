-- A text that was split before it was changed.
use Rattle.std.specs.Prelude.{◌≡◌, ℕ, List, take}
use Rattle.sentence_split.specs.declared.spans.Span.{Span}
use Rattle.sentence_split.specs.Sentences.{sentences}

-- these are the sentences of a text that begins with the same bytes, so many of them
pub record WasSplit (text : List ℕ) (same : ℕ) (spans : List Span) : Type 0 where
  pub before : List ℕ
  pub split : spans ≡ sentences 0 0 before
  pub agree : take same before ≡ take same text
