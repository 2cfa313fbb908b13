-- What checking a text means, for any prover. The sentences are those of `sentences`: by the law of splits of
-- `sentence_split` they are the one split that the grammar of sentences allows.
use Rattle.std.specs.Prelude.{ℕ, ◌+◌, ◌≤◌, nat_le, count_by, Option, None, Some, List, [], ◌∷◌, ◌++◌, map, fold, length, take, slice_index_or, slice_range}
use Rattle.base_core.specs.declared.kind.Kind.TheVariants.{Plain}
use Rattle.base_core.specs.declared.refusal_codes.TheConstants as code
use Rattle.base_core.specs.Codes.{text_of}
use Rattle.sentence_split.specs.declared.spans.Span.{Span}
use Rattle.sentence_split.specs.Sentences.{sentences}
use Rattle.prover_iface.specs.declared.diagnostics.RelDiag.{RelDiag}
use Rattle.prover_iface.specs.declared.goals.GoalsView.{GoalsView}
use Rattle.prover_iface.specs.declared.outline.OutlineItem.{OutlineItem}
use Rattle.prover_iface.specs.Sentences.{Sentence}
use Rattle.prover_iface.specs.Meanings.{Meanings}
use Rattle.doc_check.specs.declared.diagnostics.AbsDiag.{AbsDiag}
use Rattle.doc_check.specs.declared.diagnostics.Report.{Report}

-- the sentence that stands at a place of a text
abbrev pub sentence_at : List ℕ → Span → Sentence
sentence_at text span = record { kind = span.kind; text = slice_range text span.from span.to }

-- the place of the sentence of a number
abbrev pub span_of : List Span → ℕ → Span
span_of spans number = slice_index_or spans number (record { from = 0; to = 0; kind = Plain })

-- how many sentences a text has
abbrev pub count : List ℕ → ℕ
count text = length (sentences 0 0 text)

-- the state behind these sentences of a text, from a state on
abbrev pub state_from : {M : Type 0} → Meanings M → M → List ℕ → List Span → M
state_from means m text spans = fold means.after m (map (sentence_at text) spans)

-- the same from the first state on
abbrev pub state_after : {M : Type 0} → Meanings M → List ℕ → List Span → M
state_after means text spans = state_from means means.first text spans

-- a diagnostic of a sentence that stands at an offset of the text
abbrev pub shifted : ℕ → RelDiag → AbsDiag
shifted by diag = record {
  severity = diag.severity;
  code = diag.code;
  from = by + diag.from;
  to = by + diag.to;
  text = diag.text;
}

-- what is told of a sentence of a text, in a state
abbrev pub told_at : {M : Type 0} → Meanings M → M → List ℕ → Span → List AbsDiag
told_at means m text span = map (shifted span.from) (means.diagnosed m (sentence_at text span))

-- what is told of these sentences of a text, from a state on
abbrev pub told : {M : Type 0} → Meanings M → M → List ℕ → List Span → List AbsDiag
told means m text [] = []
told means m text (span ∷ spans) = told_at means m text span ++ told means (means.after m (sentence_at text span)) text spans

-- a refusal at a whole sentence of a text
abbrev pub whole_error : ℕ → Span → AbsDiag
whole_error number span = record { severity = 1; code = number; from = span.from; to = span.to; text = text_of number }

-- the refusal of a proof that the text leaves open, at the sentence that began it
abbrev pub left_open : Option ℕ → List Span → List AbsDiag
left_open None spans = []
left_open (Some n) spans = whole_error code.PROOF_NOT_ENDED (span_of spans n) ∷ []

-- the report of sentences of a text
abbrev pub report_of : {M : Type 0} → Meanings M → List ℕ → List Span → Report
report_of means text spans = record {
  diags = told means means.first text spans ++ left_open (means.opened (state_after means text spans)) spans;
  outline = means.outline_of (state_after means text spans);
  spans = spans;
}

-- the report of a whole text
abbrev pub checked : {M : Type 0} → Meanings M → List ℕ → Report
checked means text = report_of means text (sentences 0 0 text)

-- what the sentence of a number costs
abbrev pub cost_at : {M : Type 0} → Meanings M → List ℕ → ℕ → ℕ
cost_at means text number =
    means.cost (state_after means text (take number (sentences 0 0 text))) (sentence_at text (span_of (sentences 0 0 text) number))

-- what sentences cost, one after another, from a state on
abbrev pub costs : {M : Type 0} → Meanings M → M → List Sentence → ℕ
costs means m [] = 0
costs means m (s ∷ ss) = means.cost m s + costs means (means.after m s) ss

-- what checking a whole text costs: the prover's first state, and each sentence
abbrev pub whole_cost : {M : Type 0} → Meanings M → List ℕ → ℕ
whole_cost means text = means.first_cost + costs means means.first (map (sentence_at text) (sentences 0 0 text))

-- the goals behind the first so many sentences of a text
abbrev pub goals_behind : {M : Type 0} → Meanings M → List ℕ → ℕ → Option GoalsView
goals_behind means text number = means.goals_of (state_after means text (take number (sentences 0 0 text)))

-- what checking a text from its beginning says: its diagnostics, its outline, what each sentence costs, and the goals
-- behind the first so many
pub record Views : Type 0 where
  pub diags : List ℕ → List AbsDiag
  pub outline : List ℕ → List OutlineItem
  pub cost : List ℕ → ℕ → ℕ
  pub goals : List ℕ → ℕ → Option GoalsView

-- the same by a prover
abbrev pub views : {M : Type 0} → Meanings M → Views
views means = record {
  diags = λ text. (checked means text).diags;
  outline = λ text. (checked means text).outline;
  cost = cost_at means;
  goals = goals_behind means;
}

-- how many sentences of a text start at or before an offset
abbrev pub started : List ℕ → ℕ → ℕ
started text offset = count_by (λ span. nat_le span.from offset) (sentences 0 0 text)

-- a diagnostic stands within so many bytes
pub record IsPlaced (length : ℕ) (diag : AbsDiag) : Type 0 where
  pub from_within : diag.from ≤ length
  pub to_within : diag.to ≤ length
