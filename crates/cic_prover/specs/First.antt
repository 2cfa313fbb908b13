-- The state before any sentence: the environment that the prelude gives.
use Rattle.std.specs.Prelude.{ℕ, ◌+◌, List, [], ◌∷◌, map, fold, slice_range}
use Rattle.sentence_split.specs.declared.spans.Span.{Span}
use Rattle.sentence_split.specs.Sentences.{sentences}
use Rattle.prover_iface.specs.Sentences.{Sentence, sentence}
use Rattle.vernac_exec.specs.declared.state.State.{State}
use Rattle.vernac_exec.specs.Exec.{after, cost}
use Rattle.vernac_exec.specs.States.{over}
use Rattle.cic_prover.specs.Prelude.{prelude}

-- the sentence at a place of a text
abbrev pub sentence_at : List ℕ → Span → Sentence
sentence_at text span = sentence span.kind (slice_range text span.from span.to)

-- those at several places
abbrev pub sentences_at : List ℕ → List Span → List Sentence
sentences_at text spans = map (sentence_at text) spans

-- the state behind several sentences, and what they cost
abbrev pub after_all : State → List Sentence → State
after_all m ss = fold after m ss

abbrev pub cost_of : State → List Sentence → ℕ
cost_of m [] = 0
cost_of m (s ∷ ss) = cost m s + cost_of (after m s) ss

-- the sentences of the prelude
unfoldable pub prelude_sentences : List Sentence
prelude_sentences = sentences_at prelude (sentences 0 0 prelude)

-- what the prelude declares is in the environment alone: it has no entry in the outline, and its sentences have no numbers
unfoldable pub first : State
first = over (after_all (over []) prelude_sentences).env

unfoldable pub first_cost : ℕ
first_cost = cost_of (over []) prelude_sentences
