-- A document whose finished sentences have numbers in a table of finished sentences, and how it takes from the
-- table what is kept there.
use Rattle.std.specs.Prelude.{◌≡◌, ℕ, zero, suc, ◌-◌, nat_le, Bool, ◌&&◌, false, Option, None, Some, List, [], ◌∷◌, ◌++◌, map, length, take, min, slice_index_or, bytes_eq}
use Rattle.std.specs.List.{common_prefix_len}
use Rattle.base_core.specs.contracts.kind.KindPartialEq.TheImpl as kinds
use Rattle.sentence_split.specs.declared.spans.Span.{Span}
use Rattle.sentence_split.specs.Sentences.{sentences}
use Rattle.prover_iface.specs.Sentences.{Sentence}
use Rattle.prover_iface.specs.Meanings.{Meanings, state_behind}
use Rattle.memo_table.specs.declared.key.Key.{Key}
use Rattle.memo_table.specs.declared.slots.Entry.{Entry}
use Rattle.memo_table.specs.Entries.{number_of, touched}
use Rattle.doc_check.specs.Check.{sentence_at, span_of, count}

-- a text, and the number of each of its finished sentences, which are the first ones
pub record Doc : Type 0 where
  pub text : List ℕ
  pub numbers : List ℕ

abbrev pub doc : List ℕ → List ℕ → Doc
doc text numbers = record { text = text; numbers = numbers }

-- the sentences of a text
abbrev pub parts : List ℕ → List Sentence
parts text = map (sentence_at text) (sentences 0 0 text)

-- the first so many
abbrev pub first_parts : List ℕ → ℕ → List Sentence
first_parts text k = map (sentence_at text) (take k (sentences 0 0 text))

-- the state behind the first so many
abbrev pub state_at : {M : Type 0} → Meanings M → List ℕ → ℕ → M
state_at means text k = state_behind means (first_parts text k)

-- how many sentences are finished
abbrev pub done : Doc → ℕ
done d = length d.numbers

-- all are
abbrev pub all_done : Doc → Bool
all_done d = nat_le (count d.text) (done d)

-- the number of the last finished sentence: 0 where none is finished
abbrev pub last_of : List ℕ → ℕ
last_of numbers = slice_index_or (0 ∷ numbers) (length numbers) 0

-- the first sentence that isn't finished
abbrev pub next_of : Doc → Sentence
next_of d = sentence_at d.text (span_of (sentences 0 0 d.text) (done d))

-- its place
abbrev pub next_span : Doc → Span
next_span d = span_of (sentences 0 0 d.text) (done d)

-- what it is found by: itself, and the number that it is reached from
abbrev pub next_key : Doc → Key
next_key d = record { from = last_of d.numbers; kind = (next_of d).kind; text = (next_of d).text }

-- the state in which it is run
abbrev pub state_here : {M : Type 0} → Meanings M → Doc → M
state_here means d = state_at means d.text (done d)

-- it is finished, under a number
abbrev pub with_number : ℕ → Doc → Doc
with_number n d = doc d.text (d.numbers ++ n ∷ [])

-- a document, and the entries of a table
pub record Took (M : Type 0) : Type 0 where
  pub doc : Doc
  pub rows : List (ℕ × Entry M)

module _ {M : Type 0} where
  abbrev pub took : Doc → List (ℕ × Entry M) → Took M
  took d rows = record { doc = d; rows = rows }

  -- an entry that is found goes first, and its number stands for one sentence more
  abbrev pub taken_by : (Doc → List (ℕ × Entry M) → Took M) → Option ℕ → Doc → List (ℕ × Entry M) → Took M
  taken_by later None d rows = took d rows
  taken_by later (Some n) d rows = later (with_number n d) (touched (next_key d) rows)

  -- at most so many sentences are taken
  abbrev pub taken_most : ℕ → Doc → List (ℕ × Entry M) → Took M
  taken_most zero d rows = took d rows
  taken_most (suc left) d rows = taken_by (λ e es. taken_most left e es) (number_of (next_key d) rows) d rows

  -- as long as the next sentence has an entry, it is taken
  abbrev pub taken : Doc → List (ℕ × Entry M) → Took M
  taken d rows = taken_most (count d.text - done d) d rows

  -- no further one has
  abbrev pub IsTaken : Doc → List (ℕ × Entry M) → Type 0
  IsTaken d rows = all_done d ≡ false → number_of (next_key d) rows ≡ None

-- two sentences are the same
abbrev pub same_sentence : Sentence → Sentence → Bool
same_sentence s t = kinds.ghosts.eq s.kind t.kind && bytes_eq s.text t.text

-- how many sentences two texts begin with
abbrev pub kept_of : List ℕ → List ℕ → ℕ
kept_of text other = common_prefix_len same_sentence (parts text) (parts other)

-- another text: the sentences stay finished that both texts begin with
abbrev pub changed : List ℕ → Doc → Doc
changed text d = doc text (take (min (done d) (kept_of d.text text)) d.numbers)
