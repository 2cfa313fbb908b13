-- A text that is checked to its end over a table of its own.
use Rattle.std.specs.Prelude.{◌≡◌, ℕ, ◌+◌, ◌<◌, ◌≤◌, true, List, drop, slice_index_or, Contains}
use Rattle.sentence_split.specs.Sentences.{sentences}
use Rattle.prover_iface.specs.Meanings.{Meanings}
use Rattle.memo_table.specs.declared.slots.Entry.{Entry}
use Rattle.memo_table.specs.Table.{Table}
use Rattle.memo_table.specs.Fits.{sentence_of}
use Rattle.doc_check.specs.Check.{sentence_at, span_of, count, costs}
use Rattle.doc_check.specs.Document.{Doc, parts, done, all_done, state_here, Took}
use Rattle.doc_check.specs.Stands.{Stands}

-- entries are those of the finished sentences of a document alone: the first has the number 1, and so on
pub record IsOwn {M : Type 0} (d : Doc) (rows : List (ℕ × Entry M)) : Type 0 where
  pub numbers : (k : ℕ) → k < done d → slice_index_or d.numbers k 0 ≡ k + 1
  pub earlier : (e : ℕ × Entry M) → Contains rows e → e.1.key.from < done d
  pub own : (e : ℕ × Entry M) → Contains rows e → sentence_of e.1.key ≡ sentence_at d.text (span_of (sentences 0 0 d.text) e.1.key.from)

-- a text of which all sentences are finished, with entries of these alone
pub record IsChecked {M : Type 0} (c : Took M) : Type 0 where
  pub ended : all_done c.doc ≡ true
  pub all : done c.doc ≡ count c.doc.text
  pub own : IsOwn c.doc c.rows

-- a text that is being checked over a table of its own
pub record IsUnderWay {S M : Type 0} (meaning : S → M) (means : Meanings M) (t : Table S) (d : Doc) : Type 0 where
  pub stands : Stands meaning means t d
  pub given : t.given ≡ done d
  pub few : done d ≤ count d.text
  pub own : IsOwn d t.rows

-- what the sentences cost that are not finished
abbrev pub cost_left : {M : Type 0} → Meanings M → Doc → ℕ
cost_left means d = costs means (state_here means d) (drop (done d) (parts d.text))
