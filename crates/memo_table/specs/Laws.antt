-- Laws of what a table's numbers stand for.
use Rattle.std.specs.Prelude.{◌≡◌, ℕ, ◌+◌, ◌<◌, ◌≤◌, List, [], Some, IsSome}
use Rattle.prover_iface.specs.Sentences.{Sentence}
use Rattle.prover_iface.specs.Meanings.{Meanings, state_behind}
use Rattle.memo_table.specs.declared.key.Key.{Key}
use Rattle.memo_table.specs.declared.table.Kept.{Kept}
use Rattle.memo_table.specs.declared.slots.Entry.{Entry}
use Rattle.memo_table.specs.Entries.{entry_of, number_of, made_of, touched, entered, trimmed, plain_entries}
use Rattle.memo_table.specs.Table.{Table, table, with_rows, with_kept}
use Rattle.memo_table.specs.Fits.{sentence_of, behind_key, extended, IsMade, Fits}

module _ {S M : Type 0} (meaning : S → M) (means : Meanings M) where
  abbrev pub NewFits : Type 0
  NewFits = (root : S) → meaning root ≡ means.first → Fits meaning means (λ n. []) (table root 0 [])

  abbrev pub TouchedFits : Type 0
  TouchedFits = (prefix : ℕ → List Sentence) (t : Table S) (key : Key) → Fits meaning means prefix t → Fits meaning means prefix (with_rows t (touched key t.rows))

  abbrev pub TrimmedFits : Type 0
  TrimmedFits = (prefix : ℕ → List Sentence) (t : Table S) (hold : List ℕ) → Fits meaning means prefix t → Fits meaning means prefix (with_rows t (trimmed hold t.rows))

  -- with a further entry the next number stands for its sentences, and each given number for those that it stood for
  abbrev pub KeptFits : Type 0
  KeptFits = (prefix : ℕ → List Sentence) (t : Table S) (key : Key) (made : Kept S) → Fits meaning means prefix t → key.from ≤ t.given
      → IsMade meaning means (state_behind means (prefix key.from)) (sentence_of key) made
      → Fits meaning means (extended prefix (t.given + 1) (behind_key prefix key)) (with_kept t key made)

  -- the number that a key finds was given, and stands for that sentence behind the others
  abbrev pub NumberStands : Type 0
  NumberStands = (prefix : ℕ → List Sentence) (t : Table S) (key : Key) (n : ℕ) → Fits meaning means prefix t → number_of key t.rows ≡ Some n
      → (0 < n) × (n ≤ t.given) × (prefix n ≡ behind_key prefix key)

  -- the entry of a number holds the state behind the sentences of the number
  abbrev pub StateStands : Type 0
  StateStands = (prefix : ℕ → List Sentence) (t : Table S) (n : ℕ) (made : Kept S) → Fits meaning means prefix t → made_of n t.rows ≡ Some made
      → meaning made.state ≡ state_behind means (prefix n)

  -- and what the prover makes of the last of these sentences behind the others
  abbrev pub EntryStands : Type 0
  EntryStands = (prefix : ℕ → List Sentence) (t : Table S) (key : Key) (n : ℕ) (made : Kept S) → Fits meaning means prefix t
      → prefix n ≡ behind_key prefix key → made_of n t.rows ≡ Some made → IsMade meaning means (state_behind means (prefix key.from)) (sentence_of key) made

-- a number that a key finds has an entry, and still has it when it was touched
abbrev pub NumberIsHeld : Type 0 → Type 0
NumberIsHeld S = (t : Table S) (key : Key) (n : ℕ) → number_of key t.rows ≡ Some n → IsSome (made_of n t.rows) × IsSome (made_of n (touched key t.rows))

-- what a number stood for that was given
abbrev pub ExtendedStays : Type 0
ExtendedStays = (prefix : ℕ → List Sentence) (n m : ℕ) (sentences : List Sentence) → m < n → extended prefix n sentences m ≡ prefix m

abbrev pub ExtendedStands : Type 0
ExtendedStands = (prefix : ℕ → List Sentence) (n : ℕ) (sentences : List Sentence) → extended prefix n sentences n ≡ sentences

-- what becomes of the entries, but for what came of them, is told by their numbers and keys alone
module _ (S : Type 0) where
  abbrev pub PlainNumber : Type 0
  PlainNumber = (key : Key) (rows : List (ℕ × Entry (Kept S))) → number_of key (plain_entries rows) ≡ number_of key rows

  abbrev pub PlainTouched : Type 0
  PlainTouched = (key : Key) (rows : List (ℕ × Entry (Kept S))) → plain_entries (touched key rows) ≡ touched key (plain_entries rows)

  abbrev pub PlainEntered : Type 0
  PlainEntered = (limit n : ℕ) (key : Key) (made : Kept S) (rows : List (ℕ × Entry (Kept S)))
      → plain_entries (entered limit (n, entry_of key made) rows) ≡ entered limit (n, entry_of key tt) (plain_entries rows)

  abbrev pub PlainTrimmed : Type 0
  PlainTrimmed = (hold : List ℕ) (rows : List (ℕ × Entry (Kept S))) → plain_entries (trimmed hold rows) ≡ trimmed hold (plain_entries rows)
