-- What is kept of a document, what its numbers stand for in a table, and how both move.
use Rattle.std.specs.Prelude.{◌≡◌, ℕ, ◌+◌, ◌<◌, ◌≤◌, Bool, true, false, if◌then◌else◌, Result, Ok, Err, Some, List, [], ◌∷◌, length, slice_index_or, All}
use Rattle.base_core.specs.declared.limits.TheConstants.{TEXT_LIMIT}
use Rattle.base_core.specs.declared.memory.NoMem.{NoMem}
use Rattle.sentence_split.specs.declared.spans.Span.{Span}
use Rattle.sentence_split.specs.Sentences.{sentences}
use Rattle.sentence_split.specs.Within.{IsSpanOf}
use Rattle.prover_iface.specs.declared.diagnostics.RelDiag.{RelDiag}
use Rattle.prover_iface.specs.Sentences.{Sentence}
use Rattle.prover_iface.specs.Meanings.{Meanings}
use Rattle.memo_table.specs.declared.slots.Entry.{Entry}
use Rattle.memo_table.specs.declared.table.Kept.{Kept}
use Rattle.memo_table.specs.Entries.{made_of}
use Rattle.memo_table.specs.Table.{Table, with_rows, with_kept}
use Rattle.memo_table.specs.Fits.{IsMade, Fits}
use Rattle.doc_check.specs.declared.advance.Advance.{Advance}
use Rattle.doc_check.specs.declared.advance.Advance.TheVariants as advance
use Rattle.doc_check.specs.Check.{count}
use Rattle.doc_check.specs.Document.{Doc, first_parts, done, all_done, next_of, next_key, state_here, with_number, taken}

-- what comes of sentences, one after another: the state behind each, and what is told of it
abbrev pub trail : {M : Type 0} → Meanings M → M → List Sentence → List (M × List RelDiag)
trail means m [] = []
trail means m (s ∷ ss) = (means.after m s, means.diagnosed m s) ∷ trail means (means.after m s) ss

-- what is kept of a document is what checking its first sentences gives
pub record IsDoc {M : Type 0} (means : Meanings M) (text : List ℕ) (spans : List Span) (first : M) (made : List (M × List RelDiag)) : Type 0 where
  pub short : length text ≤ TEXT_LIMIT
  pub split : spans ≡ sentences 0 0 text
  pub placed : All (IsSpanOf text) spans
  pub few : length made ≤ length spans
  pub first_is : first ≡ means.first
  pub made_is : made ≡ trail means means.first (first_parts text (length made))

-- where numbers stand for sentences, those of a document stand for its first ones; each was given
pub record Follows (prefix : ℕ → List Sentence) (given : ℕ) (d : Doc) : Type 0 where
  pub known : (k : ℕ) → k < done d → slice_index_or d.numbers k 0 ≤ given
  pub stands : (k : ℕ) → k < done d → prefix (slice_index_or d.numbers k 0) ≡ first_parts d.text (k + 1)

module _ {S M : Type 0} (meaning : S → M) (means : Meanings M) where
  -- the numbers of a document stand in a table
  pub record Stands (t : Table S) (d : Doc) : Type 0 where
    pub prefix : ℕ → List Sentence
    pub fits : Fits meaning means prefix t
    pub follows : Follows prefix t.given d

  -- the table after a call, and a document in it: each number that was given stands for what it stood for
  pub record Moved (prefix : ℕ → List Sentence) (t u : Table S) (d : Doc) : Type 0 where
    pub now : ℕ → List Sentence
    pub same : (n : ℕ) → n ≤ t.given → now n ≡ prefix n
    pub more : t.given ≤ u.given
    pub fits : Fits meaning means now u
    pub follows : Follows now u.given d

  -- a number has an entry, with what comes of the next sentence
  pub record IsHeld (rows : List (ℕ × Entry (Kept S))) (number : ℕ) (d : Doc) : Type 0 where
    pub made : Kept S
    pub found : made_of number rows ≡ Some made
    pub value : IsMade meaning means (state_here means d) (next_of d) made

  -- the next sentence has a new entry, with what comes of it
  pub record IsKept (t u : Table S) (d : Doc) : Type 0 where
    pub made : Kept S
    pub value : IsMade meaning means (state_here means d) (next_of d) made
    pub kept : u ≡ with_kept t (next_key d) made

  -- the next sentence is finished where its cost is at most the units; else nothing changes
  abbrev pub Runs : ℕ → Table S → Doc → Result Advance NoMem → Table S → Doc → Type 0
  Runs units t d (Ok advance.Ended) u e = (all_done d ≡ true) × (e ≡ d) × (u ≡ t)
  Runs units t d (Ok (advance.Finished spent)) u e =
      (all_done d ≡ false) × (spent ≡ means.cost (state_here means d) (next_of d)) × (spent ≤ units) × (e ≡ with_number (t.given + 1) d) × IsKept t u d
  Runs units t d (Ok advance.Interrupted) u e =
      (all_done d ≡ false) × (units < means.cost (state_here means d) (next_of d)) × (e ≡ d) × (u ≡ t)
  Runs units t d (Err none) u e = Unit {0}

  -- kept sentences are taken, and then one is run
  abbrev pub Advanced : ℕ → Table S → Doc → Result Advance NoMem → Table S → Doc → Type 0
  Advanced units t d result u e = Runs units (with_rows t (taken d t.rows).rows) (taken d t.rows).doc result u e

-- what the next sentence costs, and nothing where there is none
abbrev pub cost_here : {M : Type 0} → Meanings M → Doc → ℕ
cost_here means d = if all_done d then 0 else means.cost (state_here means d) (next_of d)

-- a sentence more was taken, or there is none to take
abbrev pub TookOne : Bool → Doc → Doc → Type 0
TookOne true d e = (done d < count d.text) × (done e ≡ done d + 1)
TookOne false d e = e ≡ d
