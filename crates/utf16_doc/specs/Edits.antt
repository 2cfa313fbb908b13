-- Edits of a text, one after another (LSP 3.17, "TextDocumentContentChangeEvent").
use Rattle.std.specs.Prelude.{◌≡◌, ℕ, ◌++◌, min, nat_le, nat_lt, if◌then◌else◌, Option, None, Some, Result, Ok, Err, List, [], ◌∷◌, length, take, drop}
use Rattle.base_core.specs.declared.limits.TheConstants.{TEXT_LIMIT}
use Rattle.base_core.specs.declared.places.Range.{Range}
use Rattle.base_core.specs.declared.places.Change.{Change}
use Rattle.utf16_doc.specs.declared.encoding.Encoding.{Encoding}
use Rattle.utf16_doc.specs.declared.stops.DocStop.{DocStop}
use Rattle.utf16_doc.specs.declared.stops.DocStop.TheVariants.{RangeReversed, TooLong, NoMem}
use Rattle.utf16_doc.specs.Positions.{offset_at}
use Rattle.utf16_doc.specs.Indexed.{Document}

-- a text, and the least offset at which an edit starts that led to it
pub record Edited : Type 0 where
  pub text : List ℕ
  pub first : ℕ

-- the text with what stands between two offsets replaced
abbrev pub replaced : List ℕ → ℕ → ℕ → List ℕ → List ℕ
replaced text from to new = take from text ++ new ++ drop to text

-- refused where it is over the limit
abbrev pub limited : List ℕ → ℕ → Result Edited DocStop
limited text start = if nat_le (length text) TEXT_LIMIT then Ok (record { text = text; first = start }) else Err TooLong

-- refused where it ends before it starts, and then by the text that it leads to
abbrev pub edit : List ℕ → ℕ → ℕ → List ℕ → Result Edited DocStop
edit text from to new = if nat_lt to from then Err RangeReversed else limited (replaced text from to new) from

abbrev pub edit_range : Encoding → List ℕ → Option Range → List ℕ → Result Edited DocStop
-- the whole text
edit_range encoding text None new = edit text 0 (length text) new
edit_range encoding text (Some range) new = edit text (offset_at encoding text range.from_pos) (offset_at encoding text range.to_pos) new

abbrev pub change_in : Encoding → List ℕ → Change → Result Edited DocStop
change_in encoding text change = edit_range encoding text change.range change.text

-- one step and then another, unless the first is refused
infixl 10 ◌>>=◌
abbrev pub ◌>>=◌ : {A B : Type 0} → Result A DocStop → (A → Result B DocStop) → Result B DocStop
(Ok x) >>= f = f x
(Err stop) >>= f = Err stop

-- each change is made in the text that those before it left, and the first refusal refuses them all
unfoldable pub changes_from : Encoding → Edited → List Change → Result Edited DocStop
changes_from encoding done [] = Ok done
changes_from encoding done (change ∷ others) = do
  one ← change_in encoding done.text change
  changes_from encoding (record { text = one.text; first = min done.first one.first }) others

-- the changes in order; where there is none, the text's length is the first byte of which anything is said
abbrev pub changes_in : Encoding → List ℕ → List Change → Result Edited DocStop
changes_in encoding text changes = changes_from encoding (record { text = text; first = length text }) changes

-- ---- what the calls answer. Want of memory is free.

-- the text of an edit that starts here
abbrev pub GivesText : {B : Type 0} → ℕ → Result Edited DocStop → (B → List ℕ) → Result B DocStop → Type 0
GivesText start outcome view (Ok text) = outcome ≡ Ok (record { text = view text; first = start })
GivesText start outcome view (Err NoMem) = Unit {0}
GivesText start outcome view (Err stop) = outcome ≡ Err stop

-- the text of an edit, and where it starts
abbrev pub GivesEdit : Result Edited DocStop → Result (List ℕ × ℕ) DocStop → Type 0
GivesEdit outcome (Ok p) = outcome ≡ Ok (record { text = p.0; first = p.1 })
GivesEdit outcome (Err NoMem) = Unit {0}
GivesEdit outcome (Err stop) = outcome ≡ Err stop

-- the document with the text of the edits, and the least offset at which one starts; a refusal leaves it
abbrev pub Changes : Result Edited DocStop → Document → Result ℕ DocStop → Document → Type 0
Changes outcome old (Ok first) new = (outcome ≡ Ok (record { text = new.text; first = first })) × (new.encoding ≡ old.encoding)
Changes outcome old (Err NoMem) new = new ≡ old
Changes outcome old (Err stop) new = (outcome ≡ Err stop) × (new ≡ old)
