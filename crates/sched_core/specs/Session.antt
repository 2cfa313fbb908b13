-- What a plain session keeps: of each document the text and numbers, and which sentences were finished, as texts.
use Rattle.std.specs.Prelude.{ℕ, ◌-◌, ◌≤◌, pos, ℤ, Bool, Option, List, [], length, position, not, slice_index_or, slice_set, sum_by, All}
use Rattle.std.specs.Str.{bytes_eq}
use Rattle.base_core.specs.declared.limits.TheConstants.{TEXT_LIMIT}
use Rattle.base_core.specs.declared.places.Position.{Position}
use Rattle.utf16_doc.specs.declared.encoding.Encoding.{Encoding}
use Rattle.utf16_doc.specs.declared.encoding.Encoding.TheVariants.{Utf16}
use Rattle.utf16_doc.specs.Positions.{position_at}
use Rattle.prover_iface.specs.Sentences.{Sentence}
use Rattle.prover_iface.specs.Meanings.{Meanings}
use Rattle.memo_table.specs.declared.slots.Entry.{Entry}
use Rattle.memo_table.specs.Entries.{plain_entries}
use Rattle.memo_table.specs.Table.{Table}
use Rattle.memo_table.specs.Fits.{Fits}
use Rattle.doc_check.specs.Check.{count}
use Rattle.doc_check.specs.Document.{Doc, doc, done, all_done}
use Rattle.doc_check.specs.Stands.{Follows}
use Rattle.sched_core.specs.declared.phase.Phase.{Phase}
use Rattle.sched_core.specs.declared.phase.Phase.TheVariants.{Fresh}
use Rattle.sched_core.specs.declared.waiting.Waiting.{Waiting}

-- an open document: its name, the version that was last accepted, what its characters are counted in, and the text that
-- was last accepted with the number of each of its finished sentences
pub record Document : Type 0 where
  pub uri : List ℕ
  pub version : ℤ
  pub encoding : Encoding
  pub check : Doc

-- a document of which no sentence is finished
abbrev pub unchecked : List ℕ → ℤ → Encoding → List ℕ → Document
unchecked uri version encoding text = record { uri = uri; version = version; encoding = encoding; check = doc text [] }

-- which finished sentences are held: how many numbers were given to them, and the entries, the most recently used first.
-- An entry is a number, the number that it was reached from, and a sentence; nothing is held of what came of it
pub record Held : Type 0 where
  pub given : ℕ
  pub rows : List (ℕ × Entry (Unit {0}))

abbrev pub held_rows : ℕ → List (ℕ × Entry (Unit {0})) → Held
held_rows given rows = record { given = given; rows = rows }

-- what a table holds, without what came of it
abbrev pub held_in : {S : Type 0} → Table S → Held
held_in t = held_rows t.given (plain_entries t.rows)

-- whether it is paced, its phase, what characters are counted in, the open documents in the order of their opening, the
-- requests that wait in the order of their arrival, and the finished sentences that are held
pub record Session : Type 0 where
  pub paced : Bool
  pub phase : Phase
  pub encoding : Encoding
  pub documents : List Document
  pub waiting : List Waiting
  pub held : Held

-- where a session begins: UTF-16, until the client asks for another
abbrev pub fresh : Bool → Session
fresh paced = record { paced = paced; phase = Fresh; encoding = Utf16; documents = []; waiting = []; held = held_rows 0 [] }

-- the document at a place in the order of opening
abbrev pub document_in : List Document → ℕ → Document
document_in documents place = slice_index_or documents place (unchecked [] (pos 0) Utf16 [])

abbrev pub document_at : Session → ℕ → Document
document_at session place = document_in session.documents place

-- the documents are these now
abbrev pub set_documents : List Document → Session → Session
set_documents documents session = record session { documents = documents }

-- these requests wait now
abbrev pub set_waiting : List Waiting → Session → Session
set_waiting waiting session = record session { waiting = waiting }

-- the document at a place is changed so
abbrev pub update : ℕ → (Document → Document) → Session → Session
update place change session = set_documents (slice_set session.documents place (change (document_at session place))) session

-- the positions in a document's text
abbrev pub positions : Document → ℕ → Position
positions document = position_at document.encoding document.check.text

-- the session is in another phase
abbrev pub set_phase : Phase → Session → Session
set_phase phase session = record session { phase = phase }

-- the place of the document of a name: names are compared byte by byte
abbrev pub place_of : List ℕ → List Document → Option ℕ
place_of uri documents = position (λ document. bytes_eq document.uri uri) documents

-- the place of the document that was opened first among those that are not ended
abbrev pub first_unended : List Document → Option ℕ
first_unended documents = position (λ document. not (all_done document.check)) documents

-- how many sentences are not finished
abbrev pub unfinished : Document → ℕ
unfinished document = count document.check.text - done document.check

-- how many steps without a message a session can still take
abbrev pub idles : Session → ℕ
idles session = sum_by unfinished session.documents

-- each text is within the limit
abbrev pub AreShort : List Document → Type 0
AreShort documents = All (λ document. length document.check.text ≤ TEXT_LIMIT) documents

-- the documents are these now, and this is held
abbrev pub set_held : List Document → Held → Session → Session
set_held documents held session = record session { documents = documents; held = held }

-- what is kept beside a session: a table in which the numbers of all documents stand for their sentences
pub record Holds {S M : Type 0} (meaning : S → M) (means : Meanings M) (t : Table S) (documents : List Document) : Type 0 where
  pub short : AreShort documents
  pub prefix : ℕ → List Sentence
  pub fits : Fits meaning means prefix t
  pub follow : All (λ document. Follows prefix t.given document.check) documents
