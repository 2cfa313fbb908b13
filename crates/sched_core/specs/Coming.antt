-- How a document and the table come from one call to the next.
use Rattle.std.specs.Prelude.{◌≡◌, ℕ, Result, Ok, Err, List}
use Rattle.prover_iface.specs.Sentences.{Sentence}
use Rattle.prover_iface.specs.Meanings.{Meanings}
use Rattle.memo_table.specs.Table.{Table}
use Rattle.memo_table.specs.Fits.{Fits}
use Rattle.doc_check.specs.Document.{Doc}
use Rattle.doc_check.specs.Stands.{Follows, Moved}
use Rattle.sched_core.specs.Session.{Document, Held}
use Rattle.sched_core.specs.Done.{Came, with_check}

-- a document came so far and this is held, unless memory ran out
abbrev pub Comes : {A E : Type 0} → Came → Document → Result A E → Document → Held → Type 0
Comes c old (Ok answer) new held = (new ≡ with_check c.check old) × (held ≡ c.held)
Comes c old (Err error) new held = Unit {0}

-- the text is the same, and where numbers stood for sentences they still do, the new ones too
pub record Carries {S M : Type 0} (meaning : S → M) (means : Meanings M) (t u : Table S) (d e : Doc) : Type 0 where
  pub text : e.text ≡ d.text
  pub moved : (prefix : ℕ → List Sentence) → Fits meaning means prefix t → Follows prefix t.given d → Moved meaning means prefix t u e
