-- Which sentences of a document are finished: those that are held are taken, others are run and then held.
use Rattle.std.specs.Prelude.{ℕ, zero, suc, ◌+◌, ◌-◌, nat_le, if◌then◌else◌, slice_set}
use Rattle.base_core.specs.declared.limits.TheConstants.{TABLE_LIMIT}
use Rattle.memo_table.specs.Entries.{entry_of, entered}
use Rattle.doc_check.specs.Check.{count}
use Rattle.doc_check.specs.Document.{Doc, done, all_done, next_key, with_number, taken}
use Rattle.sched_core.specs.Session.{Document, Session, Held, held_rows, document_at}

-- a document's text with its finished sentences, what is held, and the work that was done
pub record Came : Type 0 where
  pub check : Doc
  pub held : Held
  pub work : ℕ

abbrev pub came_to : Doc → Held → ℕ → Came
came_to check held work = record { check = check; held = held; work = work }

-- as long as the next sentence is held it is finished, and its entry becomes the most recently used
abbrev pub take_kept : Doc → Held → Came
take_kept d held = came_to (taken d held.rows).doc (held_rows held.given (taken d held.rows).rows) 0

-- the next sentence is finished: it gets the next number, and is held. Where there are too many the one goes that was
-- used longest ago
abbrev pub finish : Came → Came
finish c =
    came_to (with_number (c.held.given + 1) c.check)
    (held_rows (c.held.given + 1) (entered TABLE_LIMIT (c.held.given + 1, entry_of (next_key c.check) tt) c.held.rows)) c.work

-- so much work was done before
abbrev pub after_work : ℕ → Came → Came
after_work work c = came_to c.check c.held (work + c.work)

-- sentences are taken; then the next one is finished, if there is one
abbrev pub run_taken : (ℕ → ℕ) → Came → Came
run_taken cost c = if all_done c.check then c else after_work (cost (done c.check)) (finish c)

abbrev pub run_next : (ℕ → ℕ) → Doc → Held → Came
run_next cost d held = run_taken cost (take_kept d held)

-- sentences are taken; then the next one is finished where its cost is at most the units, and it goes on with what is
-- left of them. One that costs more is begun with what is left, in vain
abbrev pub spend_taken : (ℕ → ℕ) → (Doc → Held → ℕ → Came) → Came → ℕ → Came
spend_taken cost later c units =
    if all_done c.check then c else
    (if nat_le (cost (done c.check)) units
    then after_work (cost (done c.check)) (later (finish c).check (finish c).held (units - cost (done c.check)))
    else after_work units c)

-- at most so many times
abbrev pub spend_most : (ℕ → ℕ) → ℕ → Doc → Held → ℕ → Came
spend_most cost zero d held units = take_kept d held
spend_most cost (suc most) d held units = spend_taken cost (λ e h left. spend_most cost most e h left) (take_kept d held) units

-- as long as there is a next sentence, and units for it
abbrev pub spend : (ℕ → ℕ) → Doc → Held → ℕ → Came
spend cost d held units = spend_most cost (count d.text - done d) d held units

-- a document came so far
abbrev pub with_check : Doc → Document → Document
with_check check document = record document { check = check }

-- the document at a place came so far, and this is held
abbrev pub came : ℕ → Came → Session → Session
came place c session =
    record session { documents = slice_set session.documents place (with_check c.check (document_at session place)); held = c.held }
