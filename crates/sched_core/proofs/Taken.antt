-- What is taken of a document leaves its text, takes no sentence back, and is told by what a table holds.
use Rattle.std.proofs.Common.{◌≡◌, Result, Ok, Err, OnOk, ℕ, zero, suc, ◌-◌, ◌≤◌, Option, None, Some, List, [], ◌∷◌, length-append, arith, refl, ap, sym, ◌∙◌}
use Rattle.memo_table.specs.declared.slots.Entry.{Entry}
use Rattle.memo_table.specs.declared.table.Kept.{Kept}
use Rattle.memo_table.specs.Entries.{number_of, touched, plain_entries}
use Rattle.memo_table.specs.Table.{Table, with_rows}
use Rattle.memo_table.proofs.Plain.{plain_number, plain_touched}
use Rattle.doc_check.specs.Check.{count}
use Rattle.doc_check.specs.Document.{Doc, done, next_key, with_number, Took, took, taken, taken_by, taken_most}
use Rattle.sched_core.specs.Session.{Document, held_in}
use Rattle.sched_core.specs.Done.{came_to, take_kept, with_check}
use Rattle.sched_core.specs.Coming.{Comes}

module _ {M : Type 0} where
  text_by : (later : Doc → List (ℕ × Entry M) → Took M) → ((e : Doc) (es : List (ℕ × Entry M)) → (later e es).doc.text ≡ e.text) → (found : Option ℕ) (d : Doc) (rows : List (ℕ × Entry M)) → (taken_by later found d rows).doc.text ≡ d.text
  text_by later h None d rows = refl
  text_by later h (Some n) d rows = h (with_number n d) (touched (next_key d) rows)

  text_most : (left : ℕ) (d : Doc) (rows : List (ℕ × Entry M)) → (taken_most left d rows).doc.text ≡ d.text
  text_most zero d rows = refl
  text_most (suc left) d rows = text_by (λ e es. taken_most left e es) (λ e es. text_most left e es) (number_of (next_key d) rows) d rows

  pub taken_text : (d : Doc) (rows : List (ℕ × Entry M)) → (taken d rows).doc.text ≡ d.text
  taken_text d rows = text_most (count d.text - done d) d rows

  done_by : (later : Doc → List (ℕ × Entry M) → Took M) → ((e : Doc) (es : List (ℕ × Entry M)) → done e ≤ done (later e es).doc) → (found : Option ℕ) (d : Doc) (rows : List (ℕ × Entry M)) → done d ≤ done (taken_by later found d rows).doc
  done_by later h None d rows = omega arith
  done_by later h (Some n) d rows = omega (arith, h (with_number n d) (touched (next_key d) rows), length-append d.numbers (n ∷ []))

  done_most : (left : ℕ) (d : Doc) (rows : List (ℕ × Entry M)) → done d ≤ done (taken_most left d rows).doc
  done_most zero d rows = omega arith
  done_most (suc left) d rows = done_by (λ e es. taken_most left e es) (λ e es. done_most left e es) (number_of (next_key d) rows) d rows

  pub taken_done : (d : Doc) (rows : List (ℕ × Entry M)) → done d ≤ done (taken d rows).doc
  taken_done d rows = done_most (count d.text - done d) d rows

-- with the entries as texts alone
module _ {S : Type 0} where
  plain_by : (later : Doc → List (ℕ × Entry (Kept S)) → Took (Kept S)) (bare : Doc → List (ℕ × Entry (Unit {0})) → Took (Unit {0})) → ((e : Doc) (es : List (ℕ × Entry (Kept S))) → bare e (plain_entries es) ≡ took (later e es).doc (plain_entries (later e es).rows)) → (found : Option ℕ) (d : Doc) (rows : List (ℕ × Entry (Kept S))) → taken_by bare found d (plain_entries rows) ≡ took (taken_by later found d rows).doc (plain_entries (taken_by later found d rows).rows)
  plain_by later bare h None d rows = refl
  plain_by later bare h (Some n) d rows = ap (bare (with_number n d)) (sym (plain_touched S (next_key d) rows)) ∙ h (with_number n d) (touched (next_key d) rows)

  plain_most : (left : ℕ) (d : Doc) (rows : List (ℕ × Entry (Kept S))) → taken_most left d (plain_entries rows) ≡ took (taken_most left d rows).doc (plain_entries (taken_most left d rows).rows)
  plain_most zero d rows = refl
  plain_most (suc left) d rows =
      ap (λ found. taken_by (λ e es. taken_most left e es) found d (plain_entries rows)) (plain_number S (next_key d) rows)
      ∙ plain_by (λ e es. taken_most left e es) (λ e es. taken_most left e es) (λ e es. plain_most left e es) (number_of (next_key d) rows) d rows

  -- what is taken of what is held is what is taken of the table
  pub take_seen : (t : Table S) (d : Doc) → take_kept d (held_in t) ≡ came_to (taken d t.rows).doc (held_in (with_rows t (taken d t.rows).rows)) 0
  take_seen t d = ap (λ k. came_to k.doc (record { given = t.given; rows = k.rows }) 0) (plain_most (count d.text - done d) d t.rows)

  -- a call that takes what the table has kept
  pub take_comes : {A E : Type 0} (result : Result A E) (t u : Table S) (old new : Document) (d e : Doc) → d ≡ old.check → OnOk result (took e u.rows ≡ taken d t.rows) → new ≡ with_check e old → u ≡ with_rows t u.rows → Comes (take_kept old.check (held_in t)) old result new (held_in u)
  take_comes (Err error) t u old new d e seen is same rows = tt
  take_comes (Ok answer) t u old new d e seen is same rows =
      let all : took e u.rows ≡ taken old.check t.rows = is ∙ ap (λ x. taken x t.rows) seen in (
        same ∙ ap (λ x. with_check x old) (ap (λ x. x.doc) all ∙ sym (ap (λ c. c.check) (take_seen t old.check))),
        ap held_in (rows ∙ ap (with_rows t) (ap (λ x. x.rows) all)) ∙ sym (ap (λ c. c.held) (take_seen t old.check)),
      )
