-- The texts of all documents stay within the limit, and their numbers stand in the table.
use Rattle.std.proofs.Common.{◌≡◌, ℕ, ℤ, ◌<◌, ◌≤◌, suc, Result, Ok, Err, OnOk, OnErr, List, [], ◌∷◌, ◌++◌, length, get_or, take, drop, remove, slice_set, arith, refl, sym, subst, ap, ◌∙◌, All}
use Rattle.std.proofs.lemmas.List.Elements.{All-nil, All-append, All-push, All-set, All-take, All-drop, All-get_or}
use Rattle.base_core.specs.declared.limits.TheConstants.{TEXT_LIMIT}
use Rattle.utf16_doc.specs.declared.encoding.Encoding.{Encoding}
use Rattle.prover_iface.specs.Sentences.{Sentence}
use Rattle.prover_iface.specs.Meanings.{Meanings}
use Rattle.memo_table.specs.Entries.{trimmed, plain_entries}
use Rattle.memo_table.specs.Table.{Table, table, with_rows}
use Rattle.memo_table.proofs.Plain.{plain_trimmed}
use Rattle.memo_table.proofs.Standing.{trimmed_fits}
use Rattle.doc_check.specs.Document.{Doc}
use Rattle.doc_check.specs.Stands.{Follows, Stands}
use Rattle.doc_check.proofs.Advancing.{changed_follows}
use Rattle.sched_core.specs.Session.{Document, Session, document_in, AreShort, Holds, held_in, held_rows, set_held}
use Rattle.sched_core.specs.Trim.{numbers_in_use, trim}
use Rattle.sched_core.specs.Documents.{restarted}
use Rattle.sched_core.specs.Coming.{Carries}
use Rattle.sched_core.proofs.Carrying.{follows_still}

abbrev pub IsShort : Document → Type 0
IsShort document = length document.check.text ≤ TEXT_LIMIT

abbrev InTable : (ℕ → List Sentence) → ℕ → Document → Type 0
InTable prefix given document = Follows prefix given document.check

nothing_yet : (prefix : ℕ → List Sentence) (given : ℕ) (d : Doc) → d.numbers ≡ [] → Follows prefix given d
nothing_yet prefix given d none =
    record { known = λ k h. absurd (omega (arith, h, ap length none)); stands = λ k h. absurd (omega (arith, h, ap length none)) }

module _ {S M : Type 0} (meaning : S → M) (means : Meanings M) where
  pub holds_push : (t : Table S) (documents new : List Document) (document : Document) → Holds meaning means t documents → length document.check.text ≤ TEXT_LIMIT → document.check.numbers ≡ [] → new ≡ documents ++ document ∷ [] → Holds meaning means t new
  holds_push t documents new document h short none e = record {
    short = subst AreShort (sym e) (All-push IsShort documents document h.short short);
    prefix = h.prefix;
    fits = h.fits;
    follow = subst (All (InTable h.prefix t.given)) (sym e) (All-push (InTable h.prefix t.given) documents document h.follow (nothing_yet h.prefix t.given document.check none));
  }

  -- the document at a place and the table go on together
  pub holds_moved : (t u : Table S) (documents new : List Document) (place : ℕ) (document : Document) → Holds meaning means t documents → place < length documents → Carries meaning means t u (document_in documents place).check document.check → new ≡ slice_set documents place document → Holds meaning means u new
  holds_moved t u documents new place document h within carries e =
      let moved = carries.moved h.prefix h.fits (All-get_or (InTable h.prefix t.given) documents place (document_in [] 0) within h.follow) in
      record {
        short = subst AreShort (sym e) (All-set IsShort documents place document (subst (λ text. length text ≤ TEXT_LIMIT) (sym carries.text) (All-get_or IsShort documents place (document_in [] 0) within h.short)) h.short);
        prefix = moved.now;
        fits = moved.fits;
        follow = subst (All (InTable moved.now u.given)) (sym e)
            (All-set (InTable moved.now u.given) documents place document moved.follows
            (λ i d less. follows_still h.prefix moved.now t.given u.given (get_or documents i d).check moved.same moved.more (h.follow i d less)));
      }

  pub stands_at : (t : Table S) (documents : List Document) (place : ℕ) (document : Document) → Holds meaning means t documents → place < length documents → document ≡ document_in documents place → Stands meaning means t document.check
  stands_at t documents place document h within is = record {
    prefix = h.prefix;
    fits = h.fits;
    follows = subst (InTable h.prefix t.given) (sym is) (All-get_or (InTable h.prefix t.given) documents place (document_in [] 0) within h.follow);
  }

  -- a new version, or none
  pub holds_renewed : {A E : Type 0} (t : Table S) (documents new : List Document) (place : ℕ) (version : ℤ) (encoding : Encoding) (text : List ℕ) (old document : Document) (result : Result A E) → Holds meaning means t documents → place < length documents → old ≡ document_in documents place → OnOk result (document ≡ restarted version encoding text old) → OnErr result (document ≡ old) → length text ≤ TEXT_LIMIT → new ≡ slice_set documents place document → Holds meaning means t new
  holds_renewed t documents new place version encoding text old document result h within old_is done undone short e =
      let before : Follows h.prefix t.given old.check = subst (InTable h.prefix t.given) (sym old_is) (All-get_or (InTable h.prefix t.given) documents place (document_in [] 0) within h.follow) in
      let small : length old.check.text ≤ TEXT_LIMIT = subst IsShort (sym old_is) (All-get_or IsShort documents place (document_in [] 0) within h.short) in
      let now = by result done undone before small in
      record {
        short = subst AreShort (sym e) (All-set IsShort documents place document now.1 h.short);
        prefix = h.prefix;
        fits = h.fits;
        follow = subst (All (InTable h.prefix t.given)) (sym e) (All-set (InTable h.prefix t.given) documents place document now.0 h.follow);
      }
    where
      by : {A E : Type 0} (result : Result A E) → OnOk result (document ≡ restarted version encoding text old) → OnErr result (document ≡ old) → Follows h.prefix t.given old.check → length old.check.text ≤ TEXT_LIMIT → InTable h.prefix t.given document × IsShort document
      by (Ok a) is none before small = (subst (InTable h.prefix t.given) (sym is) (changed_follows h.prefix t.given text old.check before), subst IsShort (sym is) short)
      by (Err e) none is before small = (subst (InTable h.prefix t.given) (sym is) before, subst IsShort (sym is) small)

  pub holds_removed : (t : Table S) (documents new : List Document) (place : ℕ) → Holds meaning means t documents → new ≡ remove documents place → Holds meaning means t new
  holds_removed t documents new place h e = record {
    short = subst AreShort (sym e) (All-append IsShort (take place documents) (drop (suc place) documents) (All-take IsShort place documents h.short) (All-drop IsShort (suc place) documents h.short));
    prefix = h.prefix;
    fits = h.fits;
    follow = subst (All (InTable h.prefix t.given)) (sym e)
        (All-append (InTable h.prefix t.given) (take place documents) (drop (suc place) documents) (All-take (InTable h.prefix t.given) place documents h.follow) (All-drop (InTable h.prefix t.given) (suc place) documents h.follow));
  }

  -- where nothing is open, and nothing is held
  pub holds_new : (t : Table S) (root : S) → meaning root ≡ means.first → t ≡ table root 0 [] → Holds meaning means t []
  holds_new t root first e = subst (λ u. Holds meaning means u []) (sym e) (record {
    short = All-nil IsShort;
    prefix = λ n. [];
    fits = record { zero = refl; root = first; rows = λ x none. absurd (omega (arith, none.1)) };
    follow = All-nil (InTable (λ n. []) 0);
  })

  -- numbers that are forgotten, or none where memory ran out
  pub holds_trimmed : {A E : Type 0} (t u : Table S) (documents : List Document) (hold : List ℕ) (result : Result A E) → Holds meaning means t documents → OnOk result (u ≡ with_rows t (trimmed hold t.rows)) → OnErr result (u ≡ t) → Holds meaning means u documents
  holds_trimmed t u documents hold (Ok a) h done undone =
      subst (λ v. Holds meaning means v documents) (sym done)
      (record { short = h.short; prefix = h.prefix; fits = trimmed_fits meaning means h.prefix t hold h.fits; follow = h.follow })
  holds_trimmed t u documents hold (Err e) h done undone = subst (λ v. Holds meaning means v documents) (sym undone) h

-- what is held then, in a session that holds what a table does
pub trim_shown : {S A E : Type 0} (t u : Table S) (inside session : Session) (hold : List ℕ) (result : Result A E) → inside ≡ session → inside.held ≡ held_in t → hold ≡ numbers_in_use inside.documents → OnOk result (u ≡ with_rows t (trimmed hold t.rows)) → OnOk result (set_held inside.documents (held_in u) inside ≡ trim session)
trim_shown {S} t u inside session hold (Ok a) same held is done =
    ap (λ v. set_held inside.documents (held_in v) inside) done
    ∙ ap (λ rows. set_held inside.documents (held_rows t.given rows) inside) (plain_trimmed S hold t.rows)
    ∙ ap (λ ns. set_held inside.documents (held_rows t.given (trimmed ns (plain_entries t.rows))) inside) is
    ∙ ap (λ h. set_held inside.documents (held_rows h.given (trimmed (numbers_in_use inside.documents) h.rows)) inside) (sym held)
    ∙ ap trim same
trim_shown t u inside session hold (Err e) same held is done = tt
