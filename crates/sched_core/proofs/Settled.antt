-- A document that takes what is held, and a session that begins.
use Rattle.std.proofs.Common.{◌≡◌, ℕ, Result, Ok, Err, OnOk, List, [], ◌++◌, ap, sym, subst, ◌∙◌}
use Rattle.prover_iface.specs.Meanings.{Meanings}
use Rattle.memo_table.specs.Table.{Table, table}
use Rattle.doc_check.specs.Check.{Views}
use Rattle.sched_core.specs.Step.{Adds}
use Rattle.sched_core.specs.Session.{Document, Session, document_at, Holds}
use Rattle.sched_core.specs.Done.{take_kept, came}
use Rattle.sched_core.specs.Documents.{settle, status_bodies}
use Rattle.sched_core.proofs.Kept.{holds_new}

pub settle_adds : {E : Type 0} (views : Views) (session mid : Session) (place : ℕ) (before now : List (List ℕ)) (r : Result (Unit {0}) E) → mid ≡ came place (take_kept (document_at session place).check session.held) session → OnOk r (now ≡ before ++ status_bodies views (document_at mid place)) → Adds (settle views place session) before r now mid
settle_adds views session mid place before now (Ok done) put told = (told ∙ ap (λ s. before ++ status_bodies views (document_at s place)) put, put)
settle_adds views session mid place before now (Err e) put told = tt

pub holds_begun : {S M : Type 0} (meaning : S → M) (means : Meanings M) (t : Table S) (root : S) (documents : List Document) → meaning root ≡ means.first → t ≡ table root 0 [] → documents ≡ [] → Holds meaning means t documents
holds_begun meaning means t root documents first is none = subst (Holds meaning means t) (sym none) (holds_new meaning means t root first is)
