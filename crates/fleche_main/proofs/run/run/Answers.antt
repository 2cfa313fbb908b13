use Rattle.std.proofs.Common.{rules, ◌≡◌, ◌⊎◌, IfSome, map, filter, subst, string_bytes}
use Rattle.batch_check.specs.Batch.{files_batch, Checks}
use Rattle.cic_prover.specs.Exec.{means}
use Rattle.doc_gen.specs.declared.generating.TheConstants.{GENERATED_LIMIT}
use Rattle.fleche_main.specs.Words.{asked, session_named, number_named, documents_named}
use Rattle.fleche_main.specs.Run.{ByStatus, IsUnbegun, is_wanted}
use Rattle.fleche_main.proofs.Asked.{same_count, same_files, generated_told}
use Rattle.fleche_main.proofs.run.run.Goals as goal

pub returns-in-Some-number_named-clause-generated : goal.returns-in-Some-number_named-clause-generated
returns-in-Some-number_named-clause-generated g c =
    let words = map string_bytes c.args.words.now in
    let titles = map g.O.Observer.title c.args.watch.now.items in
    λ count asks. generated_told means c.in-Some-number_named.count count c.args.steps.now c.write_generated.new.steps c.status_of.result c.write_generated.result _ _
    (same_count (session_named words) (number_named GENERATED_LIMIT words) (documents_named titles words) c.in-Some-number_named.count count (search rules) (search rules) asks)
    c.status_of.ensures.value c.write_generated.ensures.told c.write_generated.ensures.work

pub returns-in-Some-documents_named-clause-check : goal.returns-in-Some-documents_named-clause-check
returns-in-Some-documents_named-clause-check g c =
    let words = map string_bytes c.args.words.now in
    let titles = map g.O.Observer.title c.args.watch.now.items in
    let o = g.O.Observer in
    let s = g.S.Sink in
    let held = c.args.watch.now.items in
    let now = c.check_documents.new.watch.items in
    let old = s.written c.args.out.now in
    let new = s.written c.check_documents.new.out in
    λ wanted asks. subst (λ a. ByStatus c.number.result (λ end. IsUnbegun end old new held now ⊎ ((map o.title now ≡ map o.title (filter (λ w. is_wanted a.names (o.title w)) held)) × IfSome (g.F.FileSet.content c.args.files.now) (λ listed. Checks (files_batch means listed a.files) end old new (map o.told now) (map o.shown (filter (λ w. is_wanted a.names (o.title w)) held)) (map o.shown now)))))
    (same_files (session_named words) (number_named GENERATED_LIMIT words) (documents_named titles words) (asked (map string_bytes c.in-Some-documents_named.behind.now)) wanted (search rules) (search rules) (search rules) asks)
    (record { end = c.check_documents.result; status_is = c.number.ensures.value; holds = c.check_documents.ensures.told })
