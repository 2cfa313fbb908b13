use Rattle.std.proofs.Common.{inr, map, filter, ap, ◌∙◌}
use Rattle.batch_check.specs.Batch.{files_batch, Checks}
use Rattle.fleche_main.specs.Run.{is_wanted}
use Rattle.fleche_main.proofs.Listed.{told_same}
use Rattle.fleche_main.proofs.documents.check_documents.Goals as goal

pub returns-clause-told : goal.returns-clause-told
returns-clause-told g c =
    let o = g.O.Observer in
    let s = g.S.Sink in
    let p = g.P.Prover in
    let kept = c.keep_named.ensures ∙ ap (λ names. filter (λ w. is_wanted names (o.title w)) c.args.watch.now.items) (c.as_slice.ensures ∙ c.in_ok-names.ensures) in
    let named = c.as_slice-2.ensures ∙ c.in_ok-documents.ensures ∙ c.behind_pairs.ensures in
    inr (
      c.check_files.ensures.named ∙ ap (map o.title) kept,
      told_same (g.F.FileSet.content c.args.files.now)
          (λ names watch listed. Checks (files_batch p.means listed names) c.check_files.result (s.written c.args.out.now) (s.written c.check_files.new.out) (map o.told c.check_files.new.watch.items) (map o.shown watch) (map o.shown c.check_files.new.watch.items))
          _ _ _ _ named kept c.check_files.ensures.told,
    )
