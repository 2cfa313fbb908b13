use Rattle.doc_check.specs.Check.{checked}
use Rattle.batch_check.proofs.Texts.{read_told}
use Rattle.batch_check.proofs.checks.check_file.Goals as goal

pub returns-in-Ok-clause-told : goal.returns-in-Ok-clause-told
returns-in-Ok-clause-told g c =
    let p = g.P.Prover in
    read_told (checked p.means) (g.F.FileSet.content c.args.files.now) c.args.name.now _ _ _ c.in-Ok.ensures.told c.as_slice.ensures c.check_bytes.ensures.told
