use Rattle.std.proofs.Common.{rules}
use Rattle.doc_check.specs.Check.{views}
use Rattle.sched_core.proofs.Floats.{diags_are}
use Rattle.sched_core.proofs.open_document.OpenDocument.diags.Goals as goal

pub returns : goal.returns
returns g c =
    diags_are c.diags_body.result c.as_str.result.now _ c.self.inside.doc c.as_slice.result.now ((views g.P.Prover.means).diags c.args.self.now.check.text) c.args.self.now
    (search rules) (search rules) (search rules) (search rules) c.diags_body.ensures
