use Rattle.std.proofs.Common.{rules}
use Rattle.sched_core.proofs.Floats.{progress_is}
use Rattle.sched_core.proofs.open_document.OpenDocument.progress.Goals as goal

pub returns : goal.returns
returns g c =
    progress_is c.progress_body.result c.as_str.result.now _ c.self.inside.doc c.next_from-from.result c.args.self.now
    (search rules) (search rules) (search rules) (search rules) c.progress_body.ensures
