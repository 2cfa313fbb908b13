use Rattle.std.proofs.Common.{ap}
use Rattle.sched_core.specs.Done.{with_check}
use Rattle.sched_core.proofs.Taken.{take_comes}
use Rattle.sched_core.proofs.open_document.OpenDocument.take_kept.Goals as goal

pub returns-clause-comes : goal.returns-clause-comes
returns-clause-comes g c =
    take_comes c.take_kept.result c.args.table.now c.take_kept.new.table c.args.self.now _ c.self.inside.check c.take_kept.new.self
    (ap (λ d. d.check) c.self.view_is) c.take_kept.ensures.taken (ap (with_check c.take_kept.new.self) c.self.view_is) c.take_kept.ensures.rows
