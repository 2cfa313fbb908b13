use Rattle.doc_check.specs.Check.{views}
use Rattle.sched_core.proofs.Answering.{told_outline}
use Rattle.sched_core.proofs.open_document.OpenDocument.told_of.Goals as goal

pub returns-in-Outline : goal.returns-in-Outline
returns-in-Outline g c =
    told_outline (views g.P.Prover.means) c.symbols_value.result c.self.inside.doc c.self.inside.check c.self.inside.uri _ c.args.self.now c.args.question.now
    c.self.view_is c.self.invariant c.in-Outline.is c.symbols_value.ensures
