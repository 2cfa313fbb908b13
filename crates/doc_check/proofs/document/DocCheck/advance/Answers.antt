use Rattle.doc_check.proofs.Advancing.{step_moved}
use Rattle.doc_check.proofs.document.DocCheck.advance.Goals as goal

pub returns-clause-moved : goal.returns-clause-moved
returns-clause-moved g c = λ prefix fits follows.
    let p = g.P.Prover in
    step_moved p.meaning p.means prefix c.args.table.now c.take_kept.new.table c.run_one.new.table c.args.self.now c.take_kept.new.self c.run_one.new.self
    c.take_kept.ensures.stands c.take_kept.ensures.rows c.run_one.ensures.moved fits follows
