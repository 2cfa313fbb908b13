use Rattle.std.proofs.Common.{rules}
use Rattle.doc_check.proofs.Taking.{grown_moved, put_moved}
use Rattle.doc_check.proofs.document.DocCheck.run_one.Goals as goal

pub returns-in_err-keep-in-Done-clause-moved : goal.returns-in_err-keep-in-Done-clause-moved
returns-in_err-keep-in-Done-clause-moved g c = λ prefix fits follows.
    let p = g.P.Prover in
    grown_moved p.meaning p.means prefix c.args.table.now c.keep.new.table c.args.self.now c.keep.new.self
    c.in_err-keep-in-Done.ensures.unchanged c.in_err-keep-in-Done.ensures.grown fits follows

pub returns-in_ok-keep-in-Done-clause-moved : goal.returns-in_ok-keep-in-Done-clause-moved
returns-in_ok-keep-in-Done-clause-moved g c = λ prefix fits follows.
    let p = g.P.Prover in
    put_moved p.meaning p.means prefix c.args.table.now c.keep.new.table c.args.self.now c.keep.new.self
    c.in_ok-keep-in-Done.ensures.new (search rules) fits follows c.in_ok-keep-in-Done.ensures.kept
