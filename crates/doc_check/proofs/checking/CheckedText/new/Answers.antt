use Rattle.doc_check.proofs.Whole.{way_begun, way_ended}
use Rattle.doc_check.proofs.checking.CheckedText.new.Goals as goal

pub run_all-requires : goal.run_all-requires
run_all-requires g c =
    let p = g.P.Prover in
    way_begun p.meaning p.means c.in_ok-table.table c.in_ok-check.check c.in_ok-first.first c.args.text c.in_ok-table.ensures c.in_ok-check.ensures c.in_ok-first.ensures.first

pub returns-clause-checked : goal.returns-clause-checked
returns-clause-checked g c =
    let p = g.P.Prover in
    way_ended p.meaning p.means c.run_all.new.table c.run_all.new.check c.in_ok-run_all.ensures.way c.in_ok-run_all.ensures.ended
