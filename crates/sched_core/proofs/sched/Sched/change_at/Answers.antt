use Rattle.std.proofs.Common.{rules}
use Rattle.doc_check.specs.Check.{views}
use Rattle.sched_core.proofs.Made.{change_made, reversed_made, too_long_made}
use Rattle.sched_core.proofs.sched.Sched.change_at.Goals as goal

pub returns-in-Ok : goal.returns-in-Ok
returns-in-Ok g c =
    change_made (views g.P.Prover.means) c.args.self.now c.args.version _ c.args.changes.now c.args.place c.in-Ok.new.doc.text c.renew.result c.renew.new.self
    (search rules) (search rules) (search rules) c.renew.ensures

pub returns-in-Err-RangeReversed : goal.returns-in-Err-RangeReversed
returns-in-Err-RangeReversed g c =
    let told = c.in-Err-RangeReversed in
    reversed_made (views g.P.Prover.means) c.args.self.now c.args.version c.args.changes.now c.args.place c.document-2.result.now c.edited.result told.field-0 c.refuse-in-Err-RangeReversed.result
    (search rules) c.document-2.ensures told.is told.field-0-is c.edited.ensures.edits c.refuse-in-Err-RangeReversed.ensures.bodies c.refuse-in-Err-RangeReversed.ensures.exit

pub returns-in-Err-TooLong : goal.returns-in-Err-TooLong
returns-in-Err-TooLong g c =
    let told = c.in-Err-TooLong in
    too_long_made (views g.P.Prover.means) c.args.self.now c.args.version c.args.changes.now c.args.place c.document-2.result.now c.edited.result told.field-0 c.refuse-in-Err-TooLong.result
    (search rules) c.document-2.ensures told.is told.field-0-is c.edited.ensures.edits c.refuse-in-Err-TooLong.ensures.bodies c.refuse-in-Err-TooLong.ensures.exit
