use Rattle.std.proofs.Common.{rules}
use Rattle.vernac_exec.proofs.ShownRows.{next_row_shown}
use Rattle.vernac_exec.proofs.state.ProverState.outline.Goals as goal

pub loop-i-preserved : goal.loop-i-preserved
loop-i-preserved c =
    next_row_shown c.args.self.now.env c.args.self.now.outline c.loop-i.i c.in-Some.row.now c.in_ok-item.field-0 c.loop-i.outline c.push.new.self _
    (search rules) (search rules) c.loop-i.invariant c.in_ok-push.ensures
