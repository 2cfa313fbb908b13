use Rattle.std.proofs.Common.{◌≡◌, ◌-◌, arith}
use Rattle.move_compute.proofs.RefoldingLaws.{call_is}
use Rattle.move_compute.proofs.refolding.own_call.Goals as goal

pub returns-in-Ok : goal.returns-in-Ok
returns-in-Ok c =
    let count : c.saturating_sub-count.result ≡ c.args.refold.now.count - c.args.refold.now.at - 1 = grind (arith, c.saturating_sub.ensures, c.saturating_sub-count.ensures) in
    call_is c.args.refold.now c.args.spine.now.head c.args.spine.now.args c.in-Ok.front c.in_ok-head.head c.in_ok-from.from c.in_ok-later.later c.in_ok-behind.behind
    c.saturating_sub-count.result c.in_ok-head.ensures c.in-Ok.ensures c.in_ok-from.ensures c.in_ok-later.ensures count c.in_ok-behind.ensures
