use Rattle.std.proofs.Common.{sym, ap, ◌∙◌, arith}
use Rattle.core_term.specs.Nodes.{tree_of}
use Rattle.move_basic.proofs.Parameters.{with_last_made, with_last_stopped}
use Rattle.move_basic.proofs.constructing.+at_all_but.Goals as goal

pub returns-in_ok-argument-in-Ok : goal.returns-in_ok-argument-in-Ok
returns-in_ok-argument-in-Ok t c =
    with_last_made c.args.last c.args.place c.args.t.now _ _ _ _ _ _ (sym (ap tree_of c.in-App.is) ∙ c.node.ensures.top)
    (omega (arith, c.if-last-gt0.false)) c.in_ok-argument-in-Ok.ensures c.in-Ok.is c.at_all_but-in-App.ensures c.app.ensures

pub returns-in-Err : goal.returns-in-Err
returns-in-Err t c =
    with_last_stopped c.args.last c.args.place c.args.t.now _ _ _ _ (sym (ap tree_of c.in-App.is) ∙ c.node.ensures.top)
    (omega (arith, c.if-last-gt0.false)) c.in-Err.is c.at_all_but-in-App.ensures
