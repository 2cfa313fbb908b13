use Rattle.std.proofs.Common.{subst}
use Rattle.term_spine.specs.Spines.{GivesSpine}
use Rattle.move_compute.proofs.FiringLaws.{eliminator_may, eliminator_made, eliminator_is}
use Rattle.move_compute.proofs.contractions.contracted.Goals as goal

pub fire-requires : goal.fire-requires
fire-requires c =
    eliminator_may c.args.vars c.args.shape.now c.args.spine.now.head c.args.spine.now.args c.args.chosen.now (record { front = c.in-Ok.front; behind = c.empty.result })
    (eliminator_made c.args.shape.now c.args.spine.now.head c.in_ok-head.head c.in-Ok.front c.args.spine.now.args c.empty.result c.in_ok-head.ensures c.in-Ok.ensures c.empty.ensures)
    c.requires

pub returns-in-Ok : goal.returns-in-Ok
returns-in-Ok c =
    let made = eliminator_made c.args.shape.now c.args.spine.now.head c.in_ok-head.head c.in-Ok.front c.args.spine.now.args c.empty.result c.in_ok-head.ensures c.in-Ok.ensures
    c.empty.ensures in
    subst (GivesSpine c.fire.result)
    (eliminator_is c.args.shape.now c.args.spine.now.head c.args.spine.now.args c.args.chosen.now (record { front = c.in-Ok.front; behind = c.empty.result }) c.in_ok-case.case
    c.in_ok-behind.behind c.in_ok-rest.rest made c.in_ok-case.ensures c.in_ok-behind.ensures c.in_ok-rest.ensures) c.fire.ensures
