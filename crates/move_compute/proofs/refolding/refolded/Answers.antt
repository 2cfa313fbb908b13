use Rattle.std.proofs.Common.{subst}
use Rattle.term_spine.specs.Spines.{GivesSpine}
use Rattle.move_compute.proofs.RefoldingLaws as law
use Rattle.move_compute.proofs.refolding.refolded.Goals as goal

pub instantiate-requires : goal.instantiate-requires
instantiate-requires c =
    law.case_numbered c.args.vars c.args.refold.now c.args.spine.now.head c.args.spine.now.args c.args.chosen.now c.args.values.now c.requires.may c.requires.values c.len-count.ensures.small c.depth-depth.ensures.term

pub fire-requires : goal.fire-requires
fire-requires c =
    law.may_fire c.args.vars c.args.refold.now c.args.spine.now.head c.args.spine.now.args c.args.chosen.now c.in_ok-call.call c.args.inner.now c.in_ok-parts.parts c.requires.may c.requires.inner c.in_ok-parts.ensures c.in_ok-call.ensures

pub returns-in-Ok : goal.returns-in-Ok
returns-in-Ok c =
    subst (GivesSpine c.fire.result)
    (law.refolded_is c.args.refold.now c.args.spine.now.head c.args.spine.now.args c.args.chosen.now c.in_ok-call.call c.args.values.now c.args.inner.now c.in-Ok.case c.in_ok-parts.parts c.in_ok-rest.rest
    c.requires.values c.requires.inner c.in_ok-parts.ensures c.in_ok-call.ensures c.in-Ok.ensures c.in_ok-rest.ensures) c.fire.ensures

pub returns : goal.returns
returns c = law.case_stop c.args.refold.now c.args.spine.now.head c.args.spine.now.args c.args.chosen.now c.args.values.now c.in-Err.stop c.requires.values c.in-Err.ensures
