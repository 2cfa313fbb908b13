use Rattle.std.proofs.Common.{◌≡◌, ◌∙◌, ap, subst, Ok, Err, take}
use Rattle.core_term.specs.Answers.{within_limits, Gives}
use Rattle.core_term.specs.Tree.{Tree}
use Rattle.term_spine.specs.Instantiate.{instantiate}
use Rattle.cic_rules.specs.Families.{newest_first}
use Rattle.conversion.proofs.CaseLaws.{same_term}
use Rattle.move_compute.specs.Refold.{own_eliminator, refolded}
use Rattle.move_compute.specs.Turns.{AreOwnValues}
use Rattle.move_compute.proofs.RefoldingLaws as law
use Rattle.move_compute.proofs.refolding.contracted.Goals as goal

pub instantiate-requires : goal.instantiate-requires
instantiate-requires c =
    let own : AreOwnValues c.in_ok-values.values c.args.refold.now c.args.spine.now.args =
    c.in_ok-values.ensures ∙ ap (newest_first (take c.args.refold.now.count c.args.spine.now.args)) c.empty.ensures in
    law.inner_numbered c.args.vars c.args.refold.now c.args.spine.now.head c.args.spine.now.args c.args.chosen.now c.in_ok-values.values c.requires own c.len-count.ensures.small c.depth-depth.ensures.term

pub refolded-requires : goal.refolded-requires
refolded-requires c =
    let own : AreOwnValues c.in_ok-values.values c.args.refold.now c.args.spine.now.args =
    c.in_ok-values.ensures ∙ ap (newest_first (take c.args.refold.now.count c.args.spine.now.args)) c.empty.ensures in
    record {
      may = c.requires;
      values = own;
      inner = same_term c.in-Ok.inner (instantiate c.in_ok-values.values c.args.refold.now.eliminator) c.in-Ok.ensures ∙ ap (λ vs. instantiate vs c.args.refold.now.eliminator) own;
    }

pub returns-in-Ok : goal.returns-in-Ok
returns-in-Ok c =
    let own : AreOwnValues c.in_ok-values.values c.args.refold.now c.args.spine.now.args =
    c.in_ok-values.ensures ∙ ap (newest_first (take c.args.refold.now.count c.args.spine.now.args)) c.empty.ensures in
    let made = subst (λ vs. Ok c.in-Ok.inner ≡ within_limits (instantiate vs c.args.refold.now.eliminator)) own c.in-Ok.ensures in
    law.gives_both c.refolded.result (own_eliminator c.args.refold.now c.args.spine.now.head c.args.spine.now.args) (refolded c.args.refold.now c.args.spine.now.head c.args.spine.now.args c.args.chosen.now)
    (law.inner_small c.in-Ok.inner (own_eliminator c.args.refold.now c.args.spine.now.head c.args.spine.now.args) made) c.refolded.ensures

pub returns : goal.returns
returns c =
    let own : AreOwnValues c.in_ok-values.values c.args.refold.now c.args.spine.now.args =
    c.in_ok-values.ensures ∙ ap (newest_first (take c.args.refold.now.count c.args.spine.now.args)) c.empty.ensures in
    law.gives_none c.in-Err.stop (own_eliminator c.args.refold.now c.args.spine.now.head c.args.spine.now.args) (refolded c.args.refold.now c.args.spine.now.head c.args.spine.now.args c.args.chosen.now)
    (subst (λ vs. Gives {A = Tree} (Err c.in-Err.stop) (within_limits (instantiate vs c.args.refold.now.eliminator))) own c.in-Err.ensures)
