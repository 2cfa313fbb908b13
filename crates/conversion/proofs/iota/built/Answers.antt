use Rattle.std.proofs.Common.{◌≡◌, ◌≤◌, ◌∙◌, refl, sym, ap, subst, Err, [], take}
use Rattle.core_term.specs.Tree.{free_bound}
use Rattle.term_spine.specs.SpineLaws.{AreOver}
use Rattle.term_spine.specs.Spines.{GivesSpine}
use Rattle.term_spine.specs.Spine.{apply_all}
use Rattle.cic_rules.specs.Families.{newest_first}
use Rattle.conversion.specs.Iota.{case_by, MayPutIn}
use Rattle.conversion.proofs.FireLaws as law
use Rattle.conversion.proofs.CaseLaws.{same_term}
use Rattle.conversion.proofs.TurnLaws.{part_stop}
use Rattle.conversion.proofs.iota.built.Goals as goal

pub case_applied-requires-clause-eliminator : goal.case_applied-requires-clause-eliminator
case_applied-requires-clause-eliminator c =
    let same : c.in-Ok.eliminator ≡ apply_all c.args.spine.now.head (take c.args.shape.now.fixed c.args.spine.now.args) =
    same_term c.in-Ok.eliminator _ c.in-Ok.ensures ∙ ap (λ h. apply_all h (take c.args.shape.now.fixed c.args.spine.now.args)) c.in_ok-head.ensures in
    subst (λ u. free_bound u ≤ c.args.vars) (sym same)
    (law.first_over c.args.vars c.args.shape.now.fixed c.args.spine.now.head c.args.spine.now.args c.requires.head c.requires.args)

pub case_applied-requires-clause-args : goal.case_applied-requires-clause-args
case_applied-requires-clause-args c =
    subst (AreOver c.args.vars) (sym c.in_ok-arguments.ensures) (law.drop_over c.args.vars c.args.shape.now.params c.args.value_args.now c.requires.made)

pub case_applied-requires-clause-values : goal.case_applied-requires-clause-values
case_applied-requires-clause-values c =
    let values : c.in_ok-values.values ≡ newest_first (take c.args.shape.now.params c.args.spine.now.args) [] =
    c.in_ok-values.ensures ∙ ap (newest_first (take c.args.shape.now.params c.args.spine.now.args)) c.empty.ensures in
    subst (λ vs. MayPutIn c.args.vars vs c.args.ty.now) (sym values)
    (law.built_may c.args.vars c.args.shape.now.params c.args.spine.now c.args.ty.now c.args.value_args.now c.requires c.depth-depth.ensures.term)

pub returns-in-Ok-case_applied : goal.returns-in-Ok-case_applied
returns-in-Ok-case_applied c =
    let same : c.in-Ok.eliminator ≡ apply_all c.args.spine.now.head (take c.args.shape.now.fixed c.args.spine.now.args) =
    same_term c.in-Ok.eliminator _ c.in-Ok.ensures ∙ ap (λ h. apply_all h (take c.args.shape.now.fixed c.args.spine.now.args)) c.in_ok-head.ensures in
    let values : c.in_ok-values.values ≡ newest_first (take c.args.shape.now.params c.args.spine.now.args) [] =
    c.in_ok-values.ensures ∙ ap (newest_first (take c.args.shape.now.params c.args.spine.now.args)) c.empty.ensures in
    let made = same_term c.in-Ok-case_applied.whole _ c.in-Ok-case_applied.ensures in
    subst (λ u. GivesSpine c.spine_of.result u)
    (law.built_is c.args.shape.now.params c.args.shape.now.fixed c.args.shape.now.major c.args.marks.now c.as_slice.result.now c.args.spine.now.head c.args.spine.now.args c.args.case
    c.args.ty.now c.args.value_args.now c.in-Ok.eliminator c.in-Ok-case_applied.whole c.in_ok-values.values c.in_ok-arguments.arguments c.in_ok-behind.behind c.in_ok-rest.rest c.as_slice.ensures same values
    c.in_ok-arguments.ensures c.in_ok-behind.ensures c.in_ok-rest.ensures made) c.spine_of.ensures

pub returns-in-Ok : goal.returns-in-Ok
returns-in-Ok c =
    let same : c.in-Ok.eliminator ≡ apply_all c.args.spine.now.head (take c.args.shape.now.fixed c.args.spine.now.args) =
    same_term c.in-Ok.eliminator _ c.in-Ok.ensures ∙ ap (λ h. apply_all h (take c.args.shape.now.fixed c.args.spine.now.args)) c.in_ok-head.ensures in
    let values : c.in_ok-values.values ≡ newest_first (take c.args.shape.now.params c.args.spine.now.args) [] =
    c.in_ok-values.ensures ∙ ap (newest_first (take c.args.shape.now.params c.args.spine.now.args)) c.empty.ensures in
    subst (λ u. GivesSpine (Err c.in-Err-case_applied.stop) u)
    (law.built_is c.args.shape.now.params c.args.shape.now.fixed c.args.shape.now.major c.args.marks.now c.as_slice.result.now c.args.spine.now.head c.args.spine.now.args c.args.case
    c.args.ty.now c.args.value_args.now c.in-Ok.eliminator (case_by c.args.shape.now.params c.as_slice.result.now c.in-Ok.eliminator c.args.case c.in_ok-values.values c.args.ty.now c.in_ok-arguments.arguments) c.in_ok-values.values c.in_ok-arguments.arguments c.in_ok-behind.behind c.in_ok-rest.rest c.as_slice.ensures same values
    c.in_ok-arguments.ensures c.in_ok-behind.ensures c.in_ok-rest.ensures refl)
    (part_stop c.in-Err-case_applied.stop (case_by c.args.shape.now.params c.as_slice.result.now c.in-Ok.eliminator c.args.case c.in_ok-values.values c.args.ty.now c.in_ok-arguments.arguments) c.in_ok-rest.rest c.in-Err-case_applied.ensures)
