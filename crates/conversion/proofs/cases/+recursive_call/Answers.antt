use Rattle.std.proofs.Common.{◌≡◌, ◌∙◌, sym, ap, subst, arith, ◌+◌}
use Rattle.core_term.specs.Tree.{Prod}
use Rattle.core_term.specs.Nodes.{tree_of}
use Rattle.core_term.specs.Answers.{within_limits, Gives}
use Rattle.term_spine.specs.Instantiate.{instantiate}
use Rattle.conversion.specs.Iota.{MayPutIn}
use Rattle.conversion.proofs.CaseLaws as law
use Rattle.conversion.proofs.cases.+recursive_call.Goals as goal

pub values_under-requires : goal.values_under-requires
values_under-requires t c =
    let room = c.requires.values.room in
    law.over_more c.args.vars 2147487648 c.args.values.now (omega (arith, room)) c.requires.values.over

pub instantiate-requires : goal.instantiate-requires
instantiate-requires t c =
    let prod : c.args.ty.now ≡ Prod c.in-Prod.name c.in-Prod.domain c.in-Prod.codomain = sym c.node.ensures.top ∙ ap tree_of c.in-Prod.is in
    let may : MayPutIn c.args.vars c.args.values.now (Prod c.in-Prod.name c.in-Prod.domain c.in-Prod.codomain) = subst (MayPutIn c.args.vars c.args.values.now) prod c.requires.values in
    law.may_number c.args.vars c.args.values.now c.in-Prod.domain
    (law.may_domain c.args.vars c.args.values.now c.in-Prod.name c.in-Prod.domain c.in-Prod.codomain may) c.depth-depth.ensures.term

pub recursive_call-requires : goal.recursive_call-requires
recursive_call-requires t c =
    let prod : c.args.ty.now ≡ Prod c.in-Prod.name c.in-Prod.domain c.in-Prod.codomain = sym c.node.ensures.top ∙ ap tree_of c.in-Prod.is in
    let may : MayPutIn c.args.vars c.args.values.now (Prod c.in-Prod.name c.in-Prod.domain c.in-Prod.codomain) = subst (MayPutIn c.args.vars c.args.values.now) prod c.requires.values in
    let under : MayPutIn (c.args.vars + 1) c.in_ok-under-in-Prod.under c.in-Prod.codomain =
    subst (λ vs. MayPutIn (c.args.vars + 1) vs c.in-Prod.codomain) (sym c.in_ok-under-in-Prod.ensures)
    (law.may_under c.args.vars c.args.values.now c.in-Prod.name c.in-Prod.domain c.in-Prod.codomain may) in
    let applied = law.same_term c.in-Ok-eta_body.applied _ c.in-Ok-eta_body.ensures in (
      grind (arith, prod),
      (
        law.shift_few c.args.vars c.args.eliminator.now c.in_ok-deeper-in-Prod.deeper c.in_ok-deeper-in-Prod.ensures c.requires.eliminator,
        (law.eta_few c.args.vars c.args.argument.now c.in-Ok-eta_body.applied applied c.requires.argument, under),
      ),
    )

pub returns-in-Ok-recursive_call : goal.returns-in-Ok-recursive_call
returns-in-Ok-recursive_call t c =
    let prod : c.args.ty.now ≡ Prod c.in-Prod.name c.in-Prod.domain c.in-Prod.codomain = sym c.node.ensures.top ∙ ap tree_of c.in-Prod.is in
    let applied = law.same_term c.in-Ok-eta_body.applied _ c.in-Ok-eta_body.ensures in
    let domain = law.same_term c.in-Ok.domain _ c.in-Ok.ensures in
    let body = law.same_term c.in-Ok-recursive_call.body _ c.in-Ok-recursive_call.ensures in
    let made = law.call_is c.args.params c.args.eliminator.now c.args.argument.now c.in-Ok.domain c.in_ok-deeper-in-Prod.deeper c.in-Ok-eta_body.applied
    c.in-Ok-recursive_call.body c.args.ty.now c.in-Prod.domain c.in-Prod.codomain c.args.values.now c.in_ok-under-in-Prod.under c.in-Prod.name
    c.in_ok-name-in-Prod.name prod c.in_ok-name-in-Prod.ensures domain c.in_ok-deeper-in-Prod.ensures applied c.in_ok-under-in-Prod.ensures body in
    subst (λ u. Gives c.lam.result (within_limits u)) made c.lam.ensures

pub returns-in-Err-eta_body : goal.returns-in-Err-eta_body
returns-in-Err-eta_body t c =
    let prod : c.args.ty.now ≡ Prod c.in-Prod.name c.in-Prod.domain c.in-Prod.codomain = sym c.node.ensures.top ∙ ap tree_of c.in-Prod.is in
    rw prod (law.eta_stop c.in-Err-eta_body.stop c.args.params c.in-Prod.name c.args.eliminator.now c.args.argument.now c.args.values.now c.in-Prod.domain
    c.in-Prod.codomain c.in-Err-eta_body.ensures)

pub returns-in-Err : goal.returns-in-Err
returns-in-Err t c =
    let prod : c.args.ty.now ≡ Prod c.in-Prod.name c.in-Prod.domain c.in-Prod.codomain = sym c.node.ensures.top ∙ ap tree_of c.in-Prod.is in
    rw prod (law.domain_stop c.in-Err.stop c.in-Prod.name (instantiate c.args.values.now c.in-Prod.domain) _ c.in-Err.ensures)
