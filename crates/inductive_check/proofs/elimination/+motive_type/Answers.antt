use Rattle.std.proofs.Common.{◌≡◌, ◌∙◌, ◌+◌, sym, ap}
use Rattle.core_term.specs.Tree.{Prod}
use Rattle.core_term.specs.Nodes.{tree_of}
use Rattle.inductive_check.specs.Labels.{with_type}
use Rattle.inductive_check.specs.Elimination.{motive_type_at}
use Rattle.inductive_check.proofs.CaseLaws.{motive_under}
use Rattle.inductive_check.proofs.OverLaws.{prod_gives, rest_ends}
use Rattle.inductive_check.proofs.elimination.+motive_type.Goals as goal

pub returns-in-Ok : goal.returns-in-Ok
returns-in-Ok t c =
    let prod : c.args.arity.now ≡ Prod c.in-Prod.name c.in-Prod.domain c.in-Prod.codomain = sym c.node.ensures.top ∙ ap tree_of c.in-Prod.is in
    let e = with_type c.args.env.now c.args.i.now in
    prod_gives c.prod.result c.in_ok-name-in-Prod.name c.in-Prod.name c.in_ok-domain-in-Prod.domain c.in-Prod.domain c.in-Ok.rest
    (motive_type_at e c.args.i.now (c.args.count + 1) c.args.sort c.in-Prod.codomain) (motive_type_at e c.args.i.now c.args.count c.args.sort c.args.arity.now)
    c.in_ok-name-in-Prod.ensures c.in_ok-domain-in-Prod.ensures c.in-Ok.ensures
    (ap (motive_type_at e c.args.i.now c.args.count c.args.sort) prod
    ∙ motive_under e c.args.i.now c.args.m c.args.count c.args.sort c.in-Prod.name c.in-Prod.domain c.in-Prod.codomain) c.prod.ensures

pub returns-in-Err : goal.returns-in-Err
returns-in-Err t c =
    let prod : c.args.arity.now ≡ Prod c.in-Prod.name c.in-Prod.domain c.in-Prod.codomain = sym c.node.ensures.top ∙ ap tree_of c.in-Prod.is in
    let e = with_type c.args.env.now c.args.i.now in
    rest_ends c.in-Err.stop c.in-Prod.name c.in-Prod.domain (motive_type_at e c.args.i.now (c.args.count + 1) c.args.sort c.in-Prod.codomain)
    (motive_type_at e c.args.i.now c.args.count c.args.sort c.args.arity.now)
    (ap (motive_type_at e c.args.i.now c.args.count c.args.sort) prod
    ∙ motive_under e c.args.i.now c.args.m c.args.count c.args.sort c.in-Prod.name c.in-Prod.domain c.in-Prod.codomain) c.in-Err.ensures
