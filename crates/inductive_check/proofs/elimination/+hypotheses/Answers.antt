use Rattle.std.proofs.Common.{◌≡◌, ◌∙◌, ◌+◌, sym, ap, subst, arith}
use Rattle.core_term.specs.Tree.{Prod}
use Rattle.core_term.specs.Nodes.{tree_of}
use Rattle.core_term.specs.Answers.{within_limits, Gives}
use Rattle.inductive_check.specs.Labels.{with_type}
use Rattle.inductive_check.specs.Elimination.{hypothesis_at}
use Rattle.inductive_check.proofs.CaseLaws.{hypothesis_under}
use Rattle.inductive_check.proofs.OverLaws.{size_over, depth_over, free_first, free_rest, place_more}
use Rattle.inductive_check.proofs.elimination.+hypotheses.Goals as goal

pub hypothesis-hypothesis_over-requires : goal.hypothesis-hypothesis_over-requires
hypothesis-hypothesis_over-requires t c =
    let prod : c.args.ty.now ≡ Prod c.in-Prod.name c.in-Prod.domain c.in-Prod.codomain = sym c.node.ensures.top ∙ ap tree_of c.in-Prod.is in
    let shorter = size_over c.args.ty.now c.in-Prod.name c.in-Prod.domain c.in-Prod.codomain prod in (
      omega (arith, shorter),
      (
        c.requires.motive,
        (
          free_first c.args.site.now c.args.ty.now c.in-Prod.name c.in-Prod.domain c.in-Prod.codomain prod c.requires.place,
          (
            free_rest c.args.site.now c.args.ty.now c.in-Prod.name c.in-Prod.domain c.in-Prod.codomain prod c.requires.place,
            (c.requires.below, depth_over c.args.ty.now c.in-Prod.name c.in-Prod.domain c.in-Prod.codomain (c.args.site.now.depth + c.args.own) prod c.requires.room),
          ),
        ),
      ),
    )

pub hypothesis-returns-in-Prod : goal.hypothesis-returns-in-Prod
hypothesis-returns-in-Prod t c =
    let prod : c.args.ty.now ≡ Prod c.in-Prod.name c.in-Prod.domain c.in-Prod.codomain = sym c.node.ensures.top ∙ ap tree_of c.in-Prod.is in
    subst (λ x. Gives c.hypothesis_over.result (within_limits x))
    (sym (ap (hypothesis_at (with_type c.args.env.now c.args.i.now) c.args.i.now c.args.m c.args.site.now c.args.own) prod
    ∙ hypothesis_under (with_type c.args.env.now c.args.i.now) c.args.i.now c.args.m c.args.site.now c.args.own c.in-Prod.name c.in-Prod.domain c.in-Prod.codomain
    c.requires.below c.requires.place.site.above)) c.hypothesis_over.ensures

pub hypothesis_over-hypothesis-requires : goal.hypothesis_over-hypothesis-requires
hypothesis_over-hypothesis-requires t c =
    let deeper : c.in_ok-inner.inner.depth ≡ c.args.site.now.depth + 1 = ap (λ s. s.depth) c.in_ok-inner.ensures in
    let room = c.requires.room in
    let below = c.requires.below in (
      omega arith,
      (
        c.requires.motive,
        (
          place_more c.args.site.now c.in_ok-inner.inner c.args.b.now c.in_ok-inner.ensures c.requires.first.site (omega (arith, room)) c.requires.rest,
          (omega (arith, below, deeper), omega (arith, deeper, room)),
        ),
      ),
    )
