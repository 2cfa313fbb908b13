use Rattle.std.proofs.Common.{◌≡◌, ◌∙◌, sym, ap, arith, length, ◌∷◌}
use Rattle.conversion.proofs.CaseLaws.{over_rest}
use Rattle.core_term.specs.Tree.{Prod}
use Rattle.core_term.specs.Nodes.{tree_of}
use Rattle.move_compute.proofs.CallLaws as law
use Rattle.move_compute.proofs.cases.+case_on.Goals as goal

pub returns : goal.returns
returns t c =
    let prod : c.args.ty.now ≡ Prod c.in-Prod.name c.in-Prod.domain c.in-Prod.codomain = sym c.node.ensures.top ∙ ap tree_of c.in-Prod.is in
    let split : c.args.args.now ≡ c.in-Some-2.first ∷ c.in-Some-2.rest = rw c.in-Some-2.is at c.in_ok-split.ensures in
    law.case_stop c.in-Err.stop c.args.params c.in-Some.mark.now c.in-Some.later.now c.args.marks.now c.args.call.now c.args.case c.args.values
    c.in-Prod.name c.in-Prod.domain c.in-Prod.codomain c.args.ty.now c.in-Some-2.first c.in-Some-2.rest c.args.args.now c.in-Some.ensures.cases.0 prod split
    c.in-Err.ensures

pub case_on-requires : goal.case_on-requires
case_on-requires t c =
    let prod : c.args.ty.now ≡ Prod c.in-Prod.name c.in-Prod.domain c.in-Prod.codomain = sym c.node.ensures.top ∙ ap tree_of c.in-Prod.is in
    let split : c.args.args.now ≡ c.in-Some-2.first ∷ c.in-Some-2.rest = rw c.in-Some-2.is at c.in_ok-split.ensures in
    let shorter = ap length split in (
      grind (arith, shorter),
      (
        c.requires.call,
        (
          over_rest c.args.vars c.args.args.now c.in-Some-2.first c.in-Some-2.rest split c.requires.args,
          law.next_values c.args.vars c.args.values c.in_ok-values-in-Ok.values c.args.ty.now c.in-Prod.name c.in-Prod.domain c.in-Prod.codomain c.in-Some-2.first
              c.args.args.now c.in-Some-2.rest prod split c.in_ok-values-in-Ok.ensures c.requires.values c.requires.args c.depth-depth.ensures.term,
        ),
      ),
    )
