use Rattle.std.proofs.Common.{◌≡◌, ◌∙◌, sym, ap, length, true, arith}
use Rattle.core_term.proofs.SortOrder.{product_level}
use Rattle.cic_rules.specs.Fuel.{left, calls_left, nested}
use Rattle.core_term.specs.Nodes.{tree_of}
use Rattle.cic_rules.proofs.DeclareLaws.{judged_may_enter}
use Rattle.cic_rules.proofs.ScopeLaws.{scoped_free}
use Rattle.conversion.proofs.ReduceLaws.{spent_more}
use Rattle.cic_kernel.proofs.CallLaws.{no_calls, begun_meets, inferred_in, function_meets, arrow_meets, sides_in, names_of_both, bound_in, bound_behind}
use Rattle.cic_kernel.proofs.inference.+inference.Goals as goal

pub infer-returns-then-not-enter-clause-answer : goal.infer-returns-then-not-enter-clause-answer
infer-returns-then-not-enter-clause-answer t c =
    no_calls c.args.env.now c.args.ctx.now c.args.t.now c.args.fuel.now _ (grind arith) (grind arith)

pub infer-returns-clause-answer : goal.infer-returns-clause-answer
infer-returns-clause-answer t c =
    let yes : c.enter.result ≡ true = grind arith in
    begun_meets c.args.env.now c.args.ctx.now c.args.fuel.now c.enter.new.self c.infer_begun-found.new.fuel c.leave.new.self c.infer_begun-found.result
    c.args.t.now (c.enter.ensures.nesting ∙ ap (λ b. nested b c.args.fuel.now) yes) (grind arith) (ap left c.leave.ensures) c.infer_begun-found.ensures.answer

pub infer-returns-clause-judged : goal.infer-returns-clause-judged
infer-returns-clause-judged t c =
    inferred_in c.args.env.now c.len-globals.ensures.environment (calls_left c.args.fuel.now) c.args.ctx.now c.requires.judged.scoped _ (left c.args.fuel.now)
    c.infer_begun-found.result c.args.t.now (infer-returns-clause-answer t c)

pub infer_product-with_plain-requires : goal.infer_product-with_plain-requires
infer_product-with_plain-requires t c =
    scoped_free (length c.args.ctx.now) (length c.args.env.now) c.args.domain.now c.in_ok-first.ensures.judged.term

pub infer_function-with_plain-requires : goal.infer_function-with_plain-requires
infer_function-with_plain-requires t c =
    scoped_free (length c.args.ctx.now) (length c.args.env.now) c.args.domain.now c.in_ok-first.ensures.judged.term

pub infer_function-returns-clause-answer : goal.infer_function-returns-clause-answer
infer_function-returns-clause-answer t c =
    function_meets c.args.env.now c.args.ctx.now c.in_ok-inner.inner c.args.name.now c.args.domain.now c.args.body.now c.in_ok-first.first c.in_ok-sort.sort
    c.in_ok-found.found c.in_ok-ty.ty c.in_ok-under.under c.in_ok-used.used c.args.fuel.now c.sort_of.new.fuel c.infer.new.fuel c.sort_of-2.new.fuel
    c.in_ok-first.ensures.answer c.in_ok-first.ensures.kept c.in_ok-inner.ensures c.in_ok-found.ensures.answer c.in_ok-found.ensures.kept c.in_ok-sort.ensures.answer
    (rw (c.in_ok-name.ensures, c.in_ok-domain.ensures) at c.in_ok-ty.ensures) c.in_ok-under.ensures.all c.in_ok-used.ensures.all

pub infer_product-sort-requires : goal.infer_product-sort-requires
infer_product-sort-requires t c =
    rw c.product_sort.ensures (product_level c.in_ok-first.first.sort c.in_ok-second.second.sort c.in_ok-first.ensures.level c.in_ok-second.ensures.level)

pub as_arrow-returns : goal.as_arrow-returns
as_arrow-returns t c =
    let is = ap tree_of (sym c.in-Prod-node.is) ∙ c.node-2.ensures.top in
    let domain = c.in_ok-domain-2.ensures in
    let codomain = c.in_ok-codomain-2.ensures in
    let used = c.in_ok-used.ensures.all in
    record {
      answer = rw (domain, codomain) (arrow_meets c.args.env.now c.args.ctx.now c.args.ty.now c.in_ok-reduced.reduced c.node.result.now c.in-Prod-node.name
          c.in-Prod-node.domain c.in-Prod-node.codomain c.in_ok-sort.sort c.args.used c.in_ok-used.used c.args.fuel.now c.whnf.new.fuel c.sort_of.new.fuel
          c.node.ensures.top c.in_default.not-Prod c.in_ok-reduced.ensures.answer c.in_ok-reduced.ensures.kept is c.in_ok-sort.ensures.answer used);
      sides = rw (domain, codomain) (sides_in c.args.env.now c.args.ctx.now c.in-Prod-node.name c.in-Prod-node.domain c.in-Prod-node.codomain c.in_ok-reduced.reduced
          c.in_ok-used.used is c.in_ok-reduced.ensures.scoped
          (names_of_both (length c.args.env.now) c.args.used c.in_ok-sort.sort.used c.in_ok-used.used used c.requires.names c.in_ok-sort.ensures.judged.names));
      kept = spent_more c.args.fuel.now c.whnf.new.fuel c.sort_of.new.fuel c.in_ok-reduced.ensures.kept c.in_ok-sort.ensures.kept;
    }

pub check-returns-clause-judged : goal.check-returns-clause-judged
check-returns-clause-judged t c =
    rw c.in_ok-used.ensures.all
    (judged_may_enter.first (length c.args.ctx.now) (length c.args.env.now) c.args.t.now c.in_ok-found.found.used c.in_ok-sort.sort.used
    c.in_ok-found.ensures.judged.judged c.in_ok-sort.ensures.judged.names)

pub infer_application-put_in-requires-clause-ty : goal.infer_application-put_in-requires-clause-ty
infer_application-put_in-requires-clause-ty t c =
    bound_behind (length c.args.ctx.now) (length c.args.env.now) _ c.len-count.ensures.context.short c.in_ok-arrow.ensures.sides.codomain

pub infer_application-put_in-requires-clause-value : goal.infer_application-put_in-requires-clause-value
infer_application-put_in-requires-clause-value t c =
    bound_in (length c.args.ctx.now) (length c.args.env.now) _ c.len-count.ensures.context.short c.in_ok-checked.ensures.judged.term

pub infer_let-put_in-requires-clause-ty : goal.infer_let-put_in-requires-clause-ty
infer_let-put_in-requires-clause-ty t c =
    let bound = bound_in (length c.in_ok-inner.inner) (length c.args.env.now) c.in_ok-found.found.ty c.len-inner_count.ensures.context.short c.in_ok-found.ensures.judged.ty in
    omega (arith, bound)

pub infer_let-with_definition-requires-clause-ty : goal.infer_let-with_definition-requires-clause-ty
infer_let-with_definition-requires-clause-ty t c =
    scoped_free (length c.args.ctx.now) (length c.args.env.now) c.args.ty.now c.in_ok-sort.ensures.judged.term

pub infer_let-with_definition-requires-clause-value : goal.infer_let-with_definition-requires-clause-value
infer_let-with_definition-requires-clause-value t c =
    scoped_free (length c.args.ctx.now) (length c.args.env.now) c.args.value.now c.in_ok-checked.ensures.judged.term
