use Rattle.std.specs.Prelude.{length}
use Rattle.move_rewrite.proofs.Sides.{ends_in}
use Rattle.move_rewrite.proofs.rewriting.rewrite.Goals as goal

pub by_equation-requires-clause-equation : goal.by_equation-requires-clause-equation
by_equation-requires-clause-equation g c =
    ends_in c.args.env.now (length c.args.ctx.now) c.count_products-count.result c.in-Ok.inferred.ty c.end_of_products.result.now
    c.in_ok-equation-in-Ok.field-0 c.in-Some.equation c.in-Ok.ensures.scoped c.count_products-count.ensures.counted c.end_of_products.ensures
    c.in_ok-equation-in-Ok.ensures c.in-Some.is
