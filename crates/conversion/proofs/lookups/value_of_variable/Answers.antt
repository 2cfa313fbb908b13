use Rattle.std.proofs.Common.{arith, sym, rules}
use Rattle.conversion.proofs.LookupLaws.{older}
use Rattle.conversion.proofs.lookups.value_of_variable.Goals as goal

pub lifted-requires : goal.lifted-requires
lifted-requires c =
    let few = older c.args.ctx.now c.args.i c.in-Some.hyp.now c.in-Some-value.value c.get.ensures.context.hyps (sym c.in-Some.ensures.hyp) (search rules) in
    let short = c.get.ensures.context.short in
    omega (arith, few, short)
