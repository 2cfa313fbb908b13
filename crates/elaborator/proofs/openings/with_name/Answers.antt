use Rattle.std.proofs.Common.{rules}
use Rattle.elaborator.proofs.OpeningLaws.{lifted_in}
use Rattle.elaborator.proofs.openings.with_name.Goals as goal

pub with-requires : goal.with-requires
with-requires c =
    lifted_in c.args.outer c.args.inner.now c.in_ok-bound_name.field-0 c.args.ty.now c.in_ok-lifted.field-0 c.requires.fits c.requires.inner (search rules)
