use Rattle.std.proofs.Common.{rules}
use Rattle.elaborator.proofs.OpeningLaws.{plain_fits}
use Rattle.elaborator.proofs.openings.under.Goals as goal

pub with-requires : goal.with-requires
with-requires c = plain_fits c.args.env.now c.args.scope.now c.in_ok-name.name c.in_ok-ty.ty _ (search rules) (search rules)
