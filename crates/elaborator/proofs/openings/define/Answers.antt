use Rattle.std.proofs.Common.{rules}
use Rattle.elaborator.proofs.OpeningLaws.{defined_fits}
use Rattle.elaborator.proofs.openings.define.Goals as goal

pub with-requires : goal.with-requires
with-requires c =
    defined_fits c.args.env.now c.args.scope.now c.in_ok-name.name c.in_ok-ty.ty c.in_ok-value.value _ (search rules) (search rules) (search rules)
