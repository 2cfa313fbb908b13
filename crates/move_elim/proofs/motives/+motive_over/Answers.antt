use Rattle.std.proofs.Common.{rules}
use Rattle.move_elim.proofs.MotiveLaws.{room_under}
use Rattle.move_elim.proofs.motives.+motive_over.Goals as goal

pub motive_over-requires : goal.motive_over-requires
motive_over-requires t c = (
  search rules,
  room_under c.args.family c.in_ok-family-in-Prod.family c.in-Prod.name c.in-Prod.domain c.in-Prod.codomain c.args.arity.now (search rules) c.requires
      c.in_ok-family-in-Prod.ensures,
)
