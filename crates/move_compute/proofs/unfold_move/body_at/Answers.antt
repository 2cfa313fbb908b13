use Rattle.std.proofs.Common.{rules}
use Rattle.move_compute.proofs.UnfoldScopes.{closed_if_any}
use Rattle.move_compute.proofs.unfold_move.body_at.Goals as goal

pub returns-in-Some-clause-closed : goal.returns-in-Some-clause-closed
returns-in-Some-clause-closed c = closed_if_any _ c.args.place _ c.get.ensures.environment (search rules)
