use Rattle.std.proofs.Common.{◌≡◌, ◌-◌, drop}
use Rattle.move_elim.specs.Generalised.{is_mentioned}
use Rattle.move_elim.proofs.generalised.is_mentioned.Given as goal

abbrev pub invariant-loop-at : goal.invariant-loop-at
invariant-loop-at l = is_mentioned (drop l.at l.ctx) (l.i - l.at) ≡ is_mentioned l.ctx l.i
