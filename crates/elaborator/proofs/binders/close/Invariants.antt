use Rattle.std.proofs.Common.{◌≡◌, ◌-◌, drop, take}
use Rattle.elaborator.specs.Parts.{closed}
use Rattle.elaborator.proofs.binders.close.Given as goal

abbrev pub invariant-loop-i : goal.invariant-loop-i
invariant-loop-i l = closed l.binding (take (l.count - l.i) (drop l.i l.inner)) l.body ≡ closed l.binding (take l.count l.inner) l.fn.body
