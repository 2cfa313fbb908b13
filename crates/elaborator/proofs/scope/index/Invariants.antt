use Rattle.std.proofs.Common.{◌-◌, drop}
use Rattle.elaborator.specs.Index.{IsIndex}
use Rattle.elaborator.proofs.scope.index.Given as goal

abbrev pub invariant-loop-before : goal.invariant-loop-before
invariant-loop-before l = IsIndex l.places (drop (l.count - l.before) l.ctx)
