use Rattle.std.proofs.Common.{◌≡◌, drop}
use Rattle.move_elim.specs.Subjects.{named_from}
use Rattle.move_elim.proofs.subjects.variable_named.Given as goal

abbrev pub invariant-loop-i : goal.invariant-loop-i
invariant-loop-i l = named_from l.i (drop l.i l.ctx) l.name ≡ named_from 0 l.ctx l.name
