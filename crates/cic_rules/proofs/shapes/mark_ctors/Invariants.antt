use Rattle.std.proofs.Common.{◌≡◌, ◌++◌, drop}
use Rattle.cic_rules.specs.Shapes.{recursive_in}
use Rattle.cic_rules.proofs.shapes.mark_ctors.Given as goal

abbrev pub invariant-loop-ctor : goal.invariant-loop-ctor
invariant-loop-ctor l = l.marks ++ recursive_in l.place (drop l.ctor-index l.ctors) ≡ l.initial.marks ++ recursive_in l.place l.ctors
