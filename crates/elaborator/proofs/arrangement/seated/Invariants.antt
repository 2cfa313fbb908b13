use Rattle.std.proofs.Common.{◌≡◌, drop}
use Rattle.coq_syntax.specs.Nodes.{arguments_of}
use Rattle.elaborator.specs.Arrangement.{seated}
use Rattle.elaborator.proofs.arrangement.seated.Given as goal

abbrev pub invariant-loop-k : goal.invariant-loop-k
invariant-loop-k l = seated l.ty l.seats l.k (arguments_of (drop l.k l.arguments)) ≡ seated l.ty l.fn.seats 0 (arguments_of l.arguments)
