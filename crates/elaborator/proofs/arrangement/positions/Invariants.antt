use Rattle.std.proofs.Common.{◌≡◌, ◌++◌, drop}
use Rattle.coq_syntax.specs.Nodes.{arguments_of}
use Rattle.elaborator.specs.Arrangement.{positions}
use Rattle.elaborator.proofs.arrangement.positions.Given as goal

abbrev pub invariant-loop-k : goal.invariant-loop-k
invariant-loop-k l = l.ks ++ positions l.k (arguments_of (drop l.k l.arguments)) ≡ positions 0 (arguments_of l.arguments)
