use Rattle.std.proofs.Common.{◌≡◌, drop}
use Rattle.coq_syntax.specs.Nodes.{arguments_of}
use Rattle.elaborator.specs.Arrangement.{has_named}
use Rattle.elaborator.proofs.arrangement.has_named.Given as goal

abbrev pub invariant-loop-argument : goal.invariant-loop-argument
invariant-loop-argument l = has_named (arguments_of (drop l.argument-index l.arguments)) ≡ has_named (arguments_of l.arguments)
