use Rattle.std.proofs.Common.{◌≡◌, drop}
use Rattle.coq_syntax.specs.Nodes.{arguments_of}
use Rattle.elaborator.specs.Arrangement.{unseated}
use Rattle.elaborator.proofs.arrangement.unseated.Given as goal

abbrev pub invariant-loop-argument : goal.invariant-loop-argument
invariant-loop-argument l = unseated (arguments_of (drop l.argument-index l.arguments)) ≡ unseated (arguments_of l.arguments)
