use Rattle.std.proofs.Common.{◌≡◌, drop}
use Rattle.elaborator.specs.Parts.{applied}
use Rattle.elaborator.proofs.spine.apply_all.Given as goal

abbrev pub invariant-loop-argument : goal.invariant-loop-argument
invariant-loop-argument l = applied l.f (drop l.argument-index l.arguments) ≡ applied l.fn.f l.arguments
