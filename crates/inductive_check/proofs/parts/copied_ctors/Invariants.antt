use Rattle.std.proofs.Common.{◌≡◌, ◌++◌, drop}
use Rattle.inductive_check.proofs.parts.copied_ctors.Given as goal

abbrev pub invariant-loop-ctor : goal.invariant-loop-ctor
invariant-loop-ctor l = l.list ++ drop l.ctor-index l.ctors ≡ l.ctors
