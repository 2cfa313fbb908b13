use Rattle.std.proofs.Common.{◌≡◌, ◌++◌, drop}
use Rattle.cic_rules.specs.Inductive.{ctor_names}
use Rattle.inductive_check.proofs.names.add_ctors.Given as goal

abbrev pub invariant-loop-ctor : goal.invariant-loop-ctor
invariant-loop-ctor l = l.names.items ++ ctor_names (drop l.ctor-index l.ctors) ≡ l.initial.names.items ++ ctor_names l.ctors
