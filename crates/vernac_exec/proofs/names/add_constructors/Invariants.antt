use Rattle.std.proofs.Common.{◌≡◌, ◌++◌, drop}
use Rattle.vernac_exec.specs.Calls.{constructor_names}
use Rattle.vernac_exec.proofs.names.add_constructors.Given as goal

abbrev pub invariant-loop-constructor : goal.invariant-loop-constructor
invariant-loop-constructor l =
    l.names.items ++ constructor_names (drop l.constructor-index l.constructors) ≡ l.initial.names.items ++ constructor_names l.constructors
