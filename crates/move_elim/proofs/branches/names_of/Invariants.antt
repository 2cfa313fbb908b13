use Rattle.std.proofs.Common.{◌≡◌, ◌++◌, drop}
use Rattle.move_elim.specs.Branches.{names_given}
use Rattle.move_elim.proofs.branches.names_of.Given as goal

abbrev pub invariant-loop-name : goal.invariant-loop-name
invariant-loop-name l = l.given ++ names_given (drop l.name-index l.names) ≡ names_given l.names
