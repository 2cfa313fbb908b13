use Rattle.std.proofs.Common.{◌≡◌}
use Rattle.matching.specs.Patterns.{unset_values}
use Rattle.matching.proofs.values.Values.unset.Given as goal

abbrev pub invariant-loop : goal.invariant-loop
invariant-loop l = l.items.items ≡ unset_values l.counter
