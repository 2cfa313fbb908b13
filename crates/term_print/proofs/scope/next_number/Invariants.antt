use Rattle.std.proofs.Common.{◌≡◌, ◌-◌}
use Rattle.term_print.specs.Freshness.{first_free}
use Rattle.term_print.specs.Scope.{AreTaken}
use Rattle.term_print.proofs.scope.next_number.Given as goal

abbrev pub invariant-loop-k : goal.invariant-loop-k
invariant-loop-k l =
    (first_free l.scope l.stem 0 l.count ≡ first_free l.scope l.stem l.k (l.count - l.k)) × AreTaken l.scope l.stem l.k
