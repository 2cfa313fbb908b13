use Rattle.std.proofs.Common.{◌≡◌, ◌-◌, ◌++◌}
use Rattle.cic_rules.specs.Eliminators.{digits, first_free}
use Rattle.fresh_names.proofs.naming.first_free.Given as goal

abbrev pub invariant-loop-k : goal.invariant-loop-k
invariant-loop-k l =
    (l.free ≡ l.stem ++ digits l.k) × (first_free l.count l.names l.stem 0 ≡ first_free (l.count - l.k) l.names l.stem l.k)
