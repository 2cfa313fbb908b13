use Rattle.std.proofs.Common.{◌≡◌, ◌≤◌, ◌+◌, ◌-◌, ◌++◌, length, drop}
use Rattle.cic_rules.specs.Infer.{union}
use Rattle.cic_rules.proofs.unions.union.Given as goal

abbrev pub invariant-loop-i : goal.invariant-loop-i
invariant-loop-i l = record {
  same : l.all.items ++ union (drop l.i l.us) (drop l.j l.vs) ≡ union l.us l.vs;
  first : l.i ≤ length l.us;
  second : l.j ≤ length l.vs;
}

abbrev pub decreases-loop-i : goal.decreases-loop-i
decreases-loop-i l = (length l.us - l.i) + (length l.vs - l.j)
