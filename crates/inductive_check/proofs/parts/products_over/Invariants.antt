use Rattle.std.proofs.Common.{◌≡◌, ◌≤◌, length, drop}
use Rattle.cic_rules.specs.Contexts.{products_over}
use Rattle.inductive_check.proofs.parts.products_over.Given as goal

abbrev pub invariant-loop-at : goal.invariant-loop-at
invariant-loop-at l = record {
  within : l.at ≤ length l.params;
  made : l.whole ≡ products_over (drop l.at l.params) l.initial.whole;
}

abbrev pub decreases-loop-at : goal.decreases-loop-at
decreases-loop-at l = l.at
