use Rattle.std.proofs.Common.{◌≡◌, ◌≤◌, drop, length}
use Rattle.axiom_lists.specs.Lists.{brought}
use Rattle.axiom_lists.proofs.lists.brought_by_all.Given as goal

abbrev pub invariant-loop-at : goal.invariant-loop-at
invariant-loop-at l = (l.list ≡ brought l.env l.lists (drop l.at l.used)) × (l.at ≤ length l.used)

abbrev pub decreases-loop-at : goal.decreases-loop-at
decreases-loop-at l = l.at
