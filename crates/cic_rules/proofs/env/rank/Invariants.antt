use Rattle.std.proofs.Common.{◌≤◌, ◌-◌, length}
use Rattle.std.specs.Cmp.Lexicographic.{slice_cmp}
use Rattle.std.specs.Ordering.{nat_cmp}
use Rattle.shared_map.specs.Entries.{IsInOrder}
use Rattle.cic_rules.specs.Names.{rank_of}
use Rattle.cic_rules.proofs.env.rank.Given as goal

abbrev pub invariant-loop-from : goal.invariant-loop-from
invariant-loop-from l = record {
  behind : l.from ≤ rank_of (slice_cmp nat_cmp) l.index l.name;
  before : rank_of (slice_cmp nat_cmp) l.index l.name ≤ l.to;
  within : l.to ≤ length l.index;
  order : IsInOrder (slice_cmp nat_cmp) l.index;
}

abbrev pub decreases-loop-from : goal.decreases-loop-from
decreases-loop-from l = l.to - l.from
