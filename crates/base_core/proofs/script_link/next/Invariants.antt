use Rattle.std.proofs.Common.{◌≡◌}
use Rattle.base_core.specs.Items.{next_of, left_from}
use Rattle.base_core.proofs.script_link.next.Given as goal

abbrev pub invariant-loop-at : goal.invariant-loop-at
invariant-loop-at l = next_of (left_from l.items l.fn.place.at l.fn.place.used) l.wait l.room ≡ next_of (left_from l.items l.at l.used) l.wait l.room
