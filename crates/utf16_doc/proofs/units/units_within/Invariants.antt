use Rattle.std.proofs.Common.{◌≡◌, ◌+◌, ◌-◌, ◌*◌, ◌≤◌}
use Rattle.utf16_doc.specs.Units.{units_before}
use Rattle.utf16_doc.proofs.units.units_within.Given as goal

abbrev pub invariant-loop-i : goal.invariant-loop-i
invariant-loop-i l = record { sum : l.units + units_before l.encoding l.text l.from ≡ units_before l.encoding l.text l.i; small : l.units ≤ 4 * (l.i - l.from) }
