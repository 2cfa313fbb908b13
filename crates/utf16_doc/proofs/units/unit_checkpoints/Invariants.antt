use Rattle.std.proofs.Common.{◌≡◌, ℕ, ◌*◌, ◌<◌, ◌≤◌, length, get_or}
use Rattle.utf16_doc.specs.Units.{units_before}
use Rattle.utf16_doc.proofs.units.unit_checkpoints.Given as goal

abbrev pub invariant-loop-k : goal.invariant-loop-k
invariant-loop-k l = record {
  count : length l.checkpoints.items ≡ l.k;
  units : (j : ℕ) → j < length l.checkpoints.items → get_or l.checkpoints.items j 0 ≡ units_before l.encoding l.text (j * 256);
  now : l.units ≡ units_before l.encoding l.text (l.k * 256);
  small : l.units ≤ 4 * (l.k * 256);
}
