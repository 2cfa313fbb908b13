use Rattle.std.proofs.Common.{◌≡◌, ℕ, ◌+◌, ◌<◌, ◌≤◌, None, true, false, drop, length, get_or}
use Rattle.sentence_split.specs.Scan.{comment_end}
use Rattle.coq_syntax.specs.Scan.{rooms_of}
use Rattle.coq_syntax.proofs.rooms.closing_marks.Given as goal

abbrev pub invariant-loop-i : goal.invariant-loop-i
invariant-loop-i l = record {
  within : l.i ≤ length l.text;
  rooms : l.rooms ≡ rooms_of (drop l.i l.text);
  count : length l.marks.items ≡ length l.text;
  none : (k : ℕ) → l.i ≤ k → k < length l.text → get_or l.marks.items k true ≡ false → comment_end (drop (k + 1) l.text) ≡ None;
}

abbrev pub decreases-loop-i : goal.decreases-loop-i
decreases-loop-i l = l.i
