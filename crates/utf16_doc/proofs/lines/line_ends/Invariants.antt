use Rattle.std.proofs.Common.{◌≡◌, ◌++◌, drop}
use Rattle.utf16_doc.specs.Lines.{line_ends}
use Rattle.utf16_doc.proofs.lines.line_ends.Given as goal

abbrev pub invariant-loop-i : goal.invariant-loop-i
invariant-loop-i l = l.ends.items ++ line_ends l.i (drop l.i l.text) ≡ line_ends 0 l.text
