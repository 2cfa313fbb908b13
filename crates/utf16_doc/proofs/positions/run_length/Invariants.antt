use Rattle.std.proofs.Common.{◌≡◌, ◌+◌, drop}
use Rattle.utf16_doc.specs.Lines.{content}
use Rattle.utf16_doc.specs.Positions.{run_length}
use Rattle.utf16_doc.proofs.positions.run_length.Given as goal

abbrev pub invariant-loop-i : goal.invariant-loop-i
invariant-loop-i l = l.i + run_length l.encoding l.left (content (drop l.i l.text)) ≡ run_length l.encoding l.most (content l.text)
