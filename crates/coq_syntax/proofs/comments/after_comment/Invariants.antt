use Rattle.std.proofs.Common.{◌≡◌, ◌+◌, ◌≤◌, Some, drop}
use Rattle.sentence_split.specs.Scan.{scan, comment_end}
use Rattle.coq_syntax.specs.Scan.{as_scanned}
use Rattle.coq_syntax.proofs.comments.after_comment.Given as goal

abbrev pub invariant-loop-i : goal.invariant-loop-i
invariant-loop-i l = record { few : l.state.depth ≤ l.i + 1; scan : scan Some (as_scanned l.state.mode) l.state.depth (drop l.i l.text) ≡ comment_end l.text }
