use Rattle.std.proofs.Common.{◌≡◌, ◌≤◌, drop}
use Rattle.sentence_split.specs.Scan.{scan, at_period, sentence_end}
use Rattle.sentence_split.proofs.scan.after_period.Given as goal

abbrev pub invariant-loop-i : goal.invariant-loop-i
invariant-loop-i l = record { few : l.state.depth ≤ l.i; scan : scan at_period l.state.mode l.state.depth (drop l.i l.text) ≡ sentence_end l.text }
