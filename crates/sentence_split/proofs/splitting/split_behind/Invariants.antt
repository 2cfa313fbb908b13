use Rattle.std.proofs.Common.{◌≡◌, ◌++◌, ◌-◌, ◌≤◌, drop, length}
use Rattle.sentence_split.specs.Sentences.{sentences}
use Rattle.sentence_split.proofs.splitting.split_behind.Given as goal

abbrev pub invariant-loop-at : goal.invariant-loop-at
invariant-loop-at l = record { within : l.at ≤ length l.text; spans : l.spans ++ sentences l.at 0 (drop l.at l.text) ≡ sentences 0 0 l.text }

abbrev pub decreases-loop-at : goal.decreases-loop-at
decreases-loop-at l = length l.text - l.at
