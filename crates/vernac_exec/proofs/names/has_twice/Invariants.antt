use Rattle.vernac_exec.proofs.NameLaws.{AreApart}
use Rattle.vernac_exec.proofs.names.has_twice.Given as goal

abbrev pub invariant-loop-at : goal.invariant-loop-at
invariant-loop-at l = AreApart l.behind l.names l.at

abbrev pub decreases-loop-at : goal.decreases-loop-at
decreases-loop-at l = l.at
