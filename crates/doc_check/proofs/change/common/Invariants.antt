use Rattle.doc_check.proofs.Shared.{AreShared}
use Rattle.doc_check.proofs.change.common.Given as goal

abbrev pub invariant-loop-place : goal.invariant-loop-place
invariant-loop-place l = AreShared l.text l.other l.place
