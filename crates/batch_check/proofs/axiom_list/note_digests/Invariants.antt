use Rattle.std.proofs.Common.{◌≡◌, fold, drop}
use Rattle.batch_check.specs.Observers.{with_axioms}
use Rattle.batch_check.proofs.axiom_list.note_digests.Given as goal

abbrev pub invariant-loop-digest : goal.invariant-loop-digest
invariant-loop-digest l = fold with_axioms l.seen.keys (drop l.digest-index l.digests) ≡ fold with_axioms l.initial.seen.keys l.digests
