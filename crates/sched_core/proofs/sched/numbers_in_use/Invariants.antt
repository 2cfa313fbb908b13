use Rattle.std.proofs.Common.{◌≡◌, ◌++◌, drop}
use Rattle.sched_core.specs.Trim.{numbers_in_use}
use Rattle.sched_core.proofs.sched.numbers_in_use.Given as goal

abbrev pub invariant-loop-document : goal.invariant-loop-document
invariant-loop-document g l = l.numbers.items ++ numbers_in_use (drop l.document-index l.documents) ≡ numbers_in_use l.documents
