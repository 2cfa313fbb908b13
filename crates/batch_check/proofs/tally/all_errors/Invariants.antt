use Rattle.std.proofs.Common.{◌≡◌, ◌+◌, ◌*◌, ◌^◌, ◌≤◌, fold, drop}
use Rattle.batch_check.specs.Observers.{all_errors}
use Rattle.batch_check.proofs.tally.all_errors.Given as goal

abbrev pub invariant-loop-digest : goal.invariant-loop-digest
invariant-loop-digest l = (fold (λ sum digest. sum + digest.errors) l.sum (drop l.digest-index l.digests) ≡ all_errors l.digests) × (l.sum ≤ l.digest-index * 2 ^ 64)
