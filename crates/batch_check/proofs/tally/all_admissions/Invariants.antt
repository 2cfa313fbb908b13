use Rattle.std.proofs.Common.{◌≡◌, ◌+◌, ◌*◌, ◌^◌, ◌≤◌, fold, drop}
use Rattle.batch_check.specs.Observers.{all_admissions}
use Rattle.batch_check.proofs.tally.all_admissions.Given as goal

abbrev pub invariant-loop-digest : goal.invariant-loop-digest
invariant-loop-digest l = (fold (λ sum digest. sum + digest.admissions) l.sum (drop l.digest-index l.digests) ≡ all_admissions l.digests) × (l.sum ≤ l.digest-index * 2 ^ 64)
