use Rattle.std.proofs.Common.{◌≡◌, drop}
use Rattle.vernac_exec.specs.Proofs.{has_unsolved}
use Rattle.vernac_exec.proofs.proving.has_unsolved.Given as goal

abbrev pub invariant-loop-n : goal.invariant-loop-n
invariant-loop-n l = has_unsolved (drop l.n l.proof.goals) ≡ has_unsolved l.proof.goals
