use Rattle.std.proofs.Common.{◌≡◌, drop}
use Rattle.proof_state.specs.Scopes.{HaveGoalsIn}
use Rattle.vernac_exec.specs.Proofs.{all_abandoned}
use Rattle.vernac_exec.proofs.proving.all_abandoned.Given as goal

abbrev pub invariant-loop-n : goal.invariant-loop-n
invariant-loop-n l = (all_abandoned (drop l.n-index l.numbers) l.behind ≡ all_abandoned l.numbers l.proof) × HaveGoalsIn l.env l.behind.goals
