use Rattle.std.proofs.Common.{◌≡◌, drop}
use Rattle.proof_state.specs.Steps.{abstracted}
use Rattle.proof_state.proofs.closing.abstracted.Given as goal

abbrev pub invariant-loop-i : goal.invariant-loop-i
invariant-loop-i l = abstracted (drop l.i l.hyps) l.term ≡ abstracted l.hyps l.initial.term
