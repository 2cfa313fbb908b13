use Rattle.std.proofs.Common.{take}
use Rattle.proof_state.specs.Closing.{AreSolved}
use Rattle.proof_state.proofs.parts.are_solved.Given as goal

abbrev pub invariant-loop-n : goal.invariant-loop-n
invariant-loop-n l = AreSolved (take l.n l.parts)
