use Rattle.std.proofs.Common.{refl, sym}
use Rattle.proof_state.proofs.Closes.{part_solved, solved_next}
use Rattle.proof_state.proofs.parts.are_solved.Goals as goal

pub returns-then-not-is_solved : goal.returns-then-not-is_solved
returns-then-not-is_solved c = (
  λ yes. cc,
  λ solved. c.if-not-is_solved.ensures.1 (part_solved c.args.parts.now c.loop-n.n c.in-Some.part.now solved (sym c.in-Some.ensures)),
)

pub loop-n-preserved : goal.loop-n-preserved
loop-n-preserved c =
    solved_next c.args.parts.now c.loop-n.n c.in-Some.part.now (sym c.in-Some.ensures) (c.if-not-is_solved.ensures.0 refl) c.loop-n.invariant
