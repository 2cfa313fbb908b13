use Rattle.std.proofs.Common.{length, ◌-◌}
use Rattle.coq_syntax.proofs.Passing.{Partly}
use Rattle.coq_syntax.proofs.tokenizing.pieces_tokens.Given as goal

abbrev pub invariant-loop-at : goal.invariant-loop-at
invariant-loop-at l = Partly l.body l.at l.from l.items.items

abbrev pub decreases-loop-at : goal.decreases-loop-at
decreases-loop-at l = length l.body - l.at
