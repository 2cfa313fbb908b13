use Rattle.std.proofs.Common.{◌≡◌, ◌++◌, drop}
use Rattle.term_print.specs.Show.{hyp_names}
use Rattle.term_print.proofs.print.names_of_hypotheses.Given as goal

abbrev pub invariant-loop-i : goal.invariant-loop-i
invariant-loop-i l = l.scope ++ hyp_names (drop l.i l.ctx) ≡ hyp_names l.ctx
