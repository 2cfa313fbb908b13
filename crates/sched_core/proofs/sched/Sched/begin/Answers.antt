use Rattle.std.proofs.Common.{ap, ◌∙◌}
use Rattle.sched_core.proofs.sched.Sched.begin.Goals as goal

pub begun-requires-clause-first : goal.begun-requires-clause-first
begun-requires-clause-first g c = ap g.P.Prover.meaning c.root.ensures ∙ c.self.invariant.fits.root
