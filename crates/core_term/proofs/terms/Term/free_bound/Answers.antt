use Rattle.std.proofs.Common.{arith}
use Rattle.core_term.proofs.FreeVariables.{free_bound-numbered}
use Rattle.core_term.proofs.terms.Term.free_bound.Goals as goal

pub returns-clause-last : goal.returns-clause-last
returns-clause-last c = grind (arith, free_bound-numbered c.args.self.now)
