use Rattle.std.proofs.Common.{arith, sym}
use Rattle.core_term.proofs.Sizes.{occurrences-above}
use Rattle.core_term.proofs.terms.Term.+occurrences.Goals as goal

pub returns-then-free_bound-at-clause-counted : goal.returns-then-free_bound-at-clause-counted
returns-then-free_bound-at-clause-counted t c = sym (occurrences-above c.args.self.now c.args.at (omega arith))
