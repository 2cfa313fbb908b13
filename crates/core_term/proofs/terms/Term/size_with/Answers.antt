use Rattle.std.proofs.Common.{arith}
use Rattle.core_term.proofs.Sizes.{size-substituted}
use Rattle.core_term.proofs.terms.Term.size_with.Goals as goal

pub returns : goal.returns
returns c = grind (arith, size-substituted c.args.self.now c.args.value.now c.args.at)
