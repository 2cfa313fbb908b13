use Rattle.std.proofs.Common.{arith}
use Rattle.core_term.proofs.FreeVariables.{numbered-lifted}
use Rattle.kernel_tests.proofs.terms.lifted.Goals as goal

pub lift-requires : goal.lift-requires
lift-requires g c = numbered-lifted c.args.t.now c.args.by c.args.from 1000 (grind arith) (grind arith)
