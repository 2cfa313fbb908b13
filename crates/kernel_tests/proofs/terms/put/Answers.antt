use Rattle.std.proofs.Common.{arith}
use Rattle.core_term.proofs.FreeVariables.{numbered-substituted}
use Rattle.kernel_tests.proofs.terms.put.Goals as goal

pub subst-requires : goal.subst-requires
subst-requires g c =
    numbered-substituted c.args.t.now c.args.value.now c.args.at 4000000000 (grind arith) (grind arith) (grind arith) (grind arith)
