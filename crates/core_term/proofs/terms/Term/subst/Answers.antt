use Rattle.std.proofs.Common.{arith}
use Rattle.std.proofs.lemmas.Bool.Decides.{nat_tests}
use Rattle.core_term.proofs.Lifts.{lifted-zero}
use Rattle.core_term.proofs.terms.Term.subst.Goals as goal

pub subst_under-requires-clause-numbered : goal.subst_under-requires-clause-numbered
subst_under-requires-clause-numbered c = grind (arith, lifted-zero c.args.value.now 0)

pub returns : goal.returns
returns c = grind (arith, nat_tests, lifted-zero c.args.value.now 0)
