use Rattle.std.proofs.Common.{arith}
use Rattle.std.proofs.lemmas.Bool.Decides.{nat_tests}
use Rattle.core_term.proofs.Bounds.{bounded-above, bounded-zero}
use Rattle.core_term.proofs.terms.Term.+lift_from.Goals as goal

pub returns-then-free_bound-from : goal.returns-then-free_bound-from
returns-then-free_bound-from t c =
    let s = c.args.self.now in
    grind (arith, nat_tests, bounded-above s c.args.by c.args.from, bounded-zero s c.args.by c.args.from)
