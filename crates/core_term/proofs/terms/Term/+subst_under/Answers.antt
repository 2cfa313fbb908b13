use Rattle.std.proofs.Common.{arith}
use Rattle.std.proofs.lemmas.Bool.Decides.{nat_tests}
use Rattle.core_term.specs.Places.{lift_of}
use Rattle.core_term.proofs.Substitutions.{bounded-substituted_above, lifted_binder}
use Rattle.core_term.proofs.terms.Term.+subst_under.Goals as goal

pub returns-then-free_bound-at : goal.returns-then-free_bound-at
returns-then-free_bound-at t c =
    let s = c.args.self.now in
    grind (arith, bounded-substituted_above s (lift_of c.args.value.now c.args.binders 0) c.args.at)

pub returns-in_err-subst_under-in-LetIn-3 : goal.returns-in_err-subst_under-in-LetIn-3
returns-in_err-subst_under-in-LetIn-3 t c = grind (arith, nat_tests, lifted_binder c.args.value.now c.args.binders)

pub returns : goal.returns
returns t c = grind (arith, nat_tests, lifted_binder c.args.value.now c.args.binders)
