use Rattle.std.proofs.Common.{◌≡◌, ◌∷◌, ◌∙◌, sym, subst, arith, true}
use Rattle.std.specs.Prelude.{IfOk}
use Rattle.inductive_check.proofs.FormLaws.{params_next}
use Rattle.inductive_check.proofs.forms.+begin_with_params.Goals as goal

pub returns-else-not-is_variable : goal.returns-else-not-is_variable
returns-else-not-is_variable t c =
    let split : c.args.args.now ≡ c.in-Some.first ∷ c.in-Some.rest = rw c.in-Some.is at c.in_ok-split.ensures in
    let yes_is : c.is_variable.result ≡ true = grind (arith, c.if-not-is_variable.false) in
    subst (λ x. IfOk c.begin_with_params.result (λ b. b ≡ x))
    (sym (params_next c.args.count c.args.binders c.args.args.now c.in-Some.rest c.in-Some.first (grind arith) split (sym c.is_variable.ensures ∙ yes_is)))
    c.begin_with_params.ensures
