use Rattle.std.proofs.Common.{◌≡◌, ◌∙◌, sym, ap, subst, arith, true}
use Rattle.std.specs.Prelude.{IfOk}
use Rattle.core_term.specs.Tree.{Prod}
use Rattle.core_term.specs.Nodes.{tree_of}
use Rattle.inductive_check.specs.Forms.{is_positive_at}
use Rattle.inductive_check.proofs.FormLaws.{positive_step}
use Rattle.inductive_check.proofs.forms.+is_positive.Goals as goal

pub returns-else-not-branch : goal.returns-else-not-branch
returns-else-not-branch t c =
    let prod : c.args.t.now ≡ Prod c.in-Prod.name c.in-Prod.domain c.in-Prod.codomain = sym c.node.ensures.top ∙ ap tree_of c.in-Prod.is in
    let good : c.in_ok-is_positive_argument-in-Prod.field-0 ≡ true = grind (arith, c.if-not-branch.false) in
    subst (λ x. IfOk c.is_positive.result (λ b. b ≡ x))
    (sym (ap (is_positive_at c.args.form c.args.binders) prod
    ∙ positive_step c.args.form c.args.binders c.in-Prod.name c.in-Prod.domain c.in-Prod.codomain (sym c.in_ok-is_positive_argument-in-Prod.ensures ∙ good)))
    c.is_positive.ensures
