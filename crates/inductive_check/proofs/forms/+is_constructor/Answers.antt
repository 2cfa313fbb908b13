use Rattle.std.proofs.Common.{◌≡◌, ◌∙◌, sym, ap, subst}
use Rattle.std.specs.Prelude.{IfOk}
use Rattle.core_term.specs.Tree.{Prod}
use Rattle.core_term.specs.Nodes.{tree_of}
use Rattle.inductive_check.specs.Forms.{is_constructor_at}
use Rattle.inductive_check.proofs.FormLaws.{constructor_under}
use Rattle.inductive_check.proofs.forms.+is_constructor.Goals as goal

pub returns-in-Prod : goal.returns-in-Prod
returns-in-Prod t c =
    let prod : c.args.t.now ≡ Prod c.in-Prod.name c.in-Prod.domain c.in-Prod.codomain = sym c.node.ensures.top ∙ ap tree_of c.in-Prod.is in
    subst (λ x. IfOk c.is_constructor.result (λ b. b ≡ x))
    (sym (ap (is_constructor_at c.args.form c.args.binders) prod ∙ constructor_under c.args.form c.args.binders c.in-Prod.name c.in-Prod.domain c.in-Prod.codomain))
    c.is_constructor.ensures
