use Rattle.std.proofs.Common.{◌≡◌, ◌∙◌, sym, ap, subst, rules}
use Rattle.std.specs.Prelude.{IfOk}
use Rattle.core_term.specs.Tree.{Prod}
use Rattle.core_term.specs.Nodes.{tree_of}
use Rattle.inductive_check.specs.Forms.{is_recursive_at}
use Rattle.inductive_check.proofs.FormLaws.{recursive_step}
use Rattle.inductive_check.proofs.forms.+is_recursive.Goals as goal

pub returns-else-mentions : goal.returns-else-mentions
returns-else-mentions t c =
    let prod : c.args.t.now ≡ Prod c.in-Prod.name c.in-Prod.domain c.in-Prod.codomain = sym c.node.ensures.top ∙ ap tree_of c.in-Prod.is in
    subst (λ x. IfOk c.is_recursive.result (λ b. b ≡ x))
    (sym (ap (is_recursive_at c.args.form c.args.binders) prod
    ∙ recursive_step c.args.form c.args.binders c.in-Prod.name c.in-Prod.domain c.in-Prod.codomain (search rules)))
    c.is_recursive.ensures
