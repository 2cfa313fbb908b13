use Rattle.std.proofs.Common.{◌∙◌, ap, Err, subst}
use Rattle.core_term.specs.Tree.{Tree}
use Rattle.core_term.specs.Answers.{within_limits, Gives}
use Rattle.cic_rules.specs.Contexts.{products_over}
use Rattle.inductive_check.specs.Labels.{with_type}
use Rattle.inductive_check.specs.Entries.{behind_params_at}
use Rattle.inductive_check.proofs.PartLaws.{same_term}
use Rattle.inductive_check.proofs.TopLaws.{parts_of_type, behind_stop}
use Rattle.inductive_check.proofs.entries.eliminator_type.Goals as goal

pub returns-in-Ok : goal.returns-in-Ok
returns-in-Ok c =
    let e = with_type c.args.env.now c.args.i.now in
    subst (λ t. Gives c.products_over.result (within_limits t))
    (ap (λ ps. products_over ps c.in-Ok.end) c.as_slice.ensures.items
    ∙ ap (products_over c.args.i.now.decl.params) (same_term c.in-Ok.end (behind_params_at e c.args.i.now c.args.m c.args.sort) c.in-Ok.ensures)
    ∙ parts_of_type e c.args.i.now c.args.m c.args.sort c.requires.motive.level) c.products_over.ensures

pub returns-in-Err : goal.returns-in-Err
returns-in-Err c =
    let e = with_type c.args.env.now c.args.i.now in
    subst (λ t. Gives {A = Tree} (Err c.in-Err.stop) (within_limits t)) (parts_of_type e c.args.i.now c.args.m c.args.sort c.requires.motive.level)
    (behind_stop c.in-Err.stop c.args.i.now.decl.params (behind_params_at e c.args.i.now c.args.m c.args.sort) c.in-Err.ensures)
