use Rattle.std.proofs.Common.{[], ◌∷◌, ◌++◌, sym, ◌∙◌, ap}
use Rattle.doc_check.specs.Check.{left_open}
use Rattle.doc_check.proofs.sentences.add_left_open.Goals as goal

pub returns-in_ok-push-clause-diags : goal.returns-in_ok-push-clause-diags
returns-in_ok-push-clause-diags c =
    c.in_ok-push.ensures
    ∙ ap (λ d. c.args.diags.now ++ d ∷ []) c.in_ok-diag.ensures
    ∙ ap (λ o. c.args.diags.now ++ left_open o c.args.spans.now) (sym c.in-Some.is)
