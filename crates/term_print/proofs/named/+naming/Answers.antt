use Rattle.std.proofs.Common.{rules}
use Rattle.term_print.proofs.NamedLaws.{always, at_sort, at_constant, at_prod, at_lam, at_let, at_app, mark_taken, marks_left}
use Rattle.term_print.proofs.named.+naming.Goals as goal

pub named_in-returns-in_ok-share-in-Sorted-clause-marks : goal.named_in-returns-in_ok-share-in-Sorted-clause-marks
named_in-returns-in_ok-share-in-Sorted-clause-marks t c = at_sort c.in-Sorted.field-0 c.args.t.now c.args.open.now.items (search rules)

pub named_in-returns-in_ok-share-in-Constant-clause-marks : goal.named_in-returns-in_ok-share-in-Constant-clause-marks
named_in-returns-in_ok-share-in-Constant-clause-marks t c = at_constant c.in-Constant.field-0 c.args.t.now c.args.open.now.items (search rules)

pub named_in-returns-in_ok-own-in-Prod-clause-marks : goal.named_in-returns-in_ok-own-in-Prod-clause-marks
named_in-returns-in_ok-own-in-Prod-clause-marks t c =
    always c.prod.result
    (at_prod c.in-Prod.name c.in-Prod.domain c.in-Prod.codomain c.args.t.now c.args.open.now.items c.named_in.new.open.items
    c.named_under.new.open.items (search rules) (search rules) (search rules))

pub named_in-returns-in_ok-own-in-Lam-clause-marks : goal.named_in-returns-in_ok-own-in-Lam-clause-marks
named_in-returns-in_ok-own-in-Lam-clause-marks t c =
    always c.lam.result
    (at_lam c.in-Lam.name c.in-Lam.domain c.in-Lam.body c.args.t.now c.args.open.now.items c.named_in-in-Lam.new.open.items
    c.named_under-in-Lam.new.open.items (search rules) (search rules) (search rules))

pub named_in-returns-in_ok-share-in-LetIn-clause-marks : goal.named_in-returns-in_ok-share-in-LetIn-clause-marks
named_in-returns-in_ok-share-in-LetIn-clause-marks t c =
    always c.let_in.result
    (at_let c.in-LetIn.name c.in-LetIn.ty c.in-LetIn.value c.in-LetIn.body c.args.t.now c.args.open.now.items
    c.named_in-in-LetIn.new.open.items c.named_in-in-LetIn-2.new.open.items c.named_under-in-LetIn.new.open.items
    (search rules) (search rules) (search rules) (search rules))

pub named_in-returns-in_ok-a-in-App-clause-marks : goal.named_in-returns-in_ok-a-in-App-clause-marks
named_in-returns-in_ok-a-in-App-clause-marks t c =
    always c.app.result
    (at_app c.in-App.function c.in-App.argument c.args.t.now c.args.open.now.items c.named_in-in-App.new.open.items
    c.named_in-in-App-2.new.open.items (search rules) (search rules) (search rules))

pub named_under-returns-clause-term : goal.named_under-returns-clause-term
named_under-returns-clause-term t c = (
  search rules,
  mark_taken c.args.body.now c.args.open.now.items c.push.new.self.items c.named_in.new.open.items c.pop.new.self.items c.in-Some.used
      (search rules) (search rules) (search rules),
)

pub named_under-returns-clause-marks : goal.named_under-returns-clause-marks
named_under-returns-clause-marks t c =
    marks_left c.args.body.now c.args.open.now.items c.push.new.self.items c.named_in.new.open.items c.pop.new.self.items c.in-Some.used
    (search rules) (search rules) (search rules)
