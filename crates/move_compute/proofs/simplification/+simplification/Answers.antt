use Rattle.std.proofs.Common.{◌≡◌, ◌≤◌, ◌<◌, ◌∙◌, refl, sym, ap, subst, arith, true}
use Rattle.core_term.specs.Answers.{within_limits, Gives}
use Rattle.core_term.specs.Nodes.{tree_of}
use Rattle.core_term.specs.Tree.{Prod, Lam, LetIn, App}
use Rattle.cic_rules.specs.Fuel.{left, calls_left, nested}
use Rattle.cic_rules.specs.Judges.{Meets}
use Rattle.move_compute.specs.Calls.{parts_with}
use Rattle.move_compute.proofs.PartLaws as law
use Rattle.move_compute.proofs.simplification.+simplification.Goals as goal

pub simpl-returns-then-not-enter-clause-answer : goal.simpl-returns-then-not-enter-clause-answer
simpl-returns-then-not-enter-clause-answer t c =
    let full : 2000 ≤ c.args.fuel.now.nesting = grind arith in
    law.no_calls c.args.env.now (left c.enter.new.self) c.args.t.now (left c.args.fuel.now) (calls_left c.args.fuel.now) (omega (arith, full)) (grind arith)

pub simpl-returns-clause-answer : goal.simpl-returns-clause-answer
simpl-returns-clause-answer t c =
    let room : c.args.fuel.now.nesting < 2000 = grind arith in
    let yes : c.enter.result ≡ true = grind arith in
    law.entered_meets c.args.env.now c.args.fuel.now c.enter.new.self c.charged-simplified.new.fuel c.leave.new.self c.charged-simplified.result
    c.args.t.now (c.enter.ensures.nesting ∙ ap (λ b. nested b c.args.fuel.now) yes) room (ap left c.leave.ensures) c.charged-simplified.ensures.answer

pub by_parts-returns-in-Ok-clause-answer : goal.by_parts-returns-in-Ok-clause-answer
by_parts-returns-in-Ok-clause-answer t c =
    let is : c.args.t.now ≡ Prod c.in-Prod.name c.in-Prod.domain c.in-Prod.codomain = sym c.node.ensures.top ∙ ap tree_of c.in-Prod.is in
    subst (λ u. Meets c.rebuilt.result (left c.two_parts.new.fuel) (parts_with c.args.env.now u c.args.fuel.now)) (sym is)
    (law.two_built c.args.env.now c.args.fuel.now (Prod c.in-Prod.name) (calls_left c.args.fuel.now) c.in-Prod.domain c.in-Prod.codomain c.in-Ok.parts (left c.two_parts.new.fuel)
    c.rebuilt.result refl c.in-Ok.ensures.answer
    (c.rebuilt.ensures (Prod c.in-Prod.name c.in-Ok.parts.first c.in-Ok.parts.last) (left c.two_parts.new.fuel)
    (subst (λ n. Gives c.prod.result (within_limits (Prod n c.in-Ok.parts.first c.in-Ok.parts.last))) c.in_ok-name-in-Prod.ensures c.prod.ensures)))

pub by_parts-returns-in-Ok-two_parts-clause-answer : goal.by_parts-returns-in-Ok-two_parts-clause-answer
by_parts-returns-in-Ok-two_parts-clause-answer t c =
    let is : c.args.t.now ≡ Lam c.in-Lam.name c.in-Lam.domain c.in-Lam.body = sym c.node.ensures.top ∙ ap tree_of c.in-Lam.is in
    subst (λ u. Meets c.rebuilt-in-Ok-two_parts.result (left c.two_parts-in-Lam.new.fuel) (parts_with c.args.env.now u c.args.fuel.now)) (sym is)
    (law.two_built c.args.env.now c.args.fuel.now (Lam c.in-Lam.name) (calls_left c.args.fuel.now) c.in-Lam.domain c.in-Lam.body c.in-Ok-two_parts.parts (left c.two_parts-in-Lam.new.fuel)
    c.rebuilt-in-Ok-two_parts.result refl c.in-Ok-two_parts.ensures.answer
    (c.rebuilt-in-Ok-two_parts.ensures (Lam c.in-Lam.name c.in-Ok-two_parts.parts.first c.in-Ok-two_parts.parts.last) (left c.two_parts-in-Lam.new.fuel)
    (subst (λ n. Gives c.lam.result (within_limits (Lam n c.in-Ok-two_parts.parts.first c.in-Ok-two_parts.parts.last))) c.in_ok-name-in-Lam.ensures c.lam.ensures)))

pub by_parts-returns-in-Ok-two_parts-2-clause-answer : goal.by_parts-returns-in-Ok-two_parts-2-clause-answer
by_parts-returns-in-Ok-two_parts-2-clause-answer t c =
    let is : c.args.t.now ≡ LetIn c.in-LetIn.name c.in-LetIn.ty c.in-LetIn.value c.in-LetIn.body = sym c.node.ensures.top ∙ ap tree_of c.in-LetIn.is in
    subst (λ u. Meets c.rebuilt-in-Ok-two_parts-2.result (left c.two_parts-in-Ok-simpl.new.fuel) (parts_with c.args.env.now u c.args.fuel.now)) (sym is)
    (law.let_built c.args.env.now c.args.fuel.now c.simpl.new.fuel c.in-LetIn.name c.in-LetIn.ty c.in-LetIn.value c.in-LetIn.body c.in-Ok-simpl.ty c.in-Ok-two_parts-2.parts
    (left c.two_parts-in-Ok-simpl.new.fuel) c.rebuilt-in-Ok-two_parts-2.result c.simpl.ensures.kept c.in-Ok-simpl.ensures.answer c.in-Ok-two_parts-2.ensures.answer
    (c.rebuilt-in-Ok-two_parts-2.ensures (LetIn c.in-LetIn.name c.in-Ok-simpl.ty c.in-Ok-two_parts-2.parts.first c.in-Ok-two_parts-2.parts.last) (left c.two_parts-in-Ok-simpl.new.fuel)
    (subst (λ n. Gives c.let_in.result (within_limits (LetIn n c.in-Ok-simpl.ty c.in-Ok-two_parts-2.parts.first c.in-Ok-two_parts-2.parts.last))) c.in_ok-name-in-LetIn.ensures c.let_in.ensures)))

pub by_parts-returns-in-Ok-two_parts-3-clause-answer : goal.by_parts-returns-in-Ok-two_parts-3-clause-answer
by_parts-returns-in-Ok-two_parts-3-clause-answer t c =
    let is : c.args.t.now ≡ App c.in-App.function c.in-App.argument = sym c.node.ensures.top ∙ ap tree_of c.in-App.is in
    subst (λ u. Meets c.rebuilt-in-Ok-two_parts-3.result (left c.two_parts-in-App.new.fuel) (parts_with c.args.env.now u c.args.fuel.now)) (sym is)
    (law.two_built c.args.env.now c.args.fuel.now App (calls_left c.args.fuel.now) c.in-App.function c.in-App.argument c.in-Ok-two_parts-3.parts (left c.two_parts-in-App.new.fuel)
    c.rebuilt-in-Ok-two_parts-3.result refl c.in-Ok-two_parts-3.ensures.answer
    (c.rebuilt-in-Ok-two_parts-3.ensures (App c.in-Ok-two_parts-3.parts.first c.in-Ok-two_parts-3.parts.last) (left c.two_parts-in-App.new.fuel)
    c.app.ensures))
