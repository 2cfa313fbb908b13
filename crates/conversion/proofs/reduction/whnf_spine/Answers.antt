use Rattle.std.proofs.Common.{◌≡◌, ◌≤◌, ◌<◌, ◌∙◌, ap, arith, true}
use Rattle.term_spine.specs.Spines.{tree_of_spine}
use Rattle.cic_rules.specs.Fuel.{left, calls_left, nested}
use Rattle.conversion.proofs.ReduceLaws.{entered_spine, no_spine_calls, spine_scoped}
use Rattle.conversion.proofs.reduction.whnf_spine.Goals as goal

pub returns-then-not-enter-clause-answer : goal.returns-then-not-enter-clause-answer
returns-then-not-enter-clause-answer c =
    let full : 2000 ≤ c.args.fuel.now.nesting = grind arith in
    no_spine_calls c.args.env.now c.args.delta 0 c.args.ctx.now (left c.enter.new.self) (tree_of_spine c.args.spine) (left c.args.fuel.now) (calls_left c.args.fuel.now) (omega (arith, full)) (grind arith)

pub returns-clause-answer : goal.returns-clause-answer
returns-clause-answer c =
    let room : c.args.fuel.now.nesting < 2000 = grind arith in
    let holds : c.enter.result ≡ true = grind arith in
    entered_spine c.args.env.now c.args.delta c.args.ctx.now c.args.fuel.now c.enter.new.self c.reduce_spine-reduced.new.fuel c.leave.new.self c.reduce_spine-reduced.result
    (tree_of_spine c.args.spine) (c.enter.ensures.nesting ∙ ap (λ b. nested b c.args.fuel.now) holds) room (ap left c.leave.ensures) c.reduce_spine-reduced.ensures.answer

pub returns-clause-scoped : goal.returns-clause-scoped
returns-clause-scoped c =
    let ends = returns-clause-answer c in
    spine_scoped c.args.env.now c.args.delta (calls_left c.args.fuel.now) c.args.ctx.now c.len-globals.ensures.environment c.requires.judged.scoped
    c.reduce_spine-reduced.result (tree_of_spine c.args.spine) (left c.leave.new.self) (left c.args.fuel.now) c.requires.term ends
