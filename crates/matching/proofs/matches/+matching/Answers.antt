use Rattle.std.proofs.Common.{◌≡◌, true, sym, ◌∙◌, ap, arith}
use Rattle.cic_rules.specs.Fuel.{left, nested}
use Rattle.std.specs.Prelude.{length}
use Rattle.matching.proofs.MatchCalls.{no_calls, begun_meets, filled_numbered, filled_term, variable_found, hyp_at}
use Rattle.matching.proofs.matches.+matching.Goals as goal

pub match_inside-fill_stopped-requires-clause-numbered : goal.match_inside-fill_stopped-requires-clause-numbered
match_inside-fill_stopped-requires-clause-numbered g t c =
    filled_numbered c.args.env.now c.args.ctx.now c.args.binders c.args.values c.args.pattern.now c.requires.pattern (sym c.has_unset.ensures ∙ c.if-has_unset.false)
    c.len-count.ensures.context c.depth-depth.ensures.term c.len-variables.ensures.shallow

pub match_inside-compare-requires-clause-filled : goal.match_inside-compare-requires-clause-filled
match_inside-compare-requires-clause-filled g t c =
    filled_term c.args.env.now c.args.ctx.now c.args.binders c.args.values c.args.pattern.now c.in-Ok.filled c.requires.pattern (sym c.has_unset.ensures ∙ c.if-has_unset.false) c.in-Ok.ensures

pub match_nodes-returns-in_ok-set_variable-in-Var-clause-found : goal.match_nodes-returns-in_ok-set_variable-in-Var-clause-found
match_nodes-returns-in_ok-set_variable-in-Var-clause-found g t c =
    variable_found c.args.env.now c.args.ctx.now c.args.binders _ c.args.values c.args.pattern.now c.args.term.now c.in_ok-set_variable-in-Var.field-0
    c.requires.pattern c.requires.term c.in_ok-set_variable-in-Var.ensures

pub match_under-with-requires : goal.match_under-with-requires
match_under-with-requires g t c = hyp_at (length c.args.ctx.now) (length c.args.env.now) c.args.hyp c.requires.under.hyp

pub matches-returns-then-not-enter-clause-answer : goal.matches-returns-then-not-enter-clause-answer
matches-returns-then-not-enter-clause-answer g t c =
    no_calls c.args.env.now c.args.ctx.now c.args.binders c.args.pattern.now c.args.term.now c.args.values c.args.fuel.now _ (grind arith) (grind arith)

pub matches-returns-clause-answer : goal.matches-returns-clause-answer
matches-returns-clause-answer g t c =
    let entered : c.enter.result ≡ true = grind arith in
    begun_meets c.args.env.now c.args.ctx.now c.args.binders c.args.pattern.now c.args.term.now c.args.values c.args.fuel.now c.enter.new.self
    c.match_begun-found.new.fuel c.leave.new.self c.match_begun-found.result
    (c.enter.ensures.nesting ∙ ap (λ b. nested b c.args.fuel.now) entered) (grind arith) (ap left c.leave.ensures) c.match_begun-found.ensures.answer
