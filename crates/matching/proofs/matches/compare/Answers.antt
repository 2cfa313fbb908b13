use Rattle.cic_rules.specs.Fuel.{left, calls_left}
use Rattle.matching.proofs.MatchCalls.{compared_yes, compared_no, not_compared}
use Rattle.matching.proofs.matches.compare.Goals as goal

pub returns-in-Ok-true-clause-answer : goal.returns-in-Ok-true-clause-answer
returns-in-Ok-true-clause-answer g c =
    compared_yes c.args.env.now (calls_left c.args.fuel.now) c.args.ctx.now c.args.filled.now c.args.term.now c.args.values _ (left c.args.fuel.now) _
    c.depth-depth.ensures.term c.in-Ok-true.field-0-test c.in-Ok-true.ensures.answer

pub returns-in-Ok-false-clause-answer : goal.returns-in-Ok-false-clause-answer
returns-in-Ok-false-clause-answer g c =
    compared_no c.args.env.now (calls_left c.args.fuel.now) c.args.ctx.now c.args.filled.now c.args.term.now c.args.values _ (left c.args.fuel.now) _
    c.depth-depth.ensures.term c.in-Ok-false.field-0-test c.in-Ok-false.ensures.answer

pub returns-in-Err-clause-answer : goal.returns-in-Err-clause-answer
returns-in-Err-clause-answer g c =
    not_compared c.args.env.now (calls_left c.args.fuel.now) c.args.ctx.now c.args.filled.now c.args.term.now c.args.values _ (left c.args.fuel.now) _
    c.depth-depth.ensures.term c.in-Err.ensures.answer
