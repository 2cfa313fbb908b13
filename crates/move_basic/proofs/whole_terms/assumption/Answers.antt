use Rattle.std.proofs.Common.{rules}
use Rattle.move_basic.proofs.Assumed.{spent_through, tried_no, tried_yes, tried_stop}
use Rattle.move_basic.proofs.whole_terms.assumption.Goals as goal

pub returns-in-Ok-true-clause-answer : goal.returns-in-Ok-true-clause-answer
returns-in-Ok-true-clause-answer g c =
    tried_yes _ _ _ c.loop-i.i _ c.loop-i.fuel c.tried.new.fuel _ _ c.in_ok-found-in-Ok-true.found c.ready.result (search rules)
    c.in-Some.ensures.hyp c.in-Ok-true.ensures.answer c.loop-i.invariant.1 (search rules) c.ready.ensures

pub returns-in-Err-clause-answer : goal.returns-in-Err-clause-answer
returns-in-Err-clause-answer g c =
    tried_stop _ _ _ c.loop-i.i _ c.loop-i.fuel c.tried.new.fuel _ c.in-Err.stop c.in-Some.ensures.hyp c.in-Err.ensures.answer c.loop-i.invariant.1

pub loop-i-preserved : goal.loop-i-preserved
loop-i-preserved g c = (
  spent_through _ c.loop-i.fuel c.tried.new.fuel c.loop-i.invariant.0 c.in-Ok-false.ensures.kept,
  tried_no _ _ _ c.loop-i.i _ c.loop-i.fuel c.tried.new.fuel _ _ (search rules) c.in-Some.ensures.hyp c.in-Ok-false.ensures.answer c.in-Ok-false.ensures.kept c.loop-i.invariant.1,
)
