use Rattle.cic_rules.specs.Fuel.{left}
use Rattle.conversion.proofs.UnfoldLaws.{both_unfold, second_stops}
use Rattle.conversion.proofs.unfoldings.unfold_both.Goals as goal

pub returns-in-Ok-replaced-clause-answer : goal.returns-in-Ok-replaced-clause-answer
returns-in-Ok-replaced-clause-answer c =
    λ x y one two. both_unfold c.in-Ok.left c.in-Ok-replaced.right (left c.args.fuel.now) (left c.replaced.new.fuel) (left c.replaced-in-Ok.new.fuel) x y
    (c.in-Ok.ensures.answer x.replaced one) (c.in-Ok-replaced.ensures.answer y.replaced two)

pub returns-in-Err-replaced-clause-answer : goal.returns-in-Err-replaced-clause-answer
returns-in-Err-replaced-clause-answer c =
    λ x y one two. second_stops c.in-Ok.left (left c.args.fuel.now) (left c.replaced.new.fuel) (left c.replaced-in-Ok.new.fuel) c.in-Err-replaced.stop x y
    (c.in-Ok.ensures.answer x.replaced one) (c.in-Err-replaced.ensures.answer y.replaced two)
