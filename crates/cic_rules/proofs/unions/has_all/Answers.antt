use Rattle.cic_rules.proofs.UniteLaws.{each_step, each_end}
use Rattle.cic_rules.proofs.unions.has_all.Goals as goal

pub loop-place-init : goal.loop-place-init
loop-place-init c = rw c.as_slice-place-items.ensures (λ h. h)

pub loop-place-preserved : goal.loop-place-preserved
loop-place-preserved c = λ h. c.loop-place.invariant (each_step c.args.all.now _ _ c.loop-place-test.true (c.has_place.ensures c.if-not-has_place.false) h)

pub returns : goal.returns
returns c = λ _. c.loop-place.invariant (each_end c.args.all.now _ _ c.loop-place-test.false)
