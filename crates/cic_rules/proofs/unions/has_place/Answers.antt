use Rattle.cic_rules.proofs.UniteLaws.{found_has}
use Rattle.cic_rules.proofs.unions.has_place.Goals as goal

pub returns-in-Ok : goal.returns-in-Ok
returns-in-Ok c = λ _. found_has c.args.all.now c.args.place c.in-Ok.field-0 (rw c.as_slice.ensures at c.in-Ok.ensures.bound) (rw c.as_slice.ensures at c.in-Ok.ensures.ok)
