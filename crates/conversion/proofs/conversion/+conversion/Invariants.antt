use Rattle.std.specs.Prelude.{◌+◌, ◌*◌}
use Rattle.cic_rules.specs.Fuel.{left, calls_left, IsSpentOf}
use Rattle.conversion.specs.Sides.{trees_of}
use Rattle.conversion.proofs.HeadLaws.{IsAllUnderWay}
use Rattle.conversion.proofs.RoundLaws.{IsTurning}
use Rattle.conversion.proofs.conversion.+conversion.Given as goal

abbrev pub decreases-convert : goal.decreases-convert
decreases-convert l = calls_left l.fuel.now * 10

abbrev pub decreases-compare : goal.decreases-compare
decreases-compare l = calls_left l.fuel.now * 10 + 9

abbrev pub decreases-take_turns : goal.decreases-take_turns
decreases-take_turns l = calls_left l.fuel.now * 10 + 8

abbrev pub decreases-turn : goal.decreases-turn
decreases-turn l = calls_left l.fuel.now * 10 + 7

abbrev pub decreases-turn_reduced : goal.decreases-turn_reduced
decreases-turn_reduced l = calls_left l.fuel.now * 10 + 6

abbrev pub decreases-turn_binders : goal.decreases-turn_binders
decreases-turn_binders l = calls_left l.fuel.now * 10 + 5

abbrev pub decreases-turn_eta_left : goal.decreases-turn_eta_left
decreases-turn_eta_left l = calls_left l.fuel.now * 10 + 5

abbrev pub decreases-turn_eta_right : goal.decreases-turn_eta_right
decreases-turn_eta_right l = calls_left l.fuel.now * 10 + 5

abbrev pub decreases-turn_heads : goal.decreases-turn_heads
decreases-turn_heads l = calls_left l.fuel.now * 10 + 5

abbrev pub decreases-convert_under : goal.decreases-convert_under
decreases-convert_under l = calls_left l.fuel.now * 10 + 4

abbrev pub decreases-convert_all : goal.decreases-convert_all
decreases-convert_all l = calls_left l.fuel.now * 10 + 4

abbrev pub invariant-convert_all-loop-us : goal.invariant-convert_all-loop-us
invariant-convert_all-loop-us l = record {
  way : IsAllUnderWay l.env l.ctx (calls_left l.fn.fuel) l.ts l.us (left l.fuel) l.fn.left l.fn.right (left l.fn.fuel);
  spent : IsSpentOf l.fn.fuel l.fuel;
}

abbrev pub invariant-take_turns-loop-answer : goal.invariant-take_turns-loop-answer
invariant-take_turns-loop-answer l = record {
  way : IsTurning l.env l.ctx (calls_left l.fn.fuel) l.mode l.sides (left l.fuel) (trees_of l.fn.sides) (left l.fn.fuel);
  spent : IsSpentOf l.fn.fuel l.fuel;
}

abbrev pub decreases-take_turns-loop-answer : goal.decreases-take_turns-loop-answer
decreases-take_turns-loop-answer l = left l.fuel
