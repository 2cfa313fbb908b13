use Rattle.std.specs.Prelude.{◌+◌, ◌*◌}
use Rattle.term_spine.specs.Spines.{tree_of_spine}
use Rattle.cic_rules.specs.Fuel.{left, calls_left, IsSpentOf}
use Rattle.move_compute.proofs.HeadLaws.{IsUnderWay}
use Rattle.move_compute.proofs.heads.+heads.Given as goal

abbrev pub decreases-simpl_head : goal.decreases-simpl_head
decreases-simpl_head l = calls_left l.fuel.now * 10

abbrev pub decreases-reduce : goal.decreases-reduce
decreases-reduce l = calls_left l.fuel.now * 10 + 9

abbrev pub decreases-reduce_spine : goal.decreases-reduce_spine
decreases-reduce_spine l = calls_left l.fuel.now * 10 + 8

abbrev pub decreases-turn : goal.decreases-turn
decreases-turn l = calls_left l.fuel.now * 10 + 7

abbrev pub decreases-turn_global : goal.decreases-turn_global
decreases-turn_global l = calls_left l.fuel.now * 10 + 6

abbrev pub decreases-turn_definition : goal.decreases-turn_definition
decreases-turn_definition l = calls_left l.fuel.now * 10 + 5

abbrev pub decreases-turn_constant : goal.decreases-turn_constant
decreases-turn_constant l = calls_left l.fuel.now * 10 + 5

abbrev pub decreases-turn_awaited : goal.decreases-turn_awaited
decreases-turn_awaited l = calls_left l.fuel.now * 10 + 4

abbrev pub decreases-turn_eliminator : goal.decreases-turn_eliminator
decreases-turn_eliminator l = calls_left l.fuel.now * 10 + 4

abbrev pub invariant-reduce_spine-loop-spine : goal.invariant-reduce_spine-loop-spine
invariant-reduce_spine-loop-spine l = record {
  way : IsUnderWay l.env (calls_left l.fn.fuel) l.vars l.spine (left l.fuel) (tree_of_spine l.fn.spine) (left l.fn.fuel);
  spent : IsSpentOf l.fn.fuel l.fuel;
}

abbrev pub decreases-reduce_spine-loop-spine : goal.decreases-reduce_spine-loop-spine
decreases-reduce_spine-loop-spine l = left l.fuel
