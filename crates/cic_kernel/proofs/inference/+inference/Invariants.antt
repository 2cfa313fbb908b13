use Rattle.std.specs.Prelude.{◌+◌, ◌*◌}
use Rattle.cic_rules.specs.Fuel.{calls_left}
use Rattle.cic_kernel.proofs.inference.+inference.Given as goal

abbrev pub decreases-infer : goal.decreases-infer
decreases-infer l = calls_left l.fuel.now * 10

abbrev pub decreases-infer_begun : goal.decreases-infer_begun
decreases-infer_begun l = calls_left l.fuel.now * 10 + 9

abbrev pub decreases-infer_by_top : goal.decreases-infer_by_top
decreases-infer_by_top l = calls_left l.fuel.now * 10 + 8

abbrev pub decreases-infer_product : goal.decreases-infer_product
decreases-infer_product l = calls_left l.fuel.now * 10 + 7

abbrev pub decreases-infer_function : goal.decreases-infer_function
decreases-infer_function l = calls_left l.fuel.now * 10 + 7

abbrev pub decreases-infer_let : goal.decreases-infer_let
decreases-infer_let l = calls_left l.fuel.now * 10 + 7

abbrev pub decreases-infer_application : goal.decreases-infer_application
decreases-infer_application l = calls_left l.fuel.now * 10 + 7

abbrev pub decreases-as_arrow : goal.decreases-as_arrow
decreases-as_arrow l = calls_left l.fuel.now * 10 + 6

abbrev pub decreases-check : goal.decreases-check
decreases-check l = calls_left l.fuel.now * 10 + 6

abbrev pub decreases-sort_of : goal.decreases-sort_of
decreases-sort_of l = calls_left l.fuel.now * 10 + 5
