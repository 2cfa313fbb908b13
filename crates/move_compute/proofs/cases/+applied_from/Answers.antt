use Rattle.move_compute.proofs.CallLaws as law
use Rattle.move_compute.proofs.cases.+applied_from.Goals as goal

pub returns-in-Ok : goal.returns-in-Ok
returns-in-Ok t c =
    law.from_next c.args.function c.in-Ok.next c.in_ok-value-in-Some.value c.in-Some.value.now c.args.values.now c.args.at c.applied_from.result
    c.in-Some.ensures c.in_ok-value-in-Some.ensures c.in-Ok.ensures c.applied_from.ensures

pub returns-in-Err : goal.returns-in-Err
returns-in-Err t c =
    law.from_stop c.args.function c.in_ok-value-in-Some.value c.in-Some.value.now c.args.values.now c.args.at c.in-Err.stop
    c.in-Some.ensures c.in_ok-value-in-Some.ensures c.in-Err.ensures
