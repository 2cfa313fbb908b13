use Rattle.std.proofs.Common.{refl}
use Rattle.sched_core.proofs.PendingLaws.{steps_keep_waiting, none_waits_in_vain}
use Rattle.sched_core.proofs.AnsweredLemmas.{steps_forget_none}
use Rattle.sched_core.proofs.laws.law_of_waiting.Goals as goal

pub returns : goal.returns
returns c = record { first = λ paced. refl; steps = steps_keep_waiting; none = none_waits_in_vain; answered = steps_forget_none }
