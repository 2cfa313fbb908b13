use Rattle.sched_core.proofs.Idles.{steps_end}
use Rattle.sched_core.proofs.laws.law_of_idle_steps.Goals as goal

pub returns : goal.returns
returns c = steps_end
