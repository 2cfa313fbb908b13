use Rattle.fleche_main.proofs.Counting.{halted}
use Rattle.fleche_main.proofs.generated.write_generated.Goals as goal

pub returns-in_err-lines-clause-told : goal.returns-in_err-lines-clause-told
returns-in_err-lines-clause-told g c = halted _ c.from_residual.result _ c.from_residual.ensures.0
