use Rattle.inductive_check.proofs.BehindLaws.{tested_if}
use Rattle.inductive_check.proofs.families.check_inductive.Goals as goal

pub returns-clause-checked : goal.returns-clause-checked
returns-clause-checked g c = tested_if c.args.env.now c.args.d.now c.args.fuel.now c.check_named.result _ c.check_named.ensures.answer
