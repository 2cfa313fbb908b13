use Rattle.vernac_exec.proofs.ProvingLaws.{step_in}
use Rattle.vernac_exec.proofs.proving.prove_at.Goals as goal

pub returns-clause-deed : goal.returns-clause-deed
returns-clause-deed g c =
    step_in c.args.env.now c.args.goal.now.ctx c.args.open.now.proof c.args.number c.in_ok-by.by c.in_ok-refined.refined c.requires.goals
    c.in_ok-by.ensures.filling c.in_ok-refined.ensures
