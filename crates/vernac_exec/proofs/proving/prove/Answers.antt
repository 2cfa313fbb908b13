use Rattle.vernac_exec.proofs.ProvingLaws.{goal_in}
use Rattle.vernac_exec.proofs.proving.prove.Goals as goal

pub prove_at-requires-clause-goal : goal.prove_at-requires-clause-goal
prove_at-requires-clause-goal g c =
    goal_in c.args.env.now c.args.open.now.proof.goals c.in-Some.number c.in-Some-unsolved.goal.now c.requires c.in-Some-unsolved.ensures.found
