use Rattle.vernac_exec.proofs.ProvingLaws.{given_up_in}
use Rattle.vernac_exec.proofs.proving.abandon.Goals as goal

pub returns-in_ok-refined-in-Some-clause-goals : goal.returns-in_ok-refined-in-Some-clause-goals
returns-in_ok-refined-in-Some-clause-goals c =
    given_up_in c.args.env.now c.args.proof.now c.args.n c.in_ok-refined-in-Some.refined c.requires c.in_ok-refined-in-Some.ensures
