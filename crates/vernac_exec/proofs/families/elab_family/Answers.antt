use Rattle.vernac_exec.proofs.FamilyLaws.{judged_there}
use Rattle.vernac_exec.proofs.families.elab_family.Goals as goal

pub declare_family-requires-clause-judged : goal.declare_family-requires-clause-judged
declare_family-requires-clause-judged g c =
    judged_there c.args.env.now c.in_ok-inner.inner c.args.name.now c.args.params.now c.args.arity c.requires.judged c.in_ok-inner.ensures
