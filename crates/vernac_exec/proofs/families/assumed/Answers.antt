use Rattle.vernac_exec.proofs.FamilyLaws.{assumed_ready}
use Rattle.vernac_exec.proofs.families.assumed.Goals as goal

pub with_assumed-requires : goal.with_assumed-requires
with_assumed-requires c =
    assumed_ready c.args.env.now c.args.name.now c.args.params.now c.args.arity.now c.in_ok-ty.ty c.in_ok-ty.ensures c.requires.new c.requires.judged
    c.requires.arity
