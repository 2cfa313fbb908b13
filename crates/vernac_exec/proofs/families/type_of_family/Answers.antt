use Rattle.std.proofs.Common.{rules}
use Rattle.vernac_exec.proofs.FamilyLaws.{family_type}
use Rattle.vernac_exec.proofs.families.type_of_family.Goals as goal

pub returns : goal.returns
returns c =
    family_type c.close_over.result c.args.name.now c.args.params.now c.args.arity.now c.in_ok-arity.arity c.size-size.ensures.term (search rules) c.close_over.ensures
