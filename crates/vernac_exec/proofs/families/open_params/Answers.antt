use Rattle.std.proofs.Common.{rules}
use Rattle.cic_rules.specs.Fuel.{left}
use Rattle.vernac_exec.proofs.FamilyLaws.{params_plain}
use Rattle.vernac_exec.proofs.families.open_params.Goals as goal

pub returns-clause-plain : goal.returns-clause-plain
returns-clause-plain g c =
    params_plain c.args.env.now c.args.groups.now c.args.fuel.now c.open_groups.result (left c.open_groups.new.fuel) (search rules)
