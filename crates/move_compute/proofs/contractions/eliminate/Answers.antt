use Rattle.std.proofs.Common.{sym, ◌∙◌}
use Rattle.cic_rules.specs.Fuel.{left}
use Rattle.move_compute.proofs.ContractLaws as law
use Rattle.move_compute.proofs.TurnScopes.{may_contract}
use Rattle.move_compute.proofs.contractions.eliminate.Goals as goal

pub returns-in-None-clause-answer : goal.returns-in-None-clause-answer
returns-in-None-clause-answer c =
    law.iota_none c.args.env.now c.args.spine.now c.args.value.now c.args.family c.requires.family c.args.shape.now c.requires.shape c.in_ok-made.made c.in_ok-made.ensures
    (sym c.in-None.is ∙ c.in_ok-choose.ensures) (left c.args.fuel.now)

pub contract-requires : goal.contract-requires
contract-requires c =
    may_contract c.args.env.now c.len-globals.ensures.environment c.args.vars c.args.family c.args.spine.now c.in_ok-made.made c.args.value.now c.in-Some.chosen
    c.requires.spine c.requires.value c.in_ok-made.ensures (sym c.in-Some.is ∙ c.in_ok-choose.ensures)

pub returns-in-Ok-clause-answer : goal.returns-in-Ok-clause-answer
returns-in-Ok-clause-answer c =
    law.iota_some c.args.env.now c.args.spine.now c.args.value.now c.args.family c.requires.family c.args.shape.now c.requires.shape c.in_ok-made.made c.in_ok-made.ensures
    c.in-Some.chosen (sym c.in-Some.is ∙ c.in_ok-choose.ensures) (left c.contract.new.fuel) (left c.args.fuel.now) c.in-Ok.next c.in-Ok.ensures.paid

pub returns-clause-answer : goal.returns-clause-answer
returns-clause-answer c =
    law.iota_stop c.args.env.now c.args.spine.now c.args.value.now c.args.family c.requires.family c.args.shape.now c.requires.shape c.in_ok-made.made c.in_ok-made.ensures
    c.in-Some.chosen (sym c.in-Some.is ∙ c.in_ok-choose.ensures) (left c.contract.new.fuel) (left c.args.fuel.now) c.in-Err.stop c.in-Err.ensures.paid
