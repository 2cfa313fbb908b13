use Rattle.cic_rules.proofs.FamilyLaws.{checked_may_enter}
use Rattle.cic_rules.proofs.laws.law_of_families.Goals as goal

pub returns : goal.returns
returns c = checked_may_enter
