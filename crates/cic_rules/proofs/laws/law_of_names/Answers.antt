use Rattle.cic_rules.proofs.NamesLaws.{names_may_grow}
use Rattle.cic_rules.proofs.laws.law_of_names.Goals as goal

pub returns : goal.returns
returns c = names_may_grow
