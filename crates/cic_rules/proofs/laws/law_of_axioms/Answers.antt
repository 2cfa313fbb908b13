use Rattle.cic_rules.proofs.AxiomLaws.{axioms_ascend}
use Rattle.cic_rules.proofs.ReachLaws.{entries_use_before, axioms_are_reached}
use Rattle.cic_rules.proofs.laws.law_of_axioms.Goals as goal

pub returns-clause-ascend : goal.returns-clause-ascend
returns-clause-ascend c = axioms_ascend

pub returns-clause-before : goal.returns-clause-before
returns-clause-before c = entries_use_before

pub returns-clause-reached : goal.returns-clause-reached
returns-clause-reached c = axioms_are_reached
