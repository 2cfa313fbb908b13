use Rattle.cic_rules.proofs.DeclareLaws.{judged_may_enter, declare_keeps}
use Rattle.cic_rules.proofs.laws.law_of_declarations.Goals as goal

pub returns-clause-entries : goal.returns-clause-entries
returns-clause-entries c = judged_may_enter

pub returns-clause-environments : goal.returns-clause-environments
returns-clause-environments c = declare_keeps
