use Rattle.core_term.proofs.Lifts.{lifted-above}
use Rattle.core_term.proofs.Substitutions.{substituted-above}
use Rattle.core_term.proofs.Absent.{substituted-absent}
use Rattle.core_term.proofs.laws.law_of_closed_terms.Goals as goal

pub returns : goal.returns
returns c = record { lift = lifted-above; subst = substituted-above; absent = substituted-absent }
