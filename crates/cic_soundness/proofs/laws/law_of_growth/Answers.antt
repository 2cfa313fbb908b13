use Rattle.cic_soundness.proofs.Growth.{derivations_stay}
use Rattle.cic_soundness.proofs.laws.law_of_growth.Goals as goal

pub returns : goal.returns
returns c = derivations_stay
