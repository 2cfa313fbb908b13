use Rattle.cic_soundness.proofs.ReduceSound.{reduction_is_sound}
use Rattle.cic_soundness.proofs.ConvSound.{conversion_is_sound}
use Rattle.cic_soundness.proofs.laws.law_of_conversion.Goals as goal

pub returns-clause-reduction : goal.returns-clause-reduction
returns-clause-reduction c = reduction_is_sound

pub returns-clause-yes : goal.returns-clause-yes
returns-clause-yes c = conversion_is_sound
