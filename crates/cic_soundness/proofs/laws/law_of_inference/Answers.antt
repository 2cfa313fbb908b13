use Rattle.cic_soundness.proofs.InferSound.{types_are_sound, sorts_are_sound, checks_are_sound}
use Rattle.cic_soundness.proofs.laws.law_of_inference.Goals as goal

pub returns-clause-types : goal.returns-clause-types
returns-clause-types c = types_are_sound

pub returns-clause-sorts : goal.returns-clause-sorts
returns-clause-sorts c = sorts_are_sound

pub returns-clause-checks : goal.returns-clause-checks
returns-clause-checks c = checks_are_sound
