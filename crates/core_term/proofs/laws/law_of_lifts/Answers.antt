use Rattle.std.specs.Prelude.{refl}
use Rattle.core_term.proofs.Lifts.{lifted-zero, lifted-more, lifted-past}
use Rattle.core_term.proofs.laws.law_of_lifts.Goals as goal

pub returns : goal.returns
returns c = record {
  none = lifted-zero;
  within = lifted-more;
  apart = λ t m n f g le. lifted-past t m n f g _ le refl;
}
