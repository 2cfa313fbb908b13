use Rattle.std.specs.Prelude.{refl}
use Rattle.core_term.proofs.Substitutions.{substituted-lifted, lifted_below-substituted, lifted_above-substituted, substituted-substituted}
use Rattle.core_term.proofs.laws.law_of_substitutions.Goals as goal

pub returns : goal.returns
returns c = record {
  within = λ t v n f at le within. substituted-lifted t v n _ f at refl le within;
  below = λ t v n f at le. lifted_below-substituted t v n f at _ le refl;
  above = λ t v n f at le. lifted_above-substituted t v n f at _ le refl;
  both = λ t v w at after le. substituted-substituted t v w at after _ le refl;
}
