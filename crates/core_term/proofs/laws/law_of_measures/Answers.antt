use Rattle.core_term.proofs.Bounds.{size-lifted, depth-lifted, bounded-lifted}
use Rattle.core_term.proofs.Sizes.{size-substituted, depth-substituted}
use Rattle.core_term.proofs.FreeVariables.{free_bound-lifted, free_bound-substituted, numbered-lifted, numbered-substituted}
use Rattle.core_term.proofs.laws.law_of_measures.Goals as goal

pub returns-clause-measures : goal.returns-clause-measures
returns-clause-measures c = record {
  lift_size = size-lifted;
  lift_depth = depth-lifted;
  lift_bound = free_bound-lifted;
  lift_fits = bounded-lifted;
  subst_size = size-substituted;
  subst_depth = depth-substituted;
  subst_bound = free_bound-substituted;
}

pub returns-clause-conditions : goal.returns-clause-conditions
returns-clause-conditions c = record { lift = numbered-lifted; subst = numbered-substituted }
