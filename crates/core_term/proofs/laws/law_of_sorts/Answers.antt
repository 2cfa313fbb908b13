use Rattle.core_term.proofs.SortOrder.{below_itself, below_both, below_through, below_total, product_monotone, product_level}
use Rattle.core_term.proofs.laws.law_of_sorts.Goals as goal

pub returns-clause-order : goal.returns-clause-order
returns-clause-order c = record { reflexive = below_itself; antisymmetric = below_both; transitive = below_through; total = below_total }

pub returns-clause-monotone : goal.returns-clause-monotone
returns-clause-monotone c = product_monotone

pub returns-clause-levels : goal.returns-clause-levels
returns-clause-levels c = product_level
