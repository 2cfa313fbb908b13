use Rattle.cic_rules.proofs.JudgeScopes.{scope_of_reduction, scope_of_inference, scope_of_sorts, scope_of_checks, scope_of_rows}
use Rattle.cic_rules.proofs.InductiveScopes.{scope_of_inductives}
use Rattle.cic_rules.proofs.PlaceLaws.{place_below}
use Rattle.cic_rules.proofs.EnvironmentScopes.{scope_of_globals, scope_of_contexts}
use Rattle.cic_rules.proofs.ScopeLaws.{scope_of_terms}
use Rattle.cic_rules.proofs.laws.law_of_scopes.Goals as goal

pub returns-clause-reduction : goal.returns-clause-reduction
returns-clause-reduction c = scope_of_reduction

pub returns-clause-inference : goal.returns-clause-inference
returns-clause-inference c = scope_of_inference

pub returns-clause-found : goal.returns-clause-found
returns-clause-found c = place_below

pub returns-clause-globals : goal.returns-clause-globals
returns-clause-globals c = scope_of_globals

pub returns-clause-contexts : goal.returns-clause-contexts
returns-clause-contexts c = scope_of_contexts

pub returns-clause-terms : goal.returns-clause-terms
returns-clause-terms c = scope_of_terms

pub returns-clause-sorts : goal.returns-clause-sorts
returns-clause-sorts c = scope_of_sorts

pub returns-clause-checks : goal.returns-clause-checks
returns-clause-checks c = scope_of_checks

pub returns-clause-rows : goal.returns-clause-rows
returns-clause-rows c = scope_of_rows

pub returns-clause-inductives : goal.returns-clause-inductives
returns-clause-inductives c = scope_of_inductives
