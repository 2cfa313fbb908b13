use Rattle.bullet_focus.proofs.GoalLaws.{bullets_keep, braces_keep}
use Rattle.bullet_focus.proofs.laws.law_of_goals.Goals as goal

pub returns-clause-bullets : goal.returns-clause-bullets
returns-clause-bullets c = bullets_keep

pub returns-clause-braces : goal.returns-clause-braces
returns-clause-braces c = braces_keep
