-- What is true of all steps.
use Rattle.std.specs.Prelude.{◌≡◌, ℕ, ◌++◌, List}
use Rattle.bullet_focus.specs.declared.focus.Focused.{Focused}
use Rattle.bullet_focus.specs.FocusState.{FocusState}
use Rattle.bullet_focus.specs.Levels.{waiting_in}
use Rattle.bullet_focus.specs.Steps.{after_bullet, after_brace_open, after_brace_close}

-- all goals of a state: those in focus, and then those that wait, the innermost level first
abbrev pub all_goals : FocusState → List ℕ
all_goals f = f.goals ++ waiting_in f.levels

-- no goal is lost, and none is made: those that are given up, and then those of the new state, are those of the
-- old one in their order
abbrev pub KeepsGoals : FocusState → Focused → Type 0
KeepsGoals f step = step.admitted ++ all_goals step.focus ≡ all_goals f

abbrev pub BulletsKeepGoals : Type 0
BulletsKeepGoals = (mark count : ℕ) (f : FocusState) → KeepsGoals f (after_bullet mark count f)

abbrev pub BracesKeepGoals : Type 0
BracesKeepGoals = (f : FocusState) → KeepsGoals f (after_brace_open f) × KeepsGoals f (after_brace_close f)
