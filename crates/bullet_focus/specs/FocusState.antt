-- The goals of a proof under way, by their numbers: those in focus, and those that wait.
use Rattle.std.specs.Prelude.{ℕ, List}
use Rattle.bullet_focus.specs.declared.levels.Level.{Level}

-- the goals in focus, the first one first, and the levels that were begun and not ended, the innermost first
pub record FocusState : Type 0 where
  pub goals : List ℕ
  pub levels : List Level
