-- What bullets and braces do.
use Rattle.std.specs.Prelude.{ℕ, ◌+◌, ◌==◌, List, [], ◌∷◌, ◌++◌, length, take, drop, Option, Some, None, if◌then◌else◌}
use Rattle.base_core.specs.declared.refusal_codes.TheConstants as code
use Rattle.bullet_focus.specs.declared.focus.Focused.{Focused}
use Rattle.bullet_focus.specs.declared.levels.Level.{Level}
use Rattle.bullet_focus.specs.declared.levels.Opener.{Opener}
use Rattle.bullet_focus.specs.declared.levels.Opener.TheVariants.{Bullet, Brace}
use Rattle.bullet_focus.specs.FocusState.{FocusState}
use Rattle.bullet_focus.specs.Levels.{place_of, waiting_at, waiting_in}

-- a proof begins with one goal
abbrev pub begun : ℕ → FocusState
begun goal = record { goals = goal ∷ []; levels = [] }

-- the goals that a proof move leaves of the first one stand in its place
abbrev pub replaced : List ℕ → FocusState → FocusState
replaced goals f = record f { goals = goals ++ drop 1 f.goals }

-- a refusal that keeps the state
abbrev pub kept : ℕ → FocusState → Focused
kept refusal f = record { focus = f; admitted = []; refusals = refusal ∷ [] }

-- a new level: the first goal is in focus, and the others wait
abbrev pub level_entered : Opener → FocusState → FocusState
level_entered opener f = record { goals = take 1 f.goals; levels = record { opener = opener; waiting = drop 1 f.goals } ∷ f.levels }

-- it is begun where a goal is in focus, and refused elsewhere
abbrev pub level_begun : ℕ → Opener → FocusState → Focused
level_begun refusal opener f =
    if length f.goals == 0 then kept refusal f else record { focus = level_entered opener f; admitted = []; refusals = [] }

-- where the innermost levels are left, these goals are given up: those in focus, and then those that wait in the
-- levels that are left, the innermost level first
abbrev pub given_up : List ℕ → List Level → ℕ → List ℕ
given_up goals levels count = goals ++ waiting_in (take count levels)

-- all goals that are given up at once have one refusal
abbrev pub unsolved : List ℕ → List ℕ
unsolved goals = if length goals == 0 then [] else code.GOAL_UNSOLVED ∷ []

-- a bullet whose level has no goal left
abbrev pub none_left : List ℕ → List ℕ
none_left waiting = if length waiting == 0 then code.NO_GOAL_FOR_BULLET ∷ [] else []

-- the levels above this one are left, and the next goal that waits in it is in focus, if there is one
abbrev pub level_resumed : Opener → ℕ → FocusState → FocusState
level_resumed opener place f =
    let waiting = waiting_at f.levels place in
    record { goals = take 1 waiting; levels = record { opener = opener; waiting = drop 1 waiting } ∷ drop (place + 1) f.levels }

-- a bullet that the level at this place has
abbrev pub resumed : Opener → ℕ → FocusState → Focused
resumed opener place f =
    let admitted = given_up f.goals f.levels place in
    record {
      focus = level_resumed opener place f;
      admitted = admitted;
      refusals = unsolved admitted ++ none_left (waiting_at f.levels place);
    }

-- the end of the level at this place, and of those above it: all goals that wait in it are in focus
abbrev pub closed : ℕ → FocusState → Focused
closed place f =
    let admitted = given_up f.goals f.levels place in
    record {
      focus = record { goals = waiting_at f.levels place; levels = drop (place + 1) f.levels };
      admitted = admitted;
      refusals = unsolved admitted;
    }

-- by the place of its level, if it has one
abbrev pub bullet_at : Opener → FocusState → Option ℕ → Focused
bullet_at opener f None = level_begun code.WRONG_BULLET opener f
bullet_at opener f (Some place) = resumed opener place f

-- a bullet
abbrev pub after_bullet : ℕ → ℕ → FocusState → Focused
after_bullet mark count f = bullet_at (Bullet mark count) f (place_of (Bullet mark count) f.levels)

-- `{`
abbrev pub after_brace_open : FocusState → Focused
after_brace_open f = level_begun code.NO_GOAL Brace f

-- by the place of the last brace, if there is one
abbrev pub brace_at : FocusState → Option ℕ → Focused
brace_at f None = kept code.NO_BRACE f
brace_at f (Some place) = closed place f

-- `}`
abbrev pub after_brace_close : FocusState → Focused
after_brace_close f = brace_at f (place_of Brace f.levels)
