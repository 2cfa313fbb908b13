-- The goals before and after a step.
use Rattle.std.proofs.Common.{◌≡◌, ℕ, ◌+◌, zero, suc, List, [], ◌∷◌, ◌++◌, length, drop, take, Option, Some, None, Bool, true, false, refl, ◌∙◌, ap, arith, append_assoc}
use Rattle.std.specs.Prelude.{if◌then◌else◌, ◌==◌}
use Rattle.bullet_focus.specs.declared.levels.Level.{Level}
use Rattle.bullet_focus.specs.declared.levels.Opener.{Opener}
use Rattle.bullet_focus.specs.declared.levels.Opener.TheVariants.{Bullet, Brace}
use Rattle.bullet_focus.specs.FocusState.{FocusState}
use Rattle.bullet_focus.specs.Levels.{waiting_in, waiting_at, place_of}
use Rattle.bullet_focus.specs.Steps.{kept, level_entered, level_begun, resumed, closed, bullet_at, brace_at}
use Rattle.bullet_focus.specs.Laws.{KeepsGoals, BulletsKeepGoals, BracesKeepGoals}
use Rattle.base_core.specs.declared.refusal_codes.TheConstants as code

-- the first goal, if there is one, stands before the others
first_parted : (goals rest : List ℕ) → take 1 goals ++ (drop 1 goals ++ rest) ≡ goals ++ rest
first_parted [] rest = refl
first_parted (goal ∷ goals) rest = refl

-- the goals that wait above a level, in it, and outside it
levels_parted : (levels : List Level) (place : ℕ) → waiting_in (take place levels) ++ (waiting_at levels place ++ waiting_in (drop (place + 1) levels)) ≡ waiting_in levels
levels_parted [] zero = refl
levels_parted [] (suc place) = let e : suc place + 1 ≡ suc (place + 1) = omega arith in rw e refl
levels_parted (level ∷ levels) zero = refl
levels_parted (level ∷ levels) (suc place) =
    let e : suc place + 1 ≡ suc (place + 1) = omega arith in
    rw e (append_assoc level.waiting (waiting_in (take place levels)) (waiting_at levels place ++ waiting_in (drop (place + 1) levels)) ∙ ap (λ (l : List ℕ). level.waiting ++ l) (levels_parted levels place))

closed_keeps : (place : ℕ) (f : FocusState) → KeepsGoals f (closed place f)
closed_keeps place f =
    append_assoc f.goals (waiting_in (take place f.levels)) (waiting_at f.levels place ++ waiting_in (drop (place + 1) f.levels)) ∙ ap (λ (l : List ℕ). f.goals ++ l) (levels_parted f.levels place)

resumed_keeps : (opener : Opener) (place : ℕ) (f : FocusState) → KeepsGoals f (resumed opener place f)
resumed_keeps opener place f =
    ap (λ (l : List ℕ). (f.goals ++ waiting_in (take place f.levels)) ++ l) (first_parted (waiting_at f.levels place) (waiting_in (drop (place + 1) f.levels))) ∙ closed_keeps place f

begun_or_kept : (b : Bool) (refusal : ℕ) (opener : Opener) (f : FocusState) → KeepsGoals f (if b then kept refusal f else record { focus = level_entered opener f; admitted = []; refusals = [] })
begun_or_kept true refusal opener f = refl
begun_or_kept false refusal opener f = first_parted f.goals (waiting_in f.levels)

begun_keeps : (refusal : ℕ) (opener : Opener) (f : FocusState) → KeepsGoals f (level_begun refusal opener f)
begun_keeps refusal opener f = begun_or_kept (length f.goals == 0) refusal opener f

bullet_keeps : (opener : Opener) (f : FocusState) (place : Option ℕ) → KeepsGoals f (bullet_at opener f place)
bullet_keeps opener f None = begun_keeps code.WRONG_BULLET opener f
bullet_keeps opener f (Some place) = resumed_keeps opener place f

brace_keeps : (f : FocusState) (place : Option ℕ) → KeepsGoals f (brace_at f place)
brace_keeps f None = refl
brace_keeps f (Some place) = closed_keeps place f

pub bullets_keep : BulletsKeepGoals
bullets_keep mark count f = bullet_keeps (Bullet mark count) f (place_of (Bullet mark count) f.levels)

pub braces_keep : BracesKeepGoals
braces_keep f = (begun_keeps code.NO_GOAL Brace f, brace_keeps f (place_of Brace f.levels))
