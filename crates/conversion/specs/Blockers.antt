-- What keeps a side from going on, as code holds it, and what calls that replace it answer.
use Rattle.std.specs.Prelude.{◌≡◌, ℕ, List, Bool, false, Option, Some, None, Result}
use Rattle.base_core.specs.declared.refusals.Stop.{Stop}
use Rattle.core_term.specs.Tree.{Tree, Constant, is_small}
use Rattle.term_spine.specs.Spine.{apply_all}
use Rattle.term_spine.specs.declared.spines.Spine.{Spine}
use Rattle.term_spine.specs.Spines.{tree_of_spine, IsSpineOf}
use Rattle.cic_rules.specs.declared.context.Hyp.{Hyp}
use Rattle.cic_rules.specs.declared.env.Slot.{Slot}
use Rattle.cic_rules.specs.Environments.{body_of_global}
use Rattle.cic_rules.specs.Families.{major_premise, replace_major}
use Rattle.cic_rules.specs.Fuel.{FuelState, left, calls_left}
use Rattle.cic_rules.specs.Reduce.{whnf_at}
use Rattle.cic_rules.specs.Convert.{Blocker, blocker_by, blocker_at, unfold_left, unfold_right, unfold_both, delta_step, unblock, conv_at}
use Rattle.cic_rules.specs.Convert as rules
use Rattle.cic_rules.specs.Runs.{Run, ◌>>=◌, ◌>>◌, pure, spend, check_size, Turn, Final, GoOn}
use Rattle.conversion.specs.declared.blockers.Blocked.{Blocked}
use Rattle.conversion.specs.declared.sides.Turned.{Turned}
use Rattle.conversion.specs.declared.sides.Turned.TheVariants as turned
use Rattle.conversion.specs.Sides.{trees_of}
use Rattle.conversion.specs.Turns.{IsSpine, EndsAs}

-- the place of the global that a head is
abbrev pub global_in : Tree → Option ℕ
global_in (Constant c) = Some c
global_in _ = None

-- a term was made, or it would be too large
abbrev pub IsReplaced : Option Spine → Tree → Type 0
IsReplaced None t = is_small t ≡ false
IsReplaced (Some s) t = IsSpineOf s t

-- a spine with another argument at a place
abbrev pub replaced_at : Spine → ℕ → Tree → Tree
replaced_at s at v = apply_all s.head (replace_major s.args at v)

abbrev pub IsReplacedBy : Option Spine → Spine → ℕ → Tree → Type 0
IsReplacedBy made s at v = IsReplaced made (replaced_at s at v)

abbrev pub IsSmallIfAny : Option Spine → Type 0
IsSmallIfAny None = Unit {0}
IsSmallIfAny (Some s) = IsSpine s

-- the blocker of an argument at a place, as the blocker of the spine
pub record IsPutBack (outer : Blocked) (s : Spine) (at : ℕ) (inner : Blocked) : Type 0 where
  pub place : outer.place ≡ inner.place
  pub replaced : (t : Tree) → IsReplaced inner.replaced t → IsReplacedBy outer.replaced s at t

-- a call found this blocker
abbrev pub IsBlocked : Option Blocked → Option Blocker → Type 0
IsBlocked None None = Unit {0}
IsBlocked (Some b) (Some c) = (b.place ≡ c.place) × IsReplaced b.replaced c.replaced
IsBlocked _ _ = ⊥

abbrev pub BlocksBy : Result (Option Blocked) Stop → FuelState → FuelState → Run (Option Blocker) → Type 0
BlocksBy result old new run = EndsAs IsBlocked result (left new) (run (left old))

-- the blocker of an argument at a place, as the blocker of the spine
abbrev pub put_back_at : Spine → ℕ → Option Blocker → Option Blocker
put_back_at s at None = None
put_back_at s at (Some b) = Some (record { place = b.place; replaced = replaced_at s at b.replaced })

-- how a call ends a turn
abbrev pub IsTurned : Turned → Turn rules.Sides Bool → Type 0
IsTurned (turned.Final answer) (Final x) = answer ≡ x
IsTurned (turned.GoOn s) (GoOn sides) = (trees_of s ≡ sides) × (IsSpine s.left × IsSpine s.right)
IsTurned _ _ = ⊥

abbrev pub TurnsBy : Result Turned Stop → FuelState → FuelState → Run (Turn rules.Sides Bool) → Type 0
TurnsBy result old new run = EndsAs IsTurned result (left new) (run (left old))

module _ (env : List Slot) (ctx : List Hyp) (f : FuelState) where
  -- the blocker of a term
  abbrev pub blocker_of : ℕ → Tree → Run (Option Blocker)
  blocker_of majors t = blocker_at env (whnf_at env false (calls_left f) ctx) majors t

  -- of a spine
  abbrev pub spine_blocker : ℕ → Spine → Run (Option Blocker)
  spine_blocker majors s = blocker_of majors (tree_of_spine s)

  -- of a spine whose head is the global at a place
  abbrev pub global_blocker_of : ℕ → ℕ → Spine → Run (Option Blocker)
  global_blocker_of majors place s =
      blocker_by env (whnf_at env false (calls_left f) ctx) (blocker_at env (whnf_at env false (calls_left f) ctx) majors) (tree_of_spine s)
      (Constant place) (body_of_global env place) (major_premise env (Constant place) s.args)

  -- of a spine that waits for its argument at a place
  abbrev pub blocker_in : ℕ → Spine → ℕ → Tree → Run (Option Blocker)
  blocker_in majors s at major =
      whnf_at env false (calls_left f) ctx major >>= λ value. blocker_at env (whnf_at env false (calls_left f) ctx) majors value >>= λ b.
      pure (put_back_at s at b)

  -- the turn of two sides by their blockers
  abbrev pub unblock_of : Spine → Spine → Run (Turn rules.Sides Bool)
  unblock_of s r = unblock env (calls_left f) (whnf_at env false (calls_left f)) (conv_at env (calls_left f)) ctx (tree_of_spine s) (tree_of_spine r)

-- a term in the place of a side, for a unit
abbrev pub replaced_step : Tree → Run Tree
replaced_step t = spend 1 >> (check_size t >> pure t)

abbrev pub TakesReplaced : Result Spine Stop → FuelState → FuelState → Option Spine → Type 0
TakesReplaced result old new made = (t : Tree) → IsReplaced made t → EndsAs IsSpineOf result (left new) (replaced_step t (left old))

-- what calls answer that replace the left side, the right one, or both
abbrev pub UnfoldsLeft : Result Turned Stop → FuelState → FuelState → Option Spine → Spine → Type 0
UnfoldsLeft result old new made right = (b : Blocker) → IsReplaced made b.replaced → TurnsBy result old new (unfold_left b (tree_of_spine right))

abbrev pub UnfoldsRight : Result Turned Stop → FuelState → FuelState → Spine → Option Spine → Type 0
UnfoldsRight result old new s made = (c : Blocker) → IsReplaced made c.replaced → TurnsBy result old new (unfold_right (tree_of_spine s) c)

abbrev pub UnfoldsBoth : Result Turned Stop → FuelState → FuelState → Option Spine → Option Spine → Type 0
UnfoldsBoth result old new made other =
    (b c : Blocker) → IsReplaced made b.replaced → IsReplaced other c.replaced → TurnsBy result old new (unfold_both b c)

-- by two blockers, and by what blocks each side, if anything
abbrev pub UnfoldsTwo : Result Turned Stop → FuelState → FuelState → Spine → Spine → Blocked → Blocked → Type 0
UnfoldsTwo result old new s r b c =
    (x y : Blocker) → IsBlocked (Some b) (Some x) → IsBlocked (Some c) (Some y) → TurnsBy result old new (delta_step (tree_of_spine s) (tree_of_spine r) (Some x) (Some y))

abbrev pub Unfolds : Result Turned Stop → FuelState → FuelState → Spine → Spine → Option Blocked → Option Blocked → Type 0
Unfolds result old new s r b c =
    (x y : Option Blocker) → IsBlocked b x → IsBlocked c y → TurnsBy result old new (delta_step (tree_of_spine s) (tree_of_spine r) x y)
