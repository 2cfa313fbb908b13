use Rattle.std.specs.Prelude.{◌≡◌, ℕ, ◌+◌, ◌*◌, ◌≤◌, ◌^◌, Ok, IsTrue}
use Rattle.core_term.specs.Tree.{Tree, size_of, depth_of, free_bound, IsNumbered, IsTerm, same_tree, erase_names}
use Rattle.core_term.specs.Places.{lift_of, subst_of, occurrences}
use Rattle.core_term.specs.Answers.{within_limits}

-- how room that is made twice comes together
pub record LiftsCommute : Type 0 where
  -- room for no variable changes nothing
  pub none : (t : Tree) (from : ℕ) → lift_of t 0 from ≡ t
  -- room made within room is more room
  pub within : (t : Tree) (m n f g : ℕ) → f ≤ g → g ≤ f + m → lift_of (lift_of t m f) n g ≡ lift_of t (m + n) f
  -- room at two places can be made in either order
  pub apart : (t : Tree) (m n f g : ℕ) → f ≤ g → lift_of (lift_of t n g) m f ≡ lift_of (lift_of t m f) n (g + m)

-- what is left alone: a term without the variables in question
pub record LeavesAlone : Type 0 where
  pub lift : (t : Tree) (by from : ℕ) → free_bound t ≤ from → lift_of t by from ≡ t
  pub subst : (t v : Tree) (at : ℕ) → free_bound t ≤ at → subst_of t v at ≡ t
  pub absent : (t v w : Tree) (at : ℕ) → occurrences t at ≡ 0 → subst_of t v at ≡ subst_of t w at

-- a value put in for the variable that a lift made room for gives the term back
abbrev pub SubstUndoesLift : Type 0
SubstUndoesLift = (t v : Tree) (at : ℕ) → subst_of (lift_of t 1 at) v at ≡ t

-- how room and substitutions come together
pub record SubstsCommute : Type 0 where
  -- a value put in within room that was made is lost, and the room is one less
  pub within : (t v : Tree) (n f at : ℕ) → f ≤ at → at ≤ f + n → subst_of (lift_of t (n + 1) f) v at ≡ lift_of t n f
  -- room made below the place
  pub below : (t v : Tree) (n f at : ℕ) → f ≤ at → lift_of (subst_of t v at) n f ≡ subst_of (lift_of t n f) (lift_of v n f) (at + n)
  -- room made above the place
  pub above : (t v : Tree) (n f at : ℕ) → at ≤ f → lift_of (subst_of t v at) n f ≡ subst_of (lift_of t n (f + 1)) (lift_of v n f) at
  -- two substitutions in the other order
  pub both : (t v w : Tree) (at after : ℕ) → at ≤ after →
      subst_of (subst_of t v at) w after ≡ subst_of (subst_of t (lift_of w 1 at) (after + 1)) (subst_of v w after) at

-- what a lift and a substitution do to size, depth and free variables
pub record KeepMeasures : Type 0 where
  pub lift_size : (t : Tree) (by from : ℕ) → size_of (lift_of t by from) ≡ size_of t
  pub lift_depth : (t : Tree) (by from : ℕ) → depth_of (lift_of t by from) ≡ depth_of t
  pub lift_bound : (t : Tree) (by from : ℕ) → free_bound (lift_of t by from) ≤ free_bound t + by
  -- so a lift is never too large
  pub lift_fits : (t : Tree) (by from : ℕ) → IsTerm t → within_limits (lift_of t by from) ≡ Ok (lift_of t by from)
  pub subst_size : (t v : Tree) (at : ℕ) → size_of (subst_of t v at) + occurrences t at ≡ size_of t + occurrences t at * size_of v
  pub subst_depth : (t v : Tree) (at : ℕ) → depth_of (subst_of t v at) ≤ depth_of t + depth_of v
  pub subst_bound : (t v : Tree) (at n : ℕ) → at ≤ n → free_bound t ≤ n + 1 → free_bound v ≤ n → free_bound (subst_of t v at) ≤ n

-- where the free variables are few, lift and subst may be called
pub record MayBeCalled : Type 0 where
  pub lift : (t : Tree) (by from n : ℕ) → free_bound t ≤ n → n + by + depth_of t ≤ 2 ^ 32 → IsNumbered (lift_of t by from)
  pub subst : (t v : Tree) (at n : ℕ) → at ≤ n → free_bound t ≤ n + 1 → free_bound v ≤ n → n + (depth_of t + depth_of v) ≤ 2 ^ 32 →
      IsNumbered (subst_of t v at)

-- two terms are equal where they are one term without their names, and names change nothing else
pub record NamesAside : Type 0 where
  pub equal : (t u : Tree) → IsTrue (same_tree t u) → erase_names t ≡ erase_names u
  pub same : (t u : Tree) → erase_names t ≡ erase_names u → IsTrue (same_tree t u)
  pub lift : (t : Tree) (by from : ℕ) → erase_names (lift_of t by from) ≡ lift_of (erase_names t) by from
  pub subst : (t v : Tree) (at : ℕ) → erase_names (subst_of t v at) ≡ subst_of (erase_names t) (erase_names v) at
  pub size : (t : Tree) → size_of (erase_names t) ≡ size_of t
  pub depth : (t : Tree) → depth_of (erase_names t) ≡ depth_of t
  pub bound : (t : Tree) → free_bound (erase_names t) ≡ free_bound t
