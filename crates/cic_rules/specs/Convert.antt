-- Conversion, by its four steps.
use Rattle.std.specs.Prelude.{ℕ, zero, suc, ◌==◌, nat_lt, List, ◌∷◌, length, Bool, true, false, Option, Some, None, if◌then◌else◌}
use Rattle.base_core.specs.declared.refusals.Limit.TheVariants.{DepthLimit}
use Rattle.core_term.specs.declared.sorts.Sort.{Sort}
use Rattle.core_term.specs.Sorts.{sort_below}
use Rattle.core_term.specs.Tree.{Tree, Var, Sorted, Constant, Prod, Lam, size_of, same_sort, same_tree}
use Rattle.term_spine.specs.Spine.{head_of, arguments_of, apply_all, eta_body}
use Rattle.cic_rules.specs.declared.context.Hyp.{Hyp}
use Rattle.cic_rules.specs.declared.env.Slot.{Slot}
use Rattle.cic_rules.specs.declared.judge.Mode.{Mode}
use Rattle.cic_rules.specs.declared.judge.Mode.TheVariants.{Same, Below}
use Rattle.cic_rules.specs.Contexts.{extended, plain_hyp}
use Rattle.cic_rules.specs.Environments.{body_of_global}
use Rattle.cic_rules.specs.Families.{Family, major_premise, eliminator_of, replace_major, major_index}
use Rattle.cic_rules.specs.Reduce.{whnf_at}
use Rattle.cic_rules.specs.Runs.{Run, ◌>>=◌, ◌>>◌, give, pure, out_of, spend, check_size, Turn, Final, GoOn, runs}

-- what it costs to compare two trees
abbrev pub compare_cost : Tree → Tree → ℕ
compare_cost t u = if size_of t == size_of u then size_of t else 1

-- two sorts in a mode
abbrev pub sorts_fit : Mode → Sort → Sort → Bool
sorts_fit Same s r = same_sort s r
sorts_fit Below s r = sort_below s r

-- the constant that keeps a side from going on, and the side with that constant's body in its place
pub record Blocker : Type 0 where
  pub place : ℕ
  pub replaced : Tree

-- two sides, and what a turn of the loop gives for them
abbrev pub Sides : Type 0
Sides = Tree × Tree

-- the context with one more hypothesis, where it has room
abbrev pub with_hyp : List Hyp → Hyp → Run (List Hyp)
with_hyp ctx h = give (extended ctx h)

-- a side with what its eliminator's major premise became
abbrev pub put_back : Tree → Option Family → Option Blocker → Option Blocker
put_back t (Some f) (Some b) =
    Some (record { place = b.place; replaced = apply_all (head_of t) (replace_major (arguments_of t) (major_index f.decl) b.replaced) })
put_back t _ _ = None

-- blockers, over the reduction of a major premise that leaves delta out
module _ (env : List Slot) (head : Tree → Run Tree) where
  abbrev pub blocker_by : (Tree → Run (Option Blocker)) → Tree → Tree → Option Tree → Option Tree → Run (Option Blocker)
  blocker_by inner t (Constant c) (Some body) major = pure (Some (record { place = c; replaced = apply_all body (arguments_of t) }))
  blocker_by inner t h None (Some major) = do
    value ← head major
    b ← inner value
    pure (put_back t (eliminator_of env h) b)
  blocker_by inner t h _ _ = pure None

  abbrev body_of_head : Tree → Option Tree
  body_of_head (Constant c) = body_of_global env c
  body_of_head t = None

  -- the blocker of a side, through so many major premises in one another: its head where that is a transparent definition, or for
  -- an eliminator with all its arguments the blocker of its major premise's head
  unfoldable pub blocker_at : ℕ → Tree → Run (Option Blocker)
  blocker_at zero t = out_of DepthLimit
  blocker_at (suc majors) t =
      blocker_by (blocker_at majors) t (head_of t) (body_of_head (head_of t)) (major_premise env (head_of t) (arguments_of t))

-- the sides go on, with a unit for each blocker that its body replaces
abbrev pub unfold_left : Blocker → Tree → Run (Turn Sides Bool)
unfold_left b u = do
  spend 1
  check_size b.replaced
  pure (GoOn (b.replaced, u))

abbrev pub unfold_right : Tree → Blocker → Run (Turn Sides Bool)
unfold_right t c = do
  spend 1
  check_size c.replaced
  pure (GoOn (t, c.replaced))

-- the same constant blocks both sides: both are replaced, the left one first
abbrev pub unfold_both : Blocker → Blocker → Run (Turn Sides Bool)
unfold_both b c = do
  spend 1
  check_size b.replaced
  unfold_right b.replaced c

-- the side whose blocker was declared later is replaced
abbrev pub unfold_later : Tree → Tree → Blocker → Blocker → Run (Turn Sides Bool)
unfold_later t u b c = if nat_lt c.place b.place then unfold_left b u else unfold_right t c

-- without a blocker the answer is No
abbrev pub delta_step : Tree → Tree → Option Blocker → Option Blocker → Run (Turn Sides Bool)
delta_step t u None None = pure (Final false)
delta_step t u (Some b) None = unfold_left b u
delta_step t u None (Some c) = unfold_right t c
delta_step t u (Some b) (Some c) = if b.place == c.place then unfold_both b c else unfold_later t u b c

-- what eta may apply: neither a sort nor a product nor an abstraction
abbrev pub is_neutral : Tree → Bool
is_neutral (Sorted s) = false
is_neutral (Prod n a b) = false
is_neutral (Lam n a b) = false
is_neutral _ = true

-- one turn, over the judgements that it calls: weak head reduction without delta, and conversion
module _ (env : List Slot) (calls : ℕ) (head : List Hyp → Tree → Run Tree) (conv : List Hyp → Mode → Tree → Tree → Run Bool) where
  -- the blockers of both sides, the left one's first
  abbrev pub unblock : List Hyp → Tree → Tree → Run (Turn Sides Bool)
  unblock ctx t u = do
    b ← blocker_at env (head ctx) calls t
    c ← blocker_at env (head ctx) calls u
    delta_step t u b c

  -- arguments from the left, up to the first No
  abbrev pub conv_all : List Hyp → List Tree → List Tree → Run Bool
  conv_all ctx (t ∷ ts) (u ∷ us) = do
    same ← conv ctx Same t u
    if same then conv_all ctx ts us else pure false
  conv_all ctx _ _ = pure true

  -- one head, a variable or a global: with equally many arguments these may decide
  abbrev pub conv_spines : List Hyp → Tree → Tree → Run (Turn Sides Bool)
  conv_spines ctx t u =
      if length (arguments_of t) == length (arguments_of u)
      then (do
        same ← conv_all ctx (arguments_of t) (arguments_of u)
        if same then pure (Final true) else unblock ctx t u)
      else unblock ctx t u

  abbrev pub conv_heads : List Hyp → Tree → Tree → Tree → Tree → Run (Turn Sides Bool)
  conv_heads ctx t u (Var i) (Var j) = if i == j then conv_spines ctx t u else unblock ctx t u
  conv_heads ctx t u (Constant c) (Constant d) = if c == d then conv_spines ctx t u else unblock ctx t u
  conv_heads ctx t u _ _ = unblock ctx t u

  -- what stands under two binders that have one type, by a mode
  abbrev pub conv_binders : List Hyp → Mode → List ℕ → Tree → Tree → Tree → Tree → Run (Turn Sides Bool)
  conv_binders ctx mode n a b c d = do
    same ← conv ctx Same a c
    if same then (do
      inner ← with_hyp ctx (plain_hyp n a)
      answer ← conv inner mode b d
      pure (Final answer)) else pure (Final false)

  -- eta, for one unit: the body of an abstraction and the other side applied to its variable, each on its own side
  abbrev pub conv_eta : List Hyp → List ℕ → Tree → Tree → Tree → Tree → Run (Turn Sides Bool)
  conv_eta ctx n a applied left_side right_side = do
    spend 1
    inner ← with_hyp ctx (plain_hyp n a)
    check_size applied
    answer ← conv inner Same left_side right_side
    pure (Final answer)

  -- two sides whose heads were reached
  abbrev pub conv_reduced : List Hyp → Mode → Tree → Tree → Run (Turn Sides Bool)
  conv_reduced ctx mode (Sorted s) (Sorted r) = pure (Final (sorts_fit mode s r))
  conv_reduced ctx mode (Prod n a b) (Prod m c d) = conv_binders ctx mode n a b c d
  conv_reduced ctx mode (Lam n a b) (Lam m c d) = conv_binders ctx Same n a b c d
  conv_reduced ctx mode (Lam n a b) u =
      if is_neutral u then conv_eta ctx n a (eta_body u) b (eta_body u) else unblock ctx (Lam n a b) u
  conv_reduced ctx mode t (Lam m c d) =
      if is_neutral t then conv_eta ctx m c (eta_body t) (eta_body t) d else unblock ctx t (Lam m c d)
  conv_reduced ctx mode t u = conv_heads ctx t u (head_of t) (head_of u)

  -- one turn of the loop: the heads of both sides, the left one's first, and what they tell
  abbrev pub conv_step : List Hyp → Mode → Sides → Run (Turn Sides Bool)
  conv_step ctx mode sides = do
    t ← head ctx sides.0
    u ← head ctx sides.1
    conv_reduced ctx mode t u

  -- trees that are one, names aside, need no turn
  abbrev pub compare : List Hyp → Mode → Tree → Tree → Run Bool
  compare ctx mode t u = if same_tree t u then pure true else runs (conv_step ctx mode) (t, u)

module _ (env : List Slot) where
  -- conversion; so many more judgements may stand in one another
  unfoldable pub conv_at : ℕ → List Hyp → Mode → Tree → Tree → Run Bool
  conv_at zero ctx mode t u = out_of DepthLimit
  conv_at (suc calls) ctx mode t u = do
    spend (compare_cost t u)
    compare env calls (whnf_at env false calls) (conv_at calls) ctx mode t u
