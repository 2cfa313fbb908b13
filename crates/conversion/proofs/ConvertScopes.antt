-- A turn of conversion keeps both sides in scope.
use Rattle.std.specs.Prelude.{◌≡◌, ℕ, zero, suc, ◌==◌, nat_lt, List, [], ◌∷◌, length, Bool, true, false, Option, Some, None, refl}
use Rattle.base_core.specs.declared.refusals.Stop.TheVariants.{Out}
use Rattle.base_core.specs.declared.refusals.Limit.TheVariants.{DepthLimit}
use Rattle.core_term.specs.Tree.{Tree, Var, Sorted, Constant, Prod, Lam}
use Rattle.term_spine.specs.Spine.{head_of, arguments_of, eta_body}
use Rattle.cic_rules.specs.declared.context.Hyp.{Hyp}
use Rattle.cic_rules.specs.declared.env.Slot.{Slot}
use Rattle.cic_rules.specs.declared.judge.Mode.{Mode}
use Rattle.cic_rules.specs.declared.judge.Mode.TheVariants.{Same}
use Rattle.cic_rules.specs.Contexts.{plain_hyp}
use Rattle.cic_rules.specs.Environments.{IsEnvironment, body_of_global}
use Rattle.cic_rules.specs.Families.{Family, eliminator_of, major_premise, value_among, major_index, replace_major}
use Rattle.cic_rules.specs.Convert as rules
use Rattle.cic_rules.specs.Convert.{Blocker, put_back, blocker_by, blocker_at, unfold_left, unfold_right, unfold_both, unfold_later, delta_step, unblock, conv_all, conv_spines, conv_heads, conv_binders, conv_eta, conv_reduced, conv_step, sorts_fit, is_neutral, with_hyp}
use Rattle.cic_rules.specs.Runs.{Run, ◌>>=◌, pure, spend, check_size, Turn, Final, GoOn}
use Rattle.cic_rules.specs.Scopes.{IsScoped, AreScoped}
use Rattle.cic_rules.specs.Laws.{Tells, Turned}
use Rattle.cic_rules.proofs.TellsLaws.{tells_pure, tells_stop, tells_bind, tells_step, tells_if}
use Rattle.cic_rules.proofs.ScopeLaws.{scoped_get, scoped_head, scoped_arguments, scoped_apply_all}
use Rattle.cic_rules.proofs.EnvironmentScopes.{body_scoped}

replaced_scoped : (n m : ℕ) (args : List Tree) (at : ℕ) (v : Tree) → AreScoped n m args → IsScoped n m v → AreScoped n m (replace_major args at v)
replaced_scoped n m [] at v h k = tt
replaced_scoped n m (a ∷ more) zero v h k = (k, h.1)
replaced_scoped n m (a ∷ more) (suc at) v h k = (h.0, replaced_scoped n m more at v h.1 k)

-- what is not asked of a run
any_value : {A : Type 0} (run : Run A) → Tells run (λ x. Unit {0})
any_value run = record { tells = λ left x e. tt }

module _ (env : List Slot) (ctx : List Hyp) where
  abbrev InScope : Tree → Type 0
  InScope t = IsScoped (length ctx) (length env) t

  abbrev ScopedBlocker : Option Blocker → Type 0
  ScopedBlocker None = Unit {0}
  ScopedBlocker (Some b) = InScope b.replaced

  abbrev pub ScopedSides : rules.Sides → Type 0
  ScopedSides sides = InScope sides.0 × InScope sides.1

  abbrev Ends : Turn rules.Sides Bool → Type 0
  Ends x = Turned ScopedSides (λ b. Unit {0}) x

  back_scoped : (t : Tree) (f : Option Family) (b : Option Blocker) → InScope t → ScopedBlocker b → ScopedBlocker (put_back t f b)
  back_scoped t (Some f) (Some b) h k =
      scoped_apply_all (length ctx) (length env) (head_of t) (replace_major (arguments_of t) (major_index f.decl) b.replaced)
      (scoped_head (length ctx) (length env) t h)
      (replaced_scoped (length ctx) (length env) (arguments_of t) (major_index f.decl) b.replaced (scoped_arguments (length ctx) (length env) t h) k)
  back_scoped t (Some f) None h k = tt
  back_scoped t None b h k = tt

  among : (args : List Tree) (f : Option Family) (major : Tree) → AreScoped (length ctx) (length env) args → value_among args f ≡ Some major → InScope major
  among args None major all e = cc
  among args (Some f) major all e = scoped_get (length ctx) (length env) (major_index f.decl) args major e all

  module _ (is : IsEnvironment env) (head : Tree → Run Tree) (heads : (t : Tree) → InScope t → Tells (head t) InScope) where
    by_tells : (inner : Tree → Run (Option Blocker)) → ((t : Tree) → InScope t → Tells (inner t) ScopedBlocker) → (t h : Tree) (body major : Option Tree) →
        ((b : Tree) → body ≡ Some b → InScope b) → ((v : Tree) → major ≡ Some v → InScope v) → InScope t →
        Tells (blocker_by env head inner t h body major) ScopedBlocker
    by_tells inner inners t (Constant c) (Some body) major bodies majors good =
        tells_pure _ (scoped_apply_all (length ctx) (length env) body (arguments_of t) (bodies body refl) (scoped_arguments (length ctx) (length env) t good))
    by_tells inner inners t h None (Some major) bodies majors good =
        tells_bind (heads major (majors major refl)) (λ value k. tells_bind (inners value k) (λ b j. tells_pure _ (back_scoped t (eliminator_of env h) b good j)))
    by_tells inner inners t h _ _ bodies majors good = tells_pure None tt

    abbrev body_of_head : Tree → Option Tree
    body_of_head (Constant c) = body_of_global env c
    body_of_head t = None

    body_by : (h b : Tree) → body_of_head h ≡ Some b → InScope b
    body_by (Constant c) b e = body_scoped env is (length ctx) c b e
    body_by _ b e = cc

    blocker_tells : (majors : ℕ) (t : Tree) → InScope t → Tells (blocker_at env head majors t) ScopedBlocker
    unfolding blocker_at
    blocker_tells zero t good = tells_stop (Out DepthLimit)
    blocker_tells (suc majors) t good =
        by_tells (blocker_at env head majors) (blocker_tells majors) t (head_of t) _ (major_premise env (head_of t) (arguments_of t))
        (λ b e. body_by (head_of t) b e)
        (λ v e. among (arguments_of t) (eliminator_of env (head_of t)) v (scoped_arguments (length ctx) (length env) t good) e) good

  left_tells : (b : Blocker) (u : Tree) → InScope b.replaced → InScope u → Tells (unfold_left b u) Ends
  left_tells b u h k = tells_step (spend 1) (tells_step (check_size b.replaced) (tells_pure (GoOn (b.replaced, u)) (h, k)))

  right_tells : (t : Tree) (c : Blocker) → InScope t → InScope c.replaced → Tells (unfold_right t c) Ends
  right_tells t c h k = tells_step (spend 1) (tells_step (check_size c.replaced) (tells_pure (GoOn (t, c.replaced)) (h, k)))

  both_tells : (b c : Blocker) → InScope b.replaced → InScope c.replaced → Tells (unfold_both b c) Ends
  both_tells b c h k = tells_step (spend 1) (tells_step (check_size b.replaced) (right_tells b.replaced c h k))

  delta_tells : (t u : Tree) (b c : Option Blocker) → InScope t → InScope u → ScopedBlocker b → ScopedBlocker c → Tells (delta_step t u b c) Ends
  delta_tells t u None None h k i j = tells_pure (Final false) tt
  delta_tells t u (Some b) None h k i j = left_tells b u i k
  delta_tells t u None (Some c) h k i j = right_tells t c h j
  delta_tells t u (Some b) (Some c) h k i j =
      tells_if (b.place == c.place) (λ e. both_tells b c i j) (λ e. tells_if (nat_lt c.place b.place) (λ d. left_tells b u i k) (λ d. right_tells t c h j))

  module _ (is : IsEnvironment env) (calls : ℕ) (head : List Hyp → Tree → Run Tree) (conv : List Hyp → Mode → Tree → Tree → Run Bool)
      (heads : (t : Tree) → InScope t → Tells (head ctx t) InScope) where
    unblock_tells : (t u : Tree) → InScope t → InScope u → Tells (unblock env calls head conv ctx t u) Ends
    unblock_tells t u h k =
        tells_bind (blocker_tells is (head ctx) heads calls t h) (λ b i. tells_bind (blocker_tells is (head ctx) heads calls u k) (λ c j. delta_tells t u b c h k i j))

    final_tells : (run : Run Bool) → Tells (run >>= λ answer. pure (Final answer)) Ends
    final_tells run = tells_bind {P = λ x. Unit {0}} (any_value run) (λ x h. tells_pure (Final x) tt)

    spines_tells : (t u : Tree) → InScope t → InScope u → Tells (conv_spines env calls head conv ctx t u) Ends
    spines_tells t u h k =
        tells_if (length (arguments_of t) == length (arguments_of u))
        (λ e. tells_bind {P = λ x. Unit {0}} (any_value (conv_all env calls head conv ctx (arguments_of t) (arguments_of u)))
        (λ same i. tells_if same (λ d. tells_pure (Final true) tt) (λ d. unblock_tells t u h k)))
        (λ e. unblock_tells t u h k)

    heads_tells : (t u g f : Tree) → InScope t → InScope u → Tells (conv_heads env calls head conv ctx t u g f) Ends
    heads_tells t u (Var i) (Var j) h k = tells_if (i == j) (λ e. spines_tells t u h k) (λ e. unblock_tells t u h k)
    heads_tells t u (Constant c) (Constant d) h k = tells_if (c == d) (λ e. spines_tells t u h k) (λ e. unblock_tells t u h k)
    heads_tells t u _ _ h k = unblock_tells t u h k

    binders_tells : (mode : Mode) (n : List ℕ) (a b c d : Tree) → Tells (conv_binders env calls head conv ctx mode n a b c d) Ends
    binders_tells mode n a b c d =
        tells_bind {P = λ x. Unit {0}} (any_value (conv ctx Same a c)) (λ same h. tells_if same
        (λ e. tells_bind {P = λ x. Unit {0}} (any_value (with_hyp ctx (plain_hyp n a))) (λ inner i. final_tells (conv inner mode b d)))
        (λ e. tells_pure (Final false) tt))

    eta_tells : (n : List ℕ) (a applied ls rs : Tree) → Tells (conv_eta env calls head conv ctx n a applied ls rs) Ends
    eta_tells n a applied ls rs =
        tells_step (spend 1) (tells_bind {P = λ x. Unit {0}} (any_value (with_hyp ctx (plain_hyp n a)))
        (λ inner i. tells_step (check_size applied) (final_tells (conv inner Same ls rs))))

    reduced_tells : (mode : Mode) (t u : Tree) → InScope t → InScope u → Tells (conv_reduced env calls head conv ctx mode t u) Ends
    reduced_tells mode (Sorted s) (Sorted r) h k = tells_pure (Final (sorts_fit mode s r)) tt
    reduced_tells mode (Prod n a b) (Prod m c d) h k = binders_tells mode n a b c d
    reduced_tells mode (Lam n a b) (Lam m c d) h k = binders_tells Same n a b c d
    reduced_tells mode (Lam n a b) u h k = tells_if (is_neutral u) (λ e. eta_tells n a (eta_body u) b (eta_body u)) (λ e. unblock_tells (Lam n a b) u h k)
    reduced_tells mode t (Lam m c d) h k = tells_if (is_neutral t) (λ e. eta_tells m c (eta_body t) (eta_body t) d) (λ e. unblock_tells t (Lam m c d) h k)
    reduced_tells mode t u h k = heads_tells t u (head_of t) (head_of u) h k

    pub turn_tells : (mode : Mode) (sides : rules.Sides) → ScopedSides sides →
        Tells (conv_step env calls head conv ctx mode sides) (λ x. Turned (λ s. IsScoped (length ctx) (length env) s.0 × IsScoped (length ctx) (length env) s.1) (λ b. Unit {0}) x)
    turn_tells mode sides h =
        tells_bind (heads sides.0 h.0) (λ t i. tells_bind (heads sides.1 h.1) (λ u j. reduced_tells mode t u i j))
