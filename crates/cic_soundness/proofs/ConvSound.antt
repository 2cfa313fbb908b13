-- Where conversion answers Yes, the terms are convertible, or the first is below the second.
use Rattle.std.specs.Prelude.{◌≡◌, ℕ, zero, suc, ◌==◌, nat_lt, List, [], ◌∷◌, length, Bool, true, false, Option, Some, None, if◌then◌else◌, refl}
use Rattle.std.proofs.Common.{arith, subst, ap, sym, ◌∙◌}
use Rattle.std.proofs.lemmas.Bool.Decides.{nat_tests}
use Rattle.base_core.specs.declared.refusals.Stop.TheVariants.{Out}
use Rattle.base_core.specs.declared.refusals.Limit.TheVariants.{DepthLimit}
use Rattle.core_term.specs.declared.sorts.Sort.{Sort}
use Rattle.core_term.specs.Tree.{Tree, Var, Sorted, Constant, Prod, Lam, LetIn, App, same_tree}
use Rattle.term_spine.specs.Spine.{head_of, arguments_of, apply_all, eta_body}
use Rattle.term_spine.proofs.SpineFacts.{whole_applied}
use Rattle.cic_rules.specs.declared.context.Hyp.{Hyp}
use Rattle.cic_rules.specs.declared.env.Slot.{Slot}
use Rattle.cic_rules.specs.declared.judge.Mode.{Mode}
use Rattle.cic_rules.specs.declared.judge.Mode.TheVariants.{Same, Below}
use Rattle.cic_rules.specs.Contexts.{plain_hyp}
use Rattle.cic_rules.specs.Environments.{body_of_global}
use Rattle.cic_rules.specs.Families.{Family, major_index, value_among, major_premise, eliminator_of, replace_major}
use Rattle.cic_rules.specs.Derive.{Conv, Refl, Sym, Trans, InProduct, InLambda, Delta, Eta, Equal, Sorts, Codomains, CumulTrans}
use Rattle.cic_rules.specs.Runs.{Run, ◌>>=◌, pure, spend, check_size, Turn, Final, GoOn}
use Rattle.cic_rules.specs.Reduce.{whnf_at}
use Rattle.cic_rules.specs.Convert.{compare_cost, sorts_fit, Blocker, Sides, put_back, blocker_by, blocker_at, unfold_left, unfold_right, unfold_both, unfold_later, delta_step, is_neutral, unblock, conv_all, conv_spines, conv_heads, conv_binders, conv_eta, conv_reduced, conv_step, compare, conv_at}
use Rattle.cic_rules.specs.Laws.{Tells, Turned}
use Rattle.cic_rules.proofs.TellsLaws.{tells_pure, tells_stop, tells_bind, tells_step, tells_if, tells_within, tells_loop}
use Rattle.cic_soundness.specs.Laws.{Fits, ConversionIsSound}
use Rattle.cic_soundness.proofs.ConvLaws.{AreConv, End, Next, one_sort, same_conv, conv_apply_all, replace_conv, same_args}
use Rattle.cic_soundness.proofs.ReduceSound.{reduction_is_sound}

never : {A : Type 0} → false ≡ true → A
never e = cc

-- what is told of each value, told with less
pub tells_less : {A : Type 0} {f : Run A} {P Q : A → Type 0} → Tells f P → ((x : A) → P x → Q x) → Tells f Q
tells_less first less = record { tells = λ left x e. less x (first.tells left x e) }

-- what fits
fits_conv : (env : List Slot) (ctx : List Hyp) (mode : Mode) (t u : Tree) → Conv env ctx t u → Fits env ctx mode t u
unfolding Fits
fits_conv env ctx Same t u h = h
fits_conv env ctx Below t u h = Equal h

fits_same : (env : List Slot) (ctx : List Hyp) (t u : Tree) → Fits env ctx Same t u → Conv env ctx t u
unfolding Fits
fits_same env ctx t u h = h

fits_sorts : (env : List Slot) (ctx : List Hyp) (mode : Mode) (s r : Sort) → sorts_fit mode s r ≡ true → Fits env ctx mode (Sorted s) (Sorted r)
unfolding Fits
fits_sorts env ctx Same s r e = subst (λ x. Conv env ctx (Sorted s) (Sorted x)) (one_sort s r e) (Refl ctx (Sorted s))
fits_sorts env ctx Below s r e = Sorts ctx s r e

fits_product : (env : List Slot) (ctx : List Hyp) (mode : Mode) (n m : List ℕ) (a b c d : Tree) → Conv env ctx a c → Fits env (plain_hyp n a ∷ ctx) mode b d →
    Fits env ctx mode (Prod n a b) (Prod m c d)
unfolding Fits
fits_product env ctx Same n m a b c d h k = InProduct n m h k
fits_product env ctx Below n m a b c d h k = Codomains n m h k

fits_through : (env : List Slot) (ctx : List Hyp) (mode : Mode) (t u v w : Tree) → Conv env ctx t v → Conv env ctx u w → Fits env ctx mode v w → Fits env ctx mode t u
unfolding Fits
fits_through env ctx Same t u v w h k f = Trans h (Trans f (Sym k))
fits_through env ctx Below t u v w h k f = CumulTrans (Equal h) (CumulTrans f (Equal (Sym k)))

-- a side with its blocker replaced
IsReplaced : List Slot → List Hyp → Tree → Option Blocker → Type 0
IsReplaced env ctx t None = Unit {0}
IsReplaced env ctx t (Some b) = Conv env ctx t b.replaced

-- the sides of a turn, and its answer
Moves : List Slot → List Hyp → Tree → Tree → Sides → Type 0
Moves env ctx t u s = Conv env ctx t s.0 × Conv env ctx u s.1

Decides : List Slot → List Hyp → Mode → Tree → Tree → Bool → Type 0
Decides env ctx mode t u answer = answer ≡ true → Fits env ctx mode t u

abbrev body_of_head : List Slot → Tree → Option Tree
body_of_head env (Constant c) = body_of_global env c
body_of_head env t = None

module _ (env : List Slot) (ctx : List Hyp) where
  no_decision : (mode : Mode) (t u : Tree) → Decides env ctx mode t u false
  unfolding Decides
  no_decision mode t u = λ e. never e

  decision : (mode : Mode) (t u : Tree) (answer : Bool) → (answer ≡ true → Fits env ctx mode t u) → Decides env ctx mode t u answer
  unfolding Decides
  decision mode t u answer h = h

  moved : (t u v w : Tree) → Conv env ctx t v → Conv env ctx u w → Moves env ctx t u (v, w)
  unfolding Moves
  moved t u v w h k = (h, k)

  whole : (t u : Tree) → Conv env ctx (apply_all (head_of t) (arguments_of t)) u → Conv env ctx t u
  whole t u h = subst (λ x. Conv env ctx x u) (whole_applied t) h

  put_back_is : (t major value : Tree) (found : Option Family) (b : Option Blocker) → value_among (arguments_of t) found ≡ Some major → Conv env ctx major value →
      IsReplaced env ctx value b → IsReplaced env ctx t (put_back t found b)
  unfolding IsReplaced
  put_back_is t major value None b e h k = tt
  put_back_is t major value (Some f) None e h k = tt
  put_back_is t major value (Some f) (Some b) e h k =
      whole t (apply_all (head_of t) (replace_major (arguments_of t) (major_index f.decl) b.replaced))
      (conv_apply_all env ctx (head_of t) (head_of t) (arguments_of t) (replace_major (arguments_of t) (major_index f.decl) b.replaced) (Refl ctx (head_of t))
      (replace_conv env ctx (arguments_of t) (major_index f.decl) major b.replaced e (Trans h k)))

  module _ (head : Tree → Run Tree) (heads : (t : Tree) → Tells (head t) (λ u. Conv env ctx t u)) where
    abbrev on_major : (Tree → Run (Option Blocker)) → Tree → Tree → Tree → Run (Option Blocker)
    on_major inner t h major = head major >>= (λ value. inner value >>= (λ b. pure (put_back t (eliminator_of env h) b)))

    on_major_tells : (inner : Tree → Run (Option Blocker)) → ((v : Tree) → Tells (inner v) (IsReplaced env ctx v)) → (t h major : Tree) →
        major_premise env h (arguments_of t) ≡ Some major → Tells (on_major inner t h major) (IsReplaced env ctx t)
    on_major_tells inner inners t h major e =
        tells_bind (heads major) (λ value conv. tells_bind (inners value) (λ b k. tells_pure (put_back t (eliminator_of env h) b)
        (put_back_is t major value (eliminator_of env h) b e conv k)))

    no_blocker : (t : Tree) → IsReplaced env ctx t None
    unfolding IsReplaced
    no_blocker t = tt

    head_blocker : (t body : Tree) (c : ℕ) → head_of t ≡ Constant c → body_of_global env c ≡ Some body →
        IsReplaced env ctx t (Some (record { place = c; replaced = apply_all body (arguments_of t) }))
    unfolding IsReplaced
    head_blocker t body c is e =
        whole t (apply_all body (arguments_of t)) (conv_apply_all env ctx (head_of t) body (arguments_of t) (arguments_of t)
        (subst (λ x. Conv env ctx x body) (sym is) (Delta ctx c body e)) (same_args env ctx (arguments_of t)))

    by_tells : (inner : Tree → Run (Option Blocker)) → ((v : Tree) → Tells (inner v) (IsReplaced env ctx v)) → (t h : Tree) (body major : Option Tree) →
        head_of t ≡ h → body_of_head env h ≡ body → major_premise env h (arguments_of t) ≡ major → Tells (blocker_by env head inner t h body major) (IsReplaced env ctx t)
    by_tells inner inners t (Constant c) (Some body) major is e m = tells_pure (Some (record { place = c; replaced = apply_all body (arguments_of t) })) (head_blocker t body c is e)
    by_tells inner inners t (Constant c) None (Some major) is e m = on_major_tells inner inners t (Constant c) major m
    by_tells inner inners t (Var i) None (Some major) is e m = on_major_tells inner inners t (Var i) major m
    by_tells inner inners t (Sorted s) None (Some major) is e m = on_major_tells inner inners t (Sorted s) major m
    by_tells inner inners t (Prod n a b) None (Some major) is e m = on_major_tells inner inners t (Prod n a b) major m
    by_tells inner inners t (Lam n a b) None (Some major) is e m = on_major_tells inner inners t (Lam n a b) major m
    by_tells inner inners t (LetIn n a v b) None (Some major) is e m = on_major_tells inner inners t (LetIn n a v b) major m
    by_tells inner inners t (App f a) None (Some major) is e m = on_major_tells inner inners t (App f a) major m
    by_tells inner inners t h _ _ is e m = tells_pure None (no_blocker t)

    blocker_tells : (majors : ℕ) (t : Tree) → Tells (blocker_at env head majors t) (IsReplaced env ctx t)
    unfolding blocker_at
    blocker_tells zero t = tells_stop (Out DepthLimit)
    blocker_tells (suc majors) t =
        by_tells (blocker_at env head majors) (blocker_tells majors) t (head_of t) (body_of_head env (head_of t)) (major_premise env (head_of t) (arguments_of t)) refl refl refl

  module _ (mode : Mode) (t u : Tree) where
    abbrev Turns : Turn Sides Bool → Type 0
    Turns x = Turned (Moves env ctx t u) (Decides env ctx mode t u) x

    left_tells : (b : Blocker) (w : Tree) → Conv env ctx t b.replaced → Conv env ctx u w → Tells (unfold_left b w) Turns
    left_tells b w h k = tells_step (spend 1) (tells_step (check_size b.replaced) (tells_pure (GoOn (b.replaced, w)) (moved t u b.replaced w h k)))

    right_tells : (v : Tree) (c : Blocker) → Conv env ctx t v → Conv env ctx u c.replaced → Tells (unfold_right v c) Turns
    right_tells v c h k = tells_step (spend 1) (tells_step (check_size c.replaced) (tells_pure (GoOn (v, c.replaced)) (moved t u v c.replaced h k)))

    both_tells : (b c : Blocker) → Conv env ctx t b.replaced → Conv env ctx u c.replaced → Tells (unfold_both b c) Turns
    both_tells b c h k = tells_step (spend 1) (tells_step (check_size b.replaced) (right_tells b.replaced c h k))

    later_tells : (b c : Blocker) → Conv env ctx t b.replaced → Conv env ctx u c.replaced → Tells (unfold_later t u b c) Turns
    later_tells b c h k = tells_if (nat_lt c.place b.place) (λ e. left_tells b u h (Refl ctx u)) (λ e. right_tells t c (Refl ctx t) k)

    delta_tells : (b c : Option Blocker) → IsReplaced env ctx t b → IsReplaced env ctx u c → Tells (delta_step t u b c) Turns
    unfolding IsReplaced
    delta_tells None None h k = tells_pure (Final false) (no_decision mode t u)
    delta_tells (Some b) None h k = left_tells b u h (Refl ctx u)
    delta_tells None (Some c) h k = right_tells t c (Refl ctx t) k
    delta_tells (Some b) (Some c) h k = tells_if (b.place == c.place) (λ e. both_tells b c h k) (λ e. later_tells b c h k)

-- sides that were reached from others
through : (env : List Slot) (ctx : List Hyp) (mode : Mode) (t u v w : Tree) → Conv env ctx t v → Conv env ctx u w → (x : Turn Sides Bool) →
    Turned (Moves env ctx v w) (Decides env ctx mode v w) x → Turned (Moves env ctx t u) (Decides env ctx mode t u) x
unfolding Moves Decides
through env ctx mode t u v w h k (Final answer) d = λ e. fits_through env ctx mode t u v w h k (d e)
through env ctx mode t u v w h k (GoOn s) d = (Trans h d.0, Trans k d.1)

-- an answer, and what it decides
ends_with : (env : List Slot) (ctx : List Hyp) (mode : Mode) (t u : Tree) (run : Run Bool) (P : Bool → Type 0) → Tells run P →
    ((answer : Bool) → P answer → answer ≡ true → Fits env ctx mode t u) →
    Tells (run >>= (λ answer. pure (Final answer))) (Turned (Moves env ctx t u) (Decides env ctx mode t u))
ends_with env ctx mode t u run P first h = tells_bind first (λ answer k. tells_pure (Final answer) (decision env ctx mode t u answer (h answer k)))

module _ (env : List Slot) (calls : ℕ) (head : List Hyp → Tree → Run Tree) (conv : List Hyp → Mode → Tree → Tree → Run Bool)
    (heads : (ctx : List Hyp) (t : Tree) → Tells (head ctx t) (λ u. Conv env ctx t u))
    (convs : (ctx : List Hyp) (mode : Mode) (t u : Tree) → Tells (conv ctx mode t u) (λ answer. answer ≡ true → Fits env ctx mode t u)) where
  unblock_tells : (ctx : List Hyp) (mode : Mode) (t u : Tree) → Tells (unblock env calls head conv ctx t u) (Turns env ctx mode t u)
  unblock_tells ctx mode t u =
      tells_bind (blocker_tells env ctx (head ctx) (heads ctx) calls t) (λ b h. tells_bind (blocker_tells env ctx (head ctx) (heads ctx) calls u)
      (λ c k. delta_tells env ctx mode t u b c h k))

  all_tells : (ctx : List Hyp) (ts us : List Tree) → length ts ≡ length us → Tells (conv_all env calls head conv ctx ts us) (λ answer. answer ≡ true → AreConv env ctx ts us)
  all_tells ctx [] [] e = tells_pure true (λ k. End)
  all_tells ctx [] (u ∷ us) e = let none : ⊥ = omega (arith, e) in absurd none
  all_tells ctx (t ∷ ts) [] e = let none : ⊥ = omega (arith, e) in absurd none
  all_tells ctx (t ∷ ts) (u ∷ us) e =
      tells_bind (convs ctx Same t u) (λ same h. tells_if same
      (λ k. tells_less (all_tells ctx ts us (omega (arith, e))) (λ answer rest is. Next (fits_same env ctx t u (h k)) (rest is)))
      (λ k. tells_pure false (λ is. never is)))

  spines_tells : (ctx : List Hyp) (mode : Mode) (t u : Tree) → Conv env ctx (head_of t) (head_of u) → Tells (conv_spines env calls head conv ctx t u) (Turns env ctx mode t u)
  spines_tells ctx mode t u h =
      tells_if (length (arguments_of t) == length (arguments_of u))
      (λ e. tells_bind (all_tells ctx (arguments_of t) (arguments_of u) (grind (arith, nat_tests, e))) (λ same k. tells_if same
      (λ is. tells_pure (Final true) (decision env ctx mode t u true (λ one. fits_conv env ctx mode t u (spine_conv (k is)))))
      (λ is. unblock_tells ctx mode t u)))
      (λ e. unblock_tells ctx mode t u) where
        spine_conv : AreConv env ctx (arguments_of t) (arguments_of u) → Conv env ctx t u
        spine_conv all =
            whole env ctx t u (subst (λ x. Conv env ctx (apply_all (head_of t) (arguments_of t)) x) (whole_applied u)
            (conv_apply_all env ctx (head_of t) (head_of u) (arguments_of t) (arguments_of u) h all))

  heads_tells : (ctx : List Hyp) (mode : Mode) (t u h k : Tree) → head_of t ≡ h → head_of u ≡ k → Tells (conv_heads env calls head conv ctx t u h k) (Turns env ctx mode t u)
  heads_tells ctx mode t u (Var i) (Var j) e f =
      tells_if (i == j) (λ is. spines_tells ctx mode t u (one_head (Var i) (Var j) e f (ap Var (grind (arith, nat_tests, is))))) (λ is. unblock_tells ctx mode t u) where
        one_head : (h k : Tree) → head_of t ≡ h → head_of u ≡ k → h ≡ k → Conv env ctx (head_of t) (head_of u)
        one_head h k e f is = subst (λ x. Conv env ctx (head_of t) x) (e ∙ is ∙ sym f) (Refl ctx (head_of t))
  heads_tells ctx mode t u (Constant c) (Constant d) e f =
      tells_if (c == d) (λ is. spines_tells ctx mode t u (one_head (Constant c) (Constant d) e f (ap Constant (grind (arith, nat_tests, is))))) (λ is. unblock_tells ctx mode t u) where
        one_head : (h k : Tree) → head_of t ≡ h → head_of u ≡ k → h ≡ k → Conv env ctx (head_of t) (head_of u)
        one_head h k e f is = subst (λ x. Conv env ctx (head_of t) x) (e ∙ is ∙ sym f) (Refl ctx (head_of t))
  heads_tells ctx mode t u _ _ e f = unblock_tells ctx mode t u

  -- two binders
  record Under (ctx : List Hyp) (mode : Mode) (n : List ℕ) (a b c d : Tree) : Type 0 where
    domain : Conv env ctx a c
    body : Fits env (plain_hyp n a ∷ ctx) mode b d

  binders_tells : (ctx : List Hyp) (mode inner_mode : Mode) (t u : Tree) (n : List ℕ) (a b c d : Tree) → (Under ctx inner_mode n a b c d → Fits env ctx mode t u) →
      Tells (conv_binders env calls head conv ctx inner_mode n a b c d) (Turns env ctx mode t u)
  binders_tells ctx mode inner_mode t u n a b c d fits =
      tells_bind (convs ctx Same a c) (λ same h. tells_if same
      (λ k. tells_within ctx (plain_hyp n a) _ (ends_with env ctx mode t u (conv (plain_hyp n a ∷ ctx) inner_mode b d) _ (convs (plain_hyp n a ∷ ctx) inner_mode b d)
      (λ answer f is. fits (record { domain = fits_same env ctx a c (h k); body = f is }))))
      (λ k. tells_pure (Final false) (no_decision env ctx mode t u)))

  eta_tells : (ctx : List Hyp) (mode : Mode) (t u : Tree) (n : List ℕ) (a applied l r : Tree) → (Conv env (plain_hyp n a ∷ ctx) l r → Conv env ctx t u) →
      Tells (conv_eta env calls head conv ctx n a applied l r) (Turns env ctx mode t u)
  eta_tells ctx mode t u n a applied l r fits =
      tells_step (spend 1) (tells_within ctx (plain_hyp n a) _ (tells_step (check_size applied)
      (ends_with env ctx mode t u (conv (plain_hyp n a ∷ ctx) Same l r) _ (convs (plain_hyp n a ∷ ctx) Same l r)
      (λ answer f is. fits_conv env ctx mode t u (fits (fits_same env (plain_hyp n a ∷ ctx) l r (f is)))))))

  left_eta : (ctx : List Hyp) (mode : Mode) (n : List ℕ) (a b u : Tree) →
      Tells (if is_neutral u then conv_eta env calls head conv ctx n a (eta_body u) b (eta_body u) else unblock env calls head conv ctx (Lam n a b) u) (Turns env ctx mode (Lam n a b) u)
  left_eta ctx mode n a b u =
      tells_if (is_neutral u) (λ e. eta_tells ctx mode (Lam n a b) u n a (eta_body u) b (eta_body u) (λ h. Trans (InLambda n n (Refl ctx a) h) (Eta ctx n a u)))
      (λ e. unblock_tells ctx mode (Lam n a b) u)

  right_eta : (ctx : List Hyp) (mode : Mode) (t : Tree) (m : List ℕ) (c d : Tree) →
      Tells (if is_neutral t then conv_eta env calls head conv ctx m c (eta_body t) (eta_body t) d else unblock env calls head conv ctx t (Lam m c d)) (Turns env ctx mode t (Lam m c d))
  right_eta ctx mode t m c d =
      tells_if (is_neutral t) (λ e. eta_tells ctx mode t (Lam m c d) m c (eta_body t) (eta_body t) d (λ h. Trans (Sym (Eta ctx m c t)) (InLambda m m (Refl ctx c) h)))
      (λ e. unblock_tells ctx mode t (Lam m c d))

  sorts_tells : (ctx : List Hyp) (mode : Mode) (s r : Sort) → Tells (pure (Final (sorts_fit mode s r))) (Turns env ctx mode (Sorted s) (Sorted r))
  sorts_tells ctx mode s r = tells_pure (Final (sorts_fit mode s r)) (decision env ctx mode (Sorted s) (Sorted r) (sorts_fit mode s r) (fits_sorts env ctx mode s r))

  reduced_tells : (ctx : List Hyp) (mode : Mode) (t u : Tree) → Tells (conv_reduced env calls head conv ctx mode t u) (Turns env ctx mode t u)
  reduced_tells ctx mode (Sorted s) (Sorted r) = sorts_tells ctx mode s r
  reduced_tells ctx mode (Prod n a b) (Prod m c d) =
      binders_tells ctx mode mode (Prod n a b) (Prod m c d) n a b c d (λ h. fits_product env ctx mode n m a b c d h.domain h.body)
  reduced_tells ctx mode (Lam n a b) (Lam m c d) =
      binders_tells ctx mode Same (Lam n a b) (Lam m c d) n a b c d
      (λ h. fits_conv env ctx mode (Lam n a b) (Lam m c d) (InLambda n m h.domain (fits_same env (plain_hyp n a ∷ ctx) b d h.body)))
  reduced_tells ctx mode (Lam n a b) u = left_eta ctx mode n a b u
  reduced_tells ctx mode t (Lam m c d) = right_eta ctx mode t m c d
  reduced_tells ctx mode t u = heads_tells ctx mode t u (head_of t) (head_of u) refl refl

  step_tells : (ctx : List Hyp) (mode : Mode) (t u : Tree) (s : Sides) → Moves env ctx t u s → Tells (conv_step env calls head conv ctx mode s) (Turns env ctx mode t u)
  unfolding Moves
  step_tells ctx mode t u s h =
      tells_bind (heads ctx s.0) (λ v one. tells_bind (heads ctx s.1) (λ w two.
      tells_less (reduced_tells ctx mode v w) (through env ctx mode t u v w (Trans h.0 one) (Trans h.1 two))))

  decided : (ctx : List Hyp) (mode : Mode) (t u : Tree) (answer : Bool) → Decides env ctx mode t u answer → answer ≡ true → Fits env ctx mode t u
  unfolding Decides
  decided ctx mode t u answer h = h

  compare_tells : (ctx : List Hyp) (mode : Mode) (t u : Tree) → Tells (compare env calls head conv ctx mode t u) (λ answer. answer ≡ true → Fits env ctx mode t u)
  compare_tells ctx mode t u =
      tells_if (same_tree t u) (λ e. tells_pure true (λ is. fits_conv env ctx mode t u (same_conv env ctx t u e)))
      (λ e. tells_less (tells_loop (Moves env ctx t u) (Decides env ctx mode t u) (conv_step env calls head conv ctx mode)
      (λ s h. step_tells ctx mode t u s h) (t, u) (moved env ctx t u t u (Refl ctx t) (Refl ctx u)))
      (λ answer h. decided ctx mode t u answer h))

conv_tells : (env : List Slot) (calls : ℕ) (ctx : List Hyp) (mode : Mode) (t u : Tree) → Tells (conv_at env calls ctx mode t u) (λ answer. answer ≡ true → Fits env ctx mode t u)
unfolding conv_at
conv_tells env zero ctx mode t u = tells_stop (Out DepthLimit)
conv_tells env (suc calls) ctx mode t u =
    tells_step (spend (compare_cost t u))
    (compare_tells env calls (whnf_at env false calls) (conv_at env calls) (λ c v. reduction_is_sound env false calls c v) (λ c m v w. conv_tells env calls c m v w) ctx mode t u)

pub conversion_is_sound : ConversionIsSound
conversion_is_sound env calls ctx mode t u = conv_tells env calls ctx mode t u
