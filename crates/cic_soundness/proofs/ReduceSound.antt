-- Weak head reduction gives a term that is convertible.
use Rattle.std.specs.Prelude.{◌≡◌, ℕ, zero, suc, List, ◌∷◌, Bool, true, false, Option, Some, None, if◌then◌else◌, refl}
use Rattle.std.proofs.Common.{subst, sym}
use Rattle.base_core.specs.declared.refusals.Stop.TheVariants.{Out}
use Rattle.base_core.specs.declared.refusals.Limit.TheVariants.{DepthLimit}
use Rattle.core_term.specs.Tree.{Tree, Var, Constant, Lam, LetIn, App}
use Rattle.core_term.specs.Places.{subst_of}
use Rattle.term_spine.specs.Spine.{head_of, arguments_of, apply_all}
use Rattle.term_spine.proofs.SpineFacts.{whole_applied}
use Rattle.cic_rules.specs.declared.context.Hyp.{Hyp}
use Rattle.cic_rules.specs.declared.env.Slot.{Slot}
use Rattle.cic_rules.specs.Contexts.{value_of_variable}
use Rattle.cic_rules.specs.Environments.{body_of_global}
use Rattle.cic_rules.specs.Families.{replace_major, major_premise, iota}
use Rattle.cic_rules.specs.Derive.{Conv, Refl, Trans, Beta, Zeta, OfContext, Delta, Iota}
use Rattle.cic_rules.specs.Runs.{Run, spend, check_size, Final, GoOn}
use Rattle.cic_rules.specs.Reduce.{Redex, Stuck, Reduces, OnMajor, unfolded, global_redex, redex_of, contract, contract_iota, reduce_redex, reduce_step, whnf_at}
use Rattle.cic_rules.specs.Laws.{Tells, Turned}
use Rattle.cic_rules.proofs.TellsLaws.{tells_pure, tells_stop, tells_bind, tells_step, tells_loop}
use Rattle.cic_soundness.specs.Laws.{ReductionIsSound}
use Rattle.cic_soundness.proofs.ConvLaws.{conv_apply_all, replace_conv, same_args}
use Rattle.cic_soundness.proofs.IotaLaws.{iota_replaced}

-- a value of an eliminator with all its arguments
record IsMajor (env : List Slot) (h : Tree) (args : List Tree) (major : Tree) : Type 0 where
  global : ℕ
  is : h ≡ Constant global
  premise : major_premise env h args ≡ Some major

-- what a head does is a step of conversion
IsStep : List Slot → List Hyp → Tree → List Tree → Redex → Type 0
IsStep env ctx h args Stuck = Unit {0}
IsStep env ctx h args (Reduces units to) = Conv env ctx (apply_all h args) to
IsStep env ctx h args (OnMajor major) = IsMajor env h args major

module _ (env : List Slot) (ctx : List Hyp) where
  unfolded_step : (h : Tree) (args : List Tree) (body : Option Tree) → ((b : Tree) → body ≡ Some b → Conv env ctx h b) → IsStep env ctx h args (unfolded body args)
  unfolding IsStep
  unfolded_step h args None unfolds = tt
  unfolded_step h args (Some b) unfolds = conv_apply_all env ctx h b args args (unfolds b refl) (same_args env ctx args)

  global_step : (c : ℕ) (args : List Tree) (body major : Option Tree) → ((b : Tree) → body ≡ Some b → Conv env ctx (Constant c) b) →
      major_premise env (Constant c) args ≡ major → IsStep env ctx (Constant c) args (global_redex body major args)
  unfolding IsStep
  global_step c args (Some b) major unfolds is = conv_apply_all env ctx (Constant c) b args args (unfolds b refl) (same_args env ctx args)
  global_step c args None (Some major) unfolds is = record { global = c; is = refl; premise = is }
  global_step c args None None unfolds is = tt

  delta_body : (delta : Bool) (c : ℕ) (b : Tree) → (if delta then body_of_global env c else None) ≡ Some b → Conv env ctx (Constant c) b
  delta_body true c b e = Delta ctx c b e
  delta_body false c b e = cc

  redex_step : (delta : Bool) (h : Tree) (args : List Tree) → IsStep env ctx h args (redex_of env delta ctx h args)
  unfolding IsStep
  redex_step delta (Lam n a b) (v ∷ args) = conv_apply_all env ctx (App (Lam n a b) v) (subst_of b v 0) args args (Beta ctx n a b v) (same_args env ctx args)
  redex_step delta (LetIn n a t b) args = conv_apply_all env ctx (LetIn n a t b) (subst_of b t 0) args args (Zeta ctx n a t b) (same_args env ctx args)
  redex_step delta (Var i) args = unfolded_step (Var i) args (value_of_variable ctx i) (λ b e. OfContext ctx i b e)
  redex_step delta (Constant c) args =
      global_step c args (if delta then body_of_global env c else None) (major_premise env (Constant c) args) (delta_body delta c) refl
  redex_step delta _ args = tt

  -- an eliminator and what its value is convertible to
  iota_conv : (h : Tree) (args : List Tree) (major value to : Tree) → IsMajor env h args major → Conv env ctx major value → iota env h args value ≡ Some to →
      Conv env ctx (apply_all h args) to
  iota_conv h args major value to m conv e =
      let r = iota_replaced env h args major value m.premise in
      let moved : Conv env ctx (apply_all h args) (apply_all h (replace_major args r.at value)) =
      conv_apply_all env ctx h h args (replace_major args r.at value) (Refl ctx h) (replace_conv env ctx args r.at major value r.there conv) in
      let premise : major_premise env (Constant m.global) (replace_major args r.at value) ≡ Some value =
      subst (λ x. major_premise env x (replace_major args r.at value) ≡ Some value) m.is r.premise in
      let gives : iota env (Constant m.global) (replace_major args r.at value) value ≡ Some to =
      subst (λ x. iota env x (replace_major args r.at value) value ≡ Some to) m.is (r.gives to e) in
      let last : Conv env ctx (apply_all h (replace_major args r.at value)) to =
      subst (λ x. Conv env ctx (apply_all x (replace_major args r.at value)) to) (sym m.is)
      (Iota ctx m.global (replace_major args r.at value) value to premise gives) in
      Trans moved last

  whole : (t u : Tree) → Conv env ctx (apply_all (head_of t) (arguments_of t)) u → Conv env ctx t u
  whole t u h = subst (λ x. Conv env ctx x u) (whole_applied t) h

  module _ (delta : Bool) (from : Tree) where
    abbrev Reached : Tree → Type 0
    Reached t = Conv env ctx from t

    contract_tells : (units : ℕ) (to : Tree) → Reached to → Tells (contract units to) (Turned Reached Reached)
    contract_tells units to h = tells_step (spend units) (tells_step (check_size to) (tells_pure (GoOn to) h))

    iota_tells : (t : Tree) (found : Option Tree) → Reached t → ((to : Tree) → found ≡ Some to → Conv env ctx t to) →
        Tells (contract_iota t found) (Turned Reached Reached)
    iota_tells t None h gives = tells_pure (Final t) h
    iota_tells t (Some to) h gives = contract_tells 1 to (Trans h (gives to refl))

    redex_tells : (reduce : Tree → Run Tree) → ((v : Tree) → Tells (reduce v) (λ w. Conv env ctx v w)) → (t : Tree) (redex : Redex) → Reached t →
        IsStep env ctx (head_of t) (arguments_of t) redex → Tells (reduce_redex env delta reduce t redex) (Turned Reached Reached)
    unfolding IsStep
    redex_tells reduce reduces t Stuck h k = tells_pure (Final t) h
    redex_tells reduce reduces t (Reduces units to) h k = contract_tells units to (Trans h (whole t to k))
    redex_tells reduce reduces t (OnMajor major) h k =
        tells_bind (reduces major) (λ value conv. iota_tells t (iota env (head_of t) (arguments_of t) value) h
        (λ to e. whole t to (iota_conv (head_of t) (arguments_of t) major value to k conv e)))

    step_tells : (reduce : Tree → Run Tree) → ((v : Tree) → Tells (reduce v) (λ w. Conv env ctx v w)) → (t : Tree) → Reached t →
        Tells (reduce_step env delta reduce ctx t) (Turned Reached Reached)
    step_tells reduce reduces t h =
        redex_tells reduce reduces t (redex_of env delta ctx (head_of t) (arguments_of t)) h (redex_step delta (head_of t) (arguments_of t))

  whnf_tells : (delta : Bool) (calls : ℕ) (t : Tree) → Tells (whnf_at env delta calls ctx t) (λ u. Conv env ctx t u)
  unfolding whnf_at
  whnf_tells delta zero t = tells_stop (Out DepthLimit)
  whnf_tells delta (suc calls) t =
      tells_loop (λ u. Conv env ctx t u) (λ u. Conv env ctx t u) (reduce_step env delta (whnf_at env delta calls ctx) ctx)
      (λ s h. step_tells delta t (whnf_at env delta calls ctx) (whnf_tells delta calls) s h) t (Refl ctx t)

pub reduction_is_sound : ReductionIsSound
reduction_is_sound env delta calls ctx t = whnf_tells env ctx delta calls t
