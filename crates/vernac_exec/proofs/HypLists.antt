-- Hypotheses from the oldest on: those that a proof begins with, and those that are shown.
use Rattle.std.specs.Prelude.{◌≡◌, ℕ, zero, suc, ◌+◌, ◌-◌, ◌≤◌, List, [], ◌∷◌, length, drop, Some, slice_get}
use Rattle.std.proofs.Common.{refl, ap, sym, subst, ◌∙◌, arith}
use Rattle.prover_iface.specs.declared.goals.HypView.{HypView}
use Rattle.core_term.specs.Tree.{Tree}
use Rattle.cic_rules.specs.declared.context.Hyp.{Hyp}
use Rattle.cic_rules.specs.declared.env.Slot.{Slot}
use Rattle.cic_rules.specs.Contexts.{IsIn, IsHypAt, AreHyps, IsContext, AreParams}
use Rattle.cic_rules.specs.Eliminators.{argument_name}
use Rattle.cic_rules.specs.Judges.{MayJudge, IsTermIn}
use Rattle.cic_rules.specs.Scopes.{IsScoped, IsScopedHyp, IsScopedContext}
use Rattle.cic_rules.proofs.ScopeLaws.{scoped_free}
use Rattle.fresh_names.specs.Shown.{with_shown, shown_names}
use Rattle.proof_state.specs.Scopes.{HaveGoalsIn}
use Rattle.proof_state.specs.Steps.{started}
use Rattle.vernac_exec.specs.Commands.{named_hyp, named_hyps}
use Rattle.vernac_exec.specs.Views.{with_hyp_view, hyp_views}

pub from_place : {A : Type 0} (xs : List A) (i : ℕ) (x : A) → Some x ≡ slice_get xs i → drop i xs ≡ x ∷ drop (i + 1) xs
from_place [] i x e = cc
from_place (y ∷ ys) zero x e = let same : y ≡ x = cc in ap (λ z. z ∷ ys) same
from_place (y ∷ ys) (suc i) x e = let k : suc i + 1 ≡ suc (i + 1) = omega arith in rw k (from_place ys i x e)

-- one hypothesis more, the next older one
next : (ctx : List Hyp) (at : ℕ) (h : Hyp) → 1 ≤ at → Some h ≡ slice_get ctx (at - 1) → drop (at - 1) ctx ≡ h ∷ drop at ctx
next ctx at h some found =
    let back : at - 1 + 1 ≡ at = omega (arith, some) in
    from_place ctx (at - 1) h found ∙ ap (λ n. h ∷ drop n ctx) back

hyps_from : (ctx : List Hyp) (n : ℕ) → AreHyps ctx → AreHyps (drop n ctx)
hyps_from [] zero all = tt
hyps_from [] (suc n) all = tt
hyps_from (h ∷ hs) zero all = all
hyps_from (h ∷ hs) (suc n) all = hyps_from hs n all.1

-- a hypothesis may stand behind those that are older
stands_behind : (ctx older : List Hyp) (at : ℕ) (h : Hyp) → 1 ≤ at → Some h ≡ slice_get ctx (at - 1) → IsContext ctx →
    length older ≡ length (drop at ctx) → IsHypAt (length older) h
stands_behind ctx older at h some found context same =
    let all : AreHyps (h ∷ drop at ctx) = subst AreHyps (next ctx at h some found) (hyps_from ctx (at - 1) context.hyps) in
    subst (λ n. IsHypAt n h) (sym same) all.0

-- names for those without one

pub named_length : (env : List Slot) (hs : List Hyp) → length (named_hyps env hs) ≡ length hs
named_length env [] = refl
named_length env (h ∷ hs) = ap suc (named_length env hs)

pub named_plain : (env : List Slot) (hs : List Hyp) → AreParams hs → AreParams (named_hyps env hs)
named_plain env [] plain = tt
named_plain env (h ∷ hs) plain = (plain.0, named_plain env hs plain.1)

pub named_stands : (env : List Slot) (ctx hyps : List Hyp) (at : ℕ) (h : Hyp) → 1 ≤ at → Some h ≡ slice_get ctx (at - 1) → IsContext ctx →
    hyps ≡ named_hyps env (drop at ctx) → IsHypAt (length hyps) h
named_stands env ctx hyps at h some found context old =
    stands_behind ctx hyps at h some found context (ap length old ∙ named_length env (drop at ctx))

pub shown_stands : (ctx older : List Hyp) (at : ℕ) (h : Hyp) → 1 ≤ at → Some h ≡ slice_get ctx (at - 1) → IsContext ctx → older ≡ drop at ctx →
    IsHypAt (length older) h
shown_stands ctx older at h some found context old = stands_behind ctx older at h some found context (ap length old)

named_scoped : (n : ℕ) (env : List Slot) (hs : List Hyp) → IsScopedContext n hs → IsScopedContext n (named_hyps env hs)
named_scoped n env [] scoped = tt
named_scoped n env (h ∷ hs) scoped =
    let name : List ℕ = argument_name env (shown_names (named_hyps env hs)) h.name h.ty in
    let here : IsScopedHyp (length hs) n (named_hyp h name) = record { ty = scoped.0.ty; value = scoped.0.value } in
    (subst (λ k. IsScopedHyp k n (named_hyp h name)) (sym (named_length env hs)) here, named_scoped n env hs scoped.1)

statement_in : (env : List Slot) (hs : List Hyp) (t : Tree) → IsTermIn env hs t → IsTermIn env (named_hyps env hs) t
statement_in env hs t inside = subst (λ n. IsScoped n (length env) t) (sym (named_length env hs)) inside

pub statement_free : (env : List Slot) (hs : List Hyp) (t : Tree) → IsTermIn env hs t → IsIn (length (named_hyps env hs)) t
statement_free env hs t inside = scoped_free (length (named_hyps env hs)) (length env) t (statement_in env hs t inside)

pub begins_in : (env : List Slot) (hs : List Hyp) (t : Tree) → MayJudge env hs → IsTermIn env hs t →
    HaveGoalsIn env (started (named_hyps env hs) t).goals
begins_in env hs t judged inside =
    let scoped : MayJudge env (named_hyps env hs) = record { scoped = named_scoped (length env) env hs judged.scoped } in
    (record { judged = scoped; ty = statement_in env hs t inside }, tt)

named_more : (env : List Slot) (hs hyps more : List Hyp) (names : List (List ℕ)) (h : Hyp) (name : List ℕ) →
    hyps ≡ named_hyps env hs → names ≡ shown_names hyps → name ≡ argument_name env names h.name h.ty → more ≡ named_hyp h name ∷ hyps →
    more ≡ named_hyps env (h ∷ hs)
named_more env hs hyps more names h name old told own made =
    made ∙ ap (λ n. named_hyp h n ∷ hyps) own ∙ ap (λ ns. named_hyp h (argument_name env ns h.name h.ty) ∷ hyps) told
    ∙ ap (λ xs. named_hyp h (argument_name env (shown_names xs) h.name h.ty) ∷ xs) old

pub one_hyp_more : (env : List Slot) (ctx hyps more : List Hyp) (names later : List (List ℕ)) (at : ℕ) (h : Hyp) (name : List ℕ) → 1 ≤ at →
    Some h ≡ slice_get ctx (at - 1) → hyps ≡ named_hyps env (drop at ctx) → names ≡ shown_names hyps →
    name ≡ argument_name env names h.name h.ty → later ≡ with_shown name names → more ≡ named_hyp h name ∷ hyps →
    at ≤ length ctx → (more ≡ named_hyps env (drop (at - 1) ctx)) × (later ≡ shown_names more) × (at - 1 ≤ length ctx)
one_hyp_more env ctx hyps more names later at h name some found old told own taken made within = (
  named_more env (drop at ctx) hyps more names h name old told own made ∙ ap (named_hyps env) (sym (next ctx at h some found)),
  taken ∙ ap (with_shown name) told ∙ ap shown_names (sym made),
  omega (arith, within),
)

-- those that are shown

pub one_hyp_shown : (env : List Slot) (ctx older later : List Hyp) (views more : List HypView) (at : ℕ) (h : Hyp) → 1 ≤ at →
    Some h ≡ slice_get ctx (at - 1) → older ≡ drop at ctx → views ≡ hyp_views env (drop at ctx) → more ≡ with_hyp_view env older h views →
    later ≡ named_hyp h h.name ∷ older → at ≤ length ctx →
    (later ≡ drop (at - 1) ctx) × (more ≡ hyp_views env (drop (at - 1) ctx)) × (at - 1 ≤ length ctx)
one_hyp_shown env ctx older later views more at h some found old told shown made within = (
  made ∙ ap (λ xs. h ∷ xs) old ∙ sym (next ctx at h some found),
  shown ∙ ap (with_hyp_view env older h) told ∙ ap (λ xs. with_hyp_view env xs h (hyp_views env (drop at ctx))) old
      ∙ ap (hyp_views env) (sym (next ctx at h some found)),
  omega (arith, within),
)
