-- Contexts with the hypotheses that binders make.
use Rattle.std.proofs.Common.{◌≡◌, ℕ, suc, ◌+◌, ◌-◌, ◌^◌, ◌≤◌, nat_lt, List, [], ◌∷◌, length, Bool, true, false, Result, Ok, Err, refl, ap, sym, subst, ◌∙◌, arith}
use Rattle.std.specs.Prelude.{if◌then◌else◌}
use Rattle.base_core.specs.declared.refusals.Stop.{Stop}
use Rattle.base_core.specs.declared.refusals.Stop.TheVariants.{Out}
use Rattle.base_core.specs.declared.refusals.Limit.TheVariants.{SizeLimit}
use Rattle.coq_syntax.specs.declared.words.BoundName.{BoundName}
use Rattle.core_term.specs.Tree.{Tree, IsTerm, IsNumbered, free_bound}
use Rattle.core_term.specs.Places.{lift_of}
use Rattle.core_term.specs.Answers.{within_limits}
use Rattle.core_term.proofs.Bounds.{bounded-lifted}
use Rattle.core_term.proofs.FreeVariables.{numbered-lifted, free_bound-lifted}
use Rattle.cic_rules.specs.declared.context.Hyp.{Hyp}
use Rattle.cic_rules.specs.declared.env.Slot.{Slot}
use Rattle.cic_rules.specs.Contexts.{extended, plain_hyp, defined_hyp, IsHypAt}
use Rattle.cic_rules.specs.Scopes.{IsScopedHyp, IsScopedContext}
use Rattle.cic_rules.specs.Judges.{MayJudge, IsTermIn}
use Rattle.cic_rules.proofs.ScopeLaws.{scoped_free, scoped_lift}
use Rattle.elaborator.specs.Names.{bound_name}
use Rattle.elaborator.specs.Parts.{then_open, opened}

-- a type, and a definition with its type, may stand in front of the context
pub plain_fits : (env : List Slot) (ctx : List Hyp) (name : List ℕ) (ty : Tree) (h : Hyp) → h ≡ plain_hyp name ty → IsTermIn env ctx ty → IsHypAt (length ctx) h
plain_fits env ctx name ty h e is =
    let there : IsHypAt (length ctx) (plain_hyp name ty) = record { ty = scoped_free (length ctx) (length env) ty is; value = tt } in
    rw e there

pub defined_fits : (env : List Slot) (ctx : List Hyp) (name : List ℕ) (ty value : Tree) (h : Hyp) → h ≡ defined_hyp name ty value → IsTermIn env ctx ty →
    IsTermIn env ctx value → IsHypAt (length ctx) h
defined_fits env ctx name ty value h e one two =
    let there : IsHypAt (length ctx) (defined_hyp name ty value) =
    record { ty = scoped_free (length ctx) (length env) ty one; value = scoped_free (length ctx) (length env) value two } in
    rw e there

extended_by : (b : Bool) (ctx inner : List Hyp) (h : Hyp) → (if b then Ok (h ∷ ctx) else Err (Out SizeLimit)) ≡ Ok inner → h ∷ ctx ≡ inner
extended_by true ctx inner h e = cc
extended_by false ctx inner h e = cc

-- an extended context has the hypothesis in front
pub extended_is : (ctx inner : List Hyp) (h : Hyp) → extended ctx h ≡ Ok inner → h ∷ ctx ≡ inner
extended_is ctx inner h e = extended_by (nat_lt (length ctx) (2 ^ 31)) ctx inner h e

more_judged : (env : List Slot) (ctx inner : List Hyp) (h : Hyp) → MayJudge env ctx → IsScopedHyp (length ctx) (length env) h → extended ctx h ≡ Ok inner →
    MayJudge env inner
more_judged env ctx inner h is one e =
    let there : MayJudge env (h ∷ ctx) = record { scoped = (one, is.scoped) } in
    subst (λ c. MayJudge env c) (extended_is ctx inner h e) there

pub under_judged : (env : List Slot) (ctx inner : List Hyp) (name : List ℕ) (ty : Tree) → MayJudge env ctx → IsTermIn env ctx ty →
    Ok inner ≡ extended ctx (plain_hyp name ty) → MayJudge env inner
under_judged env ctx inner name ty is one e = more_judged env ctx inner (plain_hyp name ty) is (record { ty = one; value = tt }) (sym e)

pub define_judged : (env : List Slot) (ctx inner : List Hyp) (name : List ℕ) (ty value : Tree) → MayJudge env ctx → IsTermIn env ctx ty →
    IsTermIn env ctx value → Ok inner ≡ extended ctx (defined_hyp name ty value) → MayJudge env inner
define_judged env ctx inner name ty value is one two e = more_judged env ctx inner (defined_hyp name ty value) is (record { ty = one; value = two }) (sym e)

opens_by : (answer : Result (List Hyp) Stop) (rest : List Hyp → Result (List Hyp) Stop) (P : List Hyp → Type 0) (all : List Hyp) →
    ((inner : List Hyp) → answer ≡ Ok inner → rest inner ≡ Ok all → P all) → then_open answer rest ≡ Ok all → P all
opens_by (Ok inner) rest P all holds e = holds inner refl e
opens_by (Err stop) rest P all holds e = absurd (cc)

-- opened from a context
pub record IsGrown (env : List Slot) (ctx inner : List Hyp) : Type 0 where
  pub judged : MayJudge env inner
  pub longer : length ctx ≤ length inner

opened_more : (env : List Slot) (outer ctx all : List Hyp) (ty : Tree) (k : ℕ) (names : List BoundName) → length ctx ≡ length outer + k →
    MayJudge env ctx → IsTermIn env outer ty → opened ctx ty k names ≡ Ok all → IsGrown env outer all
opened_more env outer ctx all ty k [] count is one e =
    let same : ctx ≡ all = cc in
    let there : IsGrown env outer ctx = record { judged = is; longer = omega (arith, count) } in
    subst (λ c. IsGrown env outer c) same there
opened_more env outer ctx all ty k (n ∷ ns) count is one e =
    opens_by (extended ctx (plain_hyp (bound_name n) (lift_of ty k 0))) (λ inner. opened inner ty (suc k) ns) (λ c. IsGrown env outer c) all
    (λ inner first rest.
    let there : IsTermIn env ctx (lift_of ty k 0) = scoped_lift (length outer) (length ctx) (length env) k 0 ty count one in
    let longer : length inner ≡ length outer + suc k =
    sym (ap length (extended_is ctx inner (plain_hyp (bound_name n) (lift_of ty k 0)) first)) ∙ omega (arith, count) in
    opened_more env outer inner all ty (suc k) ns longer
    (more_judged env ctx inner (plain_hyp (bound_name n) (lift_of ty k 0)) is (record { ty = there; value = tt }) first) one rest) e

-- the names of a type that stands in the context
pub opened_judged : (env : List Slot) (ctx inner : List Hyp) (ty : Tree) (names : List BoundName) → MayJudge env ctx → IsTermIn env ctx ty →
    Ok inner ≡ opened ctx ty 0 names → MayJudge env inner
opened_judged env ctx inner ty names is one e = (opened_more env ctx ctx inner ty 0 names (omega arith) is one (sym e)).judged

pub opened_grown : (env : List Slot) (ctx inner : List Hyp) (ty : Tree) (names : List BoundName) → IsScopedContext (length env) ctx → IsTermIn env ctx ty →
    opened ctx ty 0 names ≡ Ok inner → IsScopedContext (length env) inner × (length ctx ≤ length inner)
opened_grown env ctx inner ty names hyps one e =
    let grown : IsGrown env ctx inner = opened_more env ctx ctx inner ty 0 names (omega arith) (record { scoped = hyps }) one e in
    (grown.judged.scoped, grown.longer)

pub scoped_bound : (env : List Slot) (ctx : List Hyp) (ty : Tree) → IsTermIn env ctx ty → free_bound ty ≤ length ctx
scoped_bound env ctx ty is = scoped_free (length ctx) (length env) ty is

-- a type of the oldest hypotheses, lifted over the others
pub lifted_in : (outer : ℕ) (inner : List Hyp) (name : List ℕ) (ty lifted : Tree) → free_bound ty ≤ outer → outer ≤ length inner →
    lifted ≡ lift_of ty (length inner - outer) 0 → IsHypAt (length inner) (plain_hyp name lifted)
lifted_in outer inner name ty lifted fits within e =
    let bound : free_bound (lift_of ty (length inner - outer) 0) ≤ free_bound ty + (length inner - outer) = free_bound-lifted ty (length inner - outer) 0 in
    let there : free_bound lifted ≤ length inner = rw e (omega (arith, bound, fits, within)) in
    record { ty = there; value = tt }

-- a term that is lifted over few binders
pub lift_numbered : (t : Tree) (by : ℕ) → IsTerm t → free_bound t + by ≤ 2 ^ 31 → IsNumbered (lift_of t by 0)
lift_numbered t by is bound = numbered-lifted t by 0 (free_bound t) (omega arith) (omega (arith, is.shallow, bound))

pub lift_fits : (t : Tree) (by : ℕ) → IsTerm t → within_limits (lift_of t by 0) ≡ Ok (lift_of t by 0)
lift_fits t by is = bounded-lifted t by 0 is
