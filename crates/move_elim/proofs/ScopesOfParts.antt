-- What an elimination puts together is in scope: the subject, the claim, each case and the whole.
use Rattle.std.specs.Prelude.{◌≡◌, ℕ, zero, suc, ◌+◌, ◌-◌, ◌==◌, ◌≤◌, ◌<◌, List, [], ◌∷◌, ◌++◌, length, Option, Some, None, Ok, Bool, true, false, slice_get, slice_set, if◌then◌else◌, refl}
use Rattle.std.proofs.Common.{arith, ap, sym, ◌∙◌, subst}
use Rattle.core_term.specs.Tree.{Tree, Var, Sorted, Constant, Prod, Lam, LetIn, App}
use Rattle.core_term.specs.Places.{lift_of}
use Rattle.cic_rules.specs.declared.context.Hyp.{Hyp}
use Rattle.cic_rules.specs.declared.decls.InductiveDecl.{InductiveDecl}
use Rattle.cic_rules.specs.declared.env.Slot.{Slot}
use Rattle.cic_rules.specs.Contexts.{renamed, plain_hyp, defined_hyp, lifted_type, type_of_variable, value_of_variable}
use Rattle.cic_rules.specs.Eliminators.{is_in_prop, WILDCARD}
use Rattle.cic_rules.specs.Families.{indices}
use Rattle.cic_rules.specs.Judges.{MayJudge, IsTermIn}
use Rattle.cic_rules.specs.Scopes.{IsScoped, IsScopedHyp, IsScopedContext, IsScopedIfAny, AreBefore}
use Rattle.cic_rules.specs.Steps.{Step, ◌>>=◌}
use Rattle.cic_rules.proofs.EnvironmentScopes.{variable_scoped, value_scoped}
use Rattle.proof_state.specs.declared.goals.Goal.{Goal}
use Rattle.proof_state.specs.Partial.{Partial, Ready, Hole, Abstracts, Defines, Applies}
use Rattle.proof_state.specs.Scopes.{IsSketchIn}
use Rattle.proof_state.specs.Steps.{unnamed, unnamed_hyp}
use Rattle.move_elim.specs.declared.sites.Site.{Site}
use Rattle.move_elim.specs.declared.subjects.Subject.{Subject}
use Rattle.move_elim.specs.Cases.{hole, over_binder, behind_hyp, introduced}
use Rattle.move_elim.specs.Claims.{bound_variables, claim_site, claim_with, claim_of}
use Rattle.move_elim.specs.Elimination.{hidden, plain_places, with_variables}
use Rattle.move_elim.specs.Generalised.{under_value, placed_if_any, under_hyp, generalised, marked_from}
use Rattle.move_elim.specs.Scopes.{Has, IsClaimIn}
use Rattle.move_elim.specs.Sites.{placed, own_site, stand_for, stand_for_all}
use Rattle.move_elim.specs.Steps.{entered}
use Rattle.move_elim.proofs.Binders.{sketch_over}
use Rattle.move_elim.proofs.InstanceLaws.{placed_in}
use Rattle.move_elim.proofs.SiteLaws.{before_set, levels_before, levels_length}
use Rattle.move_elim.proofs.StepLaws.{has_ok, has_bind, has_if, has_sized, has_entered}

-- places before a place
pub before_append : (n : ℕ) (xs ys : List ℕ) → AreBefore n xs → AreBefore n ys → AreBefore n (xs ++ ys)
before_append n [] ys h all = all
before_append n (x ∷ xs) ys h all = (h.0, before_append n xs ys h.1 all)

before_if : (b : Bool) (n i : ℕ) (xs : List ℕ) → i < n → AreBefore n xs → AreBefore n (if b then xs ++ (i ∷ []) else xs)
before_if true n i xs lt h = before_append n xs (i ∷ []) h (lt, tt)
before_if false n i xs lt h = h

-- those that are generalised are hypotheses
places_marked : (taken : List ℕ) (i n : ℕ) (hs : List Hyp) → n ≡ i + length hs → AreBefore n (marked_from taken i hs).places
places_marked taken i n [] e = tt
places_marked taken i n (h ∷ hs) e =
    before_if _ n i (marked_from taken (i + 1) hs).places (omega (arith, e)) (places_marked taken (i + 1) n hs (omega (arith, e)))

pub moved_before : (taken : List ℕ) (ctx : List Hyp) → AreBefore (length ctx) (marked_from taken 0 ctx).places
moved_before taken ctx = places_marked taken 0 (length ctx) ctx (omega arith)

plain_if : (b : Bool) (n i : ℕ) (xs : List ℕ) → i < n → AreBefore n xs → AreBefore n (if b then i ∷ xs else xs)
plain_if true n i xs lt h = (lt, h)
plain_if false n i xs lt h = h

pub plain_before : (n : ℕ) (ctx : List Hyp) (is : List ℕ) → AreBefore n is → AreBefore n (plain_places ctx is)
plain_before n ctx [] h = tt
plain_before n ctx (i ∷ is) h = plain_if _ n i (plain_places ctx is) h.0 (plain_before n ctx is h.1)

-- where the claim stands
pub all_standing : (is : List ℕ) (s : Site) → AreBefore s.depth s.levels → AreBefore (stand_for_all is s).depth (stand_for_all is s).levels
all_standing [] s h = h
all_standing (i ∷ is) s h = all_standing is (stand_for i s) (before_set s.depth i s.levels h)

pub all_deep : (is : List ℕ) (s : Site) → (stand_for_all is s).depth ≡ s.depth + length is
all_deep [] s = omega arith
all_deep (i ∷ is) s = let rest = all_deep is (stand_for i s) in omega (arith, rest)

set_length : (ls : List ℕ) (i l : ℕ) → length (slice_set ls i l) ≡ length ls
set_length [] i l = refl
set_length (x ∷ xs) zero l = refl
set_length (x ∷ xs) (suc i) l = ap suc (set_length xs i l)

pub all_levels : (is : List ℕ) (s : Site) → length (stand_for_all is s).levels ≡ length s.levels
all_levels [] s = refl
all_levels (i ∷ is) s = all_levels is (stand_for i s) ∙ set_length s.levels i s.depth

append_one : (is : List ℕ) (v : ℕ) → length (is ++ (v ∷ [])) ≡ length is + 1
append_one [] v = refl
append_one (i ∷ is) v = let rest = append_one is v in omega (arith, rest)

pub count_bound : (b : Bool) (x : Subject) → length (bound_variables b x) ≡ (if b then length x.indices else length x.indices + 1)
count_bound true x = refl
count_bound false x = append_one x.indices x.variable

-- the generalised goal
pub got_none_hyp : (i : ℕ) (hs : List Hyp) → slice_get hs i ≡ None → length hs ≤ i
got_none_hyp i [] e = omega arith
got_none_hyp zero (h ∷ hs) e = cc
got_none_hyp (suc i) (h ∷ hs) e = let rest = got_none_hyp i hs e in omega (arith, rest)

value_under : (m : ℕ) (s : Site) (name : List ℕ) (a : Tree) (v : Option Tree) (t : Tree) → AreBefore s.depth s.levels → IsScoped s.depth m (placed s a) →
    IsScopedIfAny (length s.levels) m v → IsScoped (suc s.depth) m t → IsScoped s.depth m (under_value name (placed s a) (placed_if_any s v) t)
value_under m s name a None t above ty value inside = (ty, inside)
value_under m s name a (Some v) t above ty value inside = (ty, placed_in m s v above value, inside)

any_value : (m : ℕ) (ctx : List Hyp) (i : ℕ) (v : Option Tree) → value_of_variable ctx i ≡ v → IsScopedContext m ctx → IsScopedIfAny (length ctx) m v
any_value m ctx i None e hyps = tt
any_value m ctx i (Some t) e hyps = value_scoped m ctx i t hyps e

under_scoped : (m : ℕ) (ctx : List Hyp) (s : Site) (i : ℕ) (t : Tree) (found : Option Hyp) → slice_get ctx i ≡ found → i < length ctx → IsScopedContext m ctx →
    AreBefore s.depth s.levels → length s.levels ≡ length ctx → IsScoped (suc s.depth) m t →
    IsScoped s.depth m (under_hyp s found (lifted_type i found) (value_of_variable ctx i) t)
under_scoped m ctx s i t None e lt hyps above levels inside = let beyond = got_none_hyp i ctx e in absurd (omega (arith, lt, beyond))
under_scoped m ctx s i t (Some h) e lt hyps above levels inside =
    let a : Tree = lift_of h.ty (suc i) 0 in
    let there : type_of_variable ctx i ≡ Some a = ap (lifted_type i) e in
    let ty : IsScoped (length s.levels) m a = subst (λ k. IsScoped k m a) (sym levels) (variable_scoped m ctx i a hyps there) in
    let value : IsScopedIfAny (length s.levels) m (value_of_variable ctx i) =
    subst (λ k. IsScopedIfAny k m (value_of_variable ctx i)) (sym levels) (any_value m ctx i (value_of_variable ctx i) refl hyps) in
    value_under m s h.name a (value_of_variable ctx i) t above (placed_in m s a above ty) value inside

pub generalised_scoped : (m : ℕ) (ctx : List Hyp) (s : Site) (places : List ℕ) (goal : Tree) → IsScopedContext m ctx → IsScoped (length ctx) m goal →
    AreBefore s.depth s.levels → length s.levels ≡ length ctx → AreBefore (length ctx) places → IsScoped s.depth m (generalised ctx s places goal)
generalised_scoped m ctx s [] goal hyps scoped above levels before = placed_in m s goal above (subst (λ k. IsScoped k m goal) (sym levels) scoped)
generalised_scoped m ctx s (i ∷ is) goal hyps scoped above levels before =
    let inner = generalised_scoped m ctx (stand_for i s) is goal hyps scoped (before_set s.depth i s.levels above) (set_length s.levels i s.depth ∙ levels) before.1 in
    let up : s.depth + 1 ≡ suc s.depth = omega arith in
    let inside : IsScoped (suc s.depth) m (generalised ctx (stand_for i s) is goal) = subst (λ k. IsScoped k m (generalised ctx (stand_for i s) is goal)) up inner in
    under_scoped m ctx s i (generalised ctx (stand_for i s) is goal) (slice_get ctx i) refl before.0 hyps above levels inside

-- the claim
pub claim_in : (env : List Slot) (ctx : List Hyp) (goal : Tree) (d : InductiveDecl) (x : Subject) (moved : List ℕ) → MayJudge env ctx → IsTermIn env ctx goal →
    AreBefore (length ctx) x.indices → AreBefore (length ctx) moved →
    Has (claim_of ctx goal d x moved) (λ c. IsClaimIn (length env) c × (c.below ≡ length ctx)
    × IsScoped (length ctx + (if is_in_prop d then length x.indices else length x.indices + 1)) (length env) c.body)
claim_in env ctx goal d x moved judged scoped indices before =
    let n : ℕ = length ctx in
    let m : ℕ = length env in
    let vs : List ℕ = bound_variables (is_in_prop d) x in
    let s : Site = claim_site n (is_in_prop d) x in
    let depth : s.depth ≡ n + length vs = all_deep vs (own_site n) in
    let count : length vs ≡ (if is_in_prop d then length x.indices else length x.indices + 1) = count_bound (is_in_prop d) x in
    let whole : s.depth ≡ n + (if is_in_prop d then length x.indices else length x.indices + 1) = depth ∙ ap (λ k. n + k) count in
    let above : AreBefore s.depth s.levels = all_standing vs (own_site n) (levels_before n) in
    let levels : length s.levels ≡ n = all_levels vs (own_site n) ∙ levels_length n in
    let body : Tree = generalised ctx s moved goal in
    let one : IsScoped s.depth m body = generalised_scoped m ctx s moved goal judged.scoped scoped above levels before in
    let two : IsScoped (n + (if is_in_prop d then length x.indices else length x.indices + 1)) m body = subst (λ k. IsScoped k m body) whole one in
    has_bind (has_sized body two) (λ t inside. has_ok (claim_with n d x (length moved) t) (record { body = inside; indices = indices }, refl, inside))

-- goals
hole_in : (env : List Slot) (ctx : List Hyp) (ty : Tree) → MayJudge env ctx → IsTermIn env ctx ty → IsSketchIn env ctx (hole ctx ty)
hole_in env ctx ty judged scoped = (refl, record { judged = judged; ty = scoped })

pub has_within : {A : Type 0} {Q : A → Type 0} (ctx : List Hyp) (h : Hyp) (g : List Hyp → Step A) → Has (g (h ∷ ctx)) Q → Has (entered ctx h >>= g) Q
has_within {Q = Q} ctx h g rest = has_bind (has_entered ctx h) (λ inner e. subst (λ c. Has (g c) Q) (sym e) rest)

behind_in : (env : List Slot) (ctx : List Hyp) (h : Hyp) (rest : List Hyp → Step (Partial Goal)) → IsScopedHyp (length ctx) (length env) h →
    Has (rest (h ∷ ctx)) (IsSketchIn env (h ∷ ctx)) → Has (behind_hyp ctx h rest) (IsSketchIn env ctx)
behind_in env ctx h rest scoped one =
    has_within ctx h (λ inner. rest inner >>= (λ s. Ok (over_binder h.name h.ty h.value s)))
    (has_bind one (λ s sketch. has_ok (over_binder h.name h.ty h.value s) (sketch_over env ctx h s scoped sketch)))

pub introduced_in : (env : List Slot) (count : ℕ) (ctx : List Hyp) (t : Tree) → MayJudge env ctx → IsTermIn env ctx t →
    Has (introduced count ctx t) (IsSketchIn env ctx)
introduced_in env count ctx (Prod n a b) judged scoped =
    let h : IsScopedHyp (length ctx) (length env) (plain_hyp n a) = record { ty = scoped.0; value = tt } in
    has_if (count == 0) (λ none. has_ok (hole ctx (Prod n a b)) (hole_in env ctx (Prod n a b) judged scoped))
    (λ some. behind_in env ctx (plain_hyp n a) (λ inner. introduced (count - 1) inner b) h
    (introduced_in env (count - 1) (plain_hyp n a ∷ ctx) b (record { scoped = (h, judged.scoped) }) scoped.1))
introduced_in env count ctx (LetIn n a t b) judged scoped =
    let h : IsScopedHyp (length ctx) (length env) (defined_hyp n a t) = record { ty = scoped.0; value = scoped.1 } in
    has_if (count == 0) (λ none. has_ok (hole ctx (LetIn n a t b)) (hole_in env ctx (LetIn n a t b) judged scoped))
    (λ some. behind_in env ctx (defined_hyp n a t) (λ inner. introduced (count - 1) inner b) h
    (introduced_in env (count - 1) (defined_hyp n a t ∷ ctx) b (record { scoped = (h, judged.scoped) }) scoped.2))
introduced_in env count ctx (Var i) judged scoped = has_ok _ (hole_in env ctx (Var i) judged scoped)
introduced_in env count ctx (Sorted s) judged scoped = has_ok _ (hole_in env ctx (Sorted s) judged scoped)
introduced_in env count ctx (Constant k) judged scoped = has_ok _ (hole_in env ctx (Constant k) judged scoped)
introduced_in env count ctx (Lam n a b) judged scoped = has_ok _ (hole_in env ctx (Lam n a b) judged scoped)
introduced_in env count ctx (App f a) judged scoped = has_ok _ (hole_in env ctx (App f a) judged scoped)

-- names aside
length_unnamed : (ctx : List Hyp) → length (unnamed ctx) ≡ length ctx
length_unnamed [] = refl
length_unnamed (h ∷ hs) = ap suc (length_unnamed hs)

same_length : (ctx other : List Hyp) → unnamed ctx ≡ unnamed other → length ctx ≡ length other
same_length ctx other e = sym (length_unnamed ctx) ∙ ap length e ∙ length_unnamed other

pub sketch_renamed : (env : List Slot) (s : Partial Goal) (ctx other : List Hyp) → unnamed ctx ≡ unnamed other → IsSketchIn env ctx s → IsSketchIn env other s
sketch_renamed env (Ready t) ctx other e h = subst (λ k. IsScoped k (length env) t) (same_length ctx other e) h
sketch_renamed env (Hole g) ctx other e h = (h.0 ∙ e, h.1)
sketch_renamed env (Abstracts n a s) ctx other e h = (
  subst (λ k. IsScoped k (length env) a) (same_length ctx other e) h.0,
  sketch_renamed env s (plain_hyp n a ∷ ctx) (plain_hyp n a ∷ other) (ap (λ hs. unnamed_hyp (plain_hyp n a) ∷ hs) e) h.1,
)
sketch_renamed env (Defines n a t s) ctx other e h = (
  subst (λ k. IsScoped k (length env) a) (same_length ctx other e) h.0,
  subst (λ k. IsScoped k (length env) t) (same_length ctx other e) h.1,
  sketch_renamed env s (defined_hyp n a t ∷ ctx) (defined_hyp n a t ∷ other) (ap (λ hs. unnamed_hyp (defined_hyp n a t) ∷ hs) e) h.2,
)
sketch_renamed env (Applies f x) ctx other e h = (sketch_renamed env f ctx other e h.0, sketch_renamed env x ctx other e h.1)

renamed_unnamed : (ctx : List Hyp) (i : ℕ) (n : List ℕ) → unnamed (renamed ctx i n) ≡ unnamed ctx
renamed_unnamed [] i n = refl
renamed_unnamed (h ∷ hs) zero n = refl
renamed_unnamed (h ∷ hs) (suc i) n = ap (λ more. unnamed_hyp h ∷ more) (renamed_unnamed hs i n)

renamed_scoped : (m : ℕ) (ctx : List Hyp) (i : ℕ) (n : List ℕ) → IsScopedContext m ctx → IsScopedContext m (renamed ctx i n)
renamed_scoped m [] i n h = tt
renamed_scoped m (x ∷ hs) zero n h = (record { ty = h.0.ty; value = h.0.value }, h.1)
renamed_scoped m (x ∷ hs) (suc i) n h =
    (subst (λ k. IsScopedHyp k m x) (sym (same_length (renamed hs i n) hs (renamed_unnamed hs i n))) h.0, renamed_scoped m hs i n h.1)

pub hidden_unnamed : (ctx : List Hyp) (is : List ℕ) → unnamed (hidden ctx is) ≡ unnamed ctx
hidden_unnamed ctx [] = refl
hidden_unnamed ctx (i ∷ is) = hidden_unnamed (renamed ctx i WILDCARD) is ∙ renamed_unnamed ctx i WILDCARD

pub hidden_scoped : (m : ℕ) (ctx : List Hyp) (is : List ℕ) → IsScopedContext m ctx → IsScopedContext m (hidden ctx is)
hidden_scoped m ctx [] h = h
hidden_scoped m ctx (i ∷ is) h = hidden_scoped m (renamed ctx i WILDCARD) is (renamed_scoped m ctx i WILDCARD h)

pub hidden_length : (ctx : List Hyp) (is : List ℕ) → length (hidden ctx is) ≡ length ctx
hidden_length ctx is = same_length (hidden ctx is) ctx (hidden_unnamed ctx is)

pub variables_in : (env : List Slot) (ctx : List Hyp) (s : Partial Goal) (is : List ℕ) → IsSketchIn env ctx s → AreBefore (length ctx) is →
    IsSketchIn env ctx (with_variables s is)
variables_in env ctx s [] one h = one
variables_in env ctx s (i ∷ is) one h = variables_in env ctx (Applies s (Ready (Var i))) is (one, h.0) h.1
