-- How the calls of inference meet the definitions.
use Rattle.std.proofs.Common.{◌≡◌, ℕ, zero, suc, ◌+◌, ◌<◌, ◌≤◌, List, length, Bool, true, false, Result, Ok, Err, refl, sym, ap, subst, ◌∙◌, arith}
use Rattle.std.specs.Prelude.{IfOk, ◌^◌, if◌then◌else◌}
use Rattle.base_core.specs.Answers.{Gives as Makes}
use Rattle.base_core.specs.declared.refusals.Stop.{Stop}
use Rattle.base_core.specs.declared.refusals.Stop.TheVariants.{Out}
use Rattle.base_core.specs.declared.refusals.Limit.TheVariants.{DepthLimit, SizeLimit}
use Rattle.core_term.specs.Answers.{within_limits, Gives}
use Rattle.core_term.specs.Nodes.{tree_of}
use Rattle.core_term.specs.Places.{subst_of}
use Rattle.core_term.specs.Stops.{stop_of}
use Rattle.core_term.specs.Tree.{Tree, Prod, Lam, LetIn, App, IsTerm, IsNumbered, free_bound, is_small}
use Rattle.core_term.specs.declared.stops.TermStop.{TermStop}
use Rattle.core_term.specs.declared.stops.TermStop.TheVariants as stop
use Rattle.core_term.specs.declared.terms.Node.{Node}
use Rattle.core_term.specs.declared.terms.Node.TheVariants as node
use Rattle.core_term.proofs.FreeVariables.{numbered-substituted}
use Rattle.cic_rules.specs.declared.context.Hyp.{Hyp}
use Rattle.cic_rules.specs.declared.env.Slot.{Slot}
use Rattle.cic_rules.specs.declared.judge.Arrow.{Arrow}
use Rattle.cic_rules.specs.declared.judge.Inferred.{Inferred}
use Rattle.cic_rules.specs.declared.judge.Mode.{Mode}
use Rattle.cic_rules.specs.declared.judge.InferredSort.{InferredSort}
use Rattle.cic_rules.specs.Contexts.{extended, plain_hyp, defined_hyp}
use Rattle.cic_rules.specs.Convert.{with_hyp, conv_at}
use Rattle.cic_rules.specs.Environments.{IsEnvironment}
use Rattle.cic_rules.specs.Fuel.{FuelState, IsSpentOf, left, calls_left, nested}
use Rattle.cic_rules.specs.Infer.{union, infer_at, sort_of_at, check_at, as_arrow, must_be_arrow, arrow, inferred}
use Rattle.cic_rules.specs.Judges.{Meets, IsInferredIn, infer_with, sort_of_with, check_with, whnf_with}
use Rattle.cic_rules.specs.Reduce.{whnf_at}
use Rattle.cic_rules.specs.Runs.{Ran, Run, and_then, ◌>>=◌, ◌>>◌, pure, spend, check_size}
use Rattle.cic_rules.specs.Scopes.{IsScoped, IsScopedContext, IsJudged, AreNames}
use Rattle.cic_rules.proofs.JudgeScopes.{scope_of_inference, scope_of_sorts, scope_of_checks}
use Rattle.cic_rules.proofs.ScopeLaws.{scoped_free}
use Rattle.cic_rules.proofs.UsedLaws.{names_union}
use Rattle.conversion.proofs.ReduceLaws.{same_calls}
use Rattle.cic_kernel.specs.Inference.{table_at, table_of, begun_with, as_arrow_with, sized, IsArrowIn}

-- no judgement may be begun
pub no_calls : (env : List Slot) (ctx : List Hyp) (t : Tree) (f : FuelState) (units : ℕ) → 2000 ≤ f.nesting → units ≡ left f →
    Meets {A = Inferred} (Err (Out DepthLimit)) units (infer_with env ctx t f)
unfolding infer_at
no_calls env ctx t f units full is =
    let none : calls_left f ≡ zero = omega (arith, full) in
    rw none (refl, is)

step_begun : (env : List Slot) (calls : ℕ) (ctx : List Hyp) (t : Tree) (units : ℕ) →
    infer_at env (suc calls) ctx t units ≡ (spend 1 >> table_at env calls ctx t) units
unfolding infer_at
step_begun env calls ctx t units = refl

-- what a judgement that was begun answers is what inference does
pub begun_meets : (env : List Slot) (ctx : List Hyp) (old entered after ended : FuelState) (result : Result Inferred Stop) (t : Tree) →
    entered ≡ nested true old → old.nesting < 2000 → left ended ≡ left after →
    Meets result (left after) (begun_with env ctx t entered) → Meets result (left ended) (infer_with env ctx t old)
begun_meets env ctx old entered after ended result t into room same meets =
    let nest : entered.nesting ≡ old.nesting + 1 = ap (λ f. f.nesting) into in
    let calls : calls_left old ≡ suc (calls_left entered) = omega (arith, nest, room) in
    let units : left entered ≡ left old = ap left into in
    let here : infer_with env ctx t old ≡ begun_with env ctx t entered =
    ap (λ k. infer_at env k ctx t (left old)) calls ∙ (step_begun env (calls_left entered) ctx t (left old)
    ∙ ap (λ l. (spend 1 >> table_at env (calls_left entered) ctx t) l) (sym units)) in
    let P : Ran Inferred → Type 0 = λ ran. Meets result (left after) ran in
    subst (λ k. Meets result k (infer_with env ctx t old)) (sym same) (subst P (sym here) meets)

module _ (env : List Slot) (is : IsEnvironment env) (calls : ℕ) (ctx : List Hyp) (hyps : IsScopedContext (length env) ctx) (k l : ℕ) where
  -- what is found is in scope
  pub inferred_in : (result : Result Inferred Stop) (t : Tree) → Meets result k (infer_at env calls ctx t l) → IfOk result (IsInferredIn env ctx t)
  inferred_in (Ok i) t meets = (scope_of_inference env is calls ctx hyps t).tells l i (sym meets.0)
  inferred_in (Err stop) t meets = tt

  pub sorted_in : (result : Result InferredSort Stop) (a : Tree) → Meets result k (sort_of_at env calls ctx a l) →
      IfOk result (λ s. IsJudged (length ctx) (length env) a s.used)
  sorted_in (Ok s) a meets = (scope_of_sorts env is calls ctx hyps a).tells l s (sym meets.0)
  sorted_in (Err stop) a meets = tt

  pub checked_in : (result : Result (List ℕ) Stop) (t wanted : Tree) → Meets result k (check_at env calls ctx t wanted l) →
      IfOk result (IsJudged (length ctx) (length env) t)
  checked_in (Ok used) t wanted meets = (scope_of_checks env is calls ctx hyps t wanted).tells l used (sym meets.0)
  checked_in (Err stop) t wanted meets = tt

-- the value of a run, and the rest with it
after_value : {A B : Type 0} (f : Run A) (g : A → Run B) (l k : ℕ) (x : A) → Meets (Ok x) k (f l) → (f >>= g) l ≡ g x k
after_value f g l k x first = ap (λ answer. and_then answer g (f l).left) (sym first.0) ∙ ap (g x) (sym first.1)

-- a term that is not too large, and the rest
after_size : {A : Type 0} (t : Tree) (g : Run A) (l : ℕ) → is_small t ≡ true → (check_size t >> g) l ≡ g l
after_size t g l small = rw small refl

made_is : (t made : Tree) → Gives (Ok made) (within_limits t) → (is_small t ≡ true) × (made ≡ t)
made_is t made given =
    elim (is_small t) as (λ b. Gives {A = Tree} (Ok made) (if b then Ok t else Err stop.TooLarge) → (b ≡ true) × (made ≡ t)) [
      | true ↦ λ is. (refl, cc)
      | false ↦ λ is. absurd (cc)
    ] given

sized_is : (t made : Tree) → Ok made ≡ sized t → (is_small t ≡ true) × (made ≡ t)
sized_is t made given =
    elim (is_small t) as (λ b. Ok made ≡ (if b then Ok t else Err (Out SizeLimit)) → (b ≡ true) × (made ≡ t)) [
      | true ↦ λ is. (refl, cc)
      | false ↦ λ is. absurd (cc)
    ] given

-- the same judgements with the calls that were left at first
module _ (env : List Slot) (calls : ℕ) (f : FuelState) (same : calls_left f ≡ calls) (k : ℕ) where
  inferred_at : (ctx : List Hyp) (t : Tree) (r : Result Inferred Stop) → Meets r k (infer_with env ctx t f) → Meets r k (infer_at env calls ctx t (left f))
  inferred_at ctx t r meets = subst (λ c. Meets r k (infer_at env c ctx t (left f))) same meets

  sorted_at : (ctx : List Hyp) (t : Tree) (r : Result InferredSort Stop) → Meets r k (sort_of_with env ctx t f) → Meets r k (sort_of_at env calls ctx t (left f))
  sorted_at ctx t r meets = subst (λ c. Meets r k (sort_of_at env c ctx t (left f))) same meets

  checked_at : (ctx : List Hyp) (t u : Tree) (r : Result (List ℕ) Stop) → Meets r k (check_with env ctx t u f) → Meets r k (check_at env calls ctx t u (left f))
  checked_at ctx t u r meets = subst (λ c. Meets r k (check_at env c ctx t u (left f))) same meets

  arrow_at : (ctx : List Hyp) (t : Tree) (used : List ℕ) (r : Result Arrow Stop) → Meets r k (as_arrow_with env ctx t used f) →
      Meets r k (as_arrow (whnf_at env true calls) (conv_at env calls) (infer_at env calls) ctx t used (left f))
  arrow_at ctx t used r meets =
      subst (λ c. Meets r k (as_arrow (whnf_at env true c) (conv_at env c) (infer_at env c) ctx t used (left f))) same meets

-- an abstraction, from what its parts answered
pub function_meets : (env : List Slot) (ctx inner : List Hyp) (n : List ℕ) (a b : Tree) (s r : InferredSort) (i : Inferred) (ty : Tree) (under used : List ℕ)
    (f0 f1 f2 f3 : FuelState) → Meets (Ok s) (left f1) (sort_of_with env ctx a f0) → IsSpentOf f0 f1 → Ok inner ≡ extended ctx (plain_hyp n a) →
    Meets (Ok i) (left f2) (infer_with env inner b f1) → IsSpentOf f1 f2 → Meets (Ok r) (left f3) (sort_of_with env inner i.ty f2) →
    Gives (Ok ty) (within_limits (Prod n a i.ty)) → under ≡ union i.used r.used → used ≡ union s.used under →
    Meets (Ok (inferred ty used)) (left f3) (table_of env ctx (Lam n a b) f0)
function_meets env ctx inner n a b s r i ty under used f0 f1 f2 f3 first kept room found more sort given under_is used_is =
    let one : calls_left f1 ≡ calls_left f0 = same_calls f0 f1 kept in
    let two : calls_left f2 ≡ calls_left f0 = same_calls f1 f2 more ∙ one in
    let made = made_is (Prod n a i.ty) ty given in
    let whole : table_of env ctx (Lam n a b) f0 ≡ pure (inferred (Prod n a i.ty) (union s.used (union i.used r.used))) (left f3) =
    after_value (sort_of_at env (calls_left f0) ctx a) _ (left f0) (left f1) s first
    ∙ (after_value (with_hyp ctx (plain_hyp n a)) _ (left f1) (left f1) inner (room, refl)
    ∙ (after_value (infer_at env (calls_left f0) inner b) _ (left f1) (left f2) i (inferred_at env (calls_left f0) f1 one (left f2) inner b (Ok i) found)
    ∙ (after_value (sort_of_at env (calls_left f0) inner i.ty) _ (left f2) (left f3) r (sorted_at env (calls_left f0) f2 two (left f3) inner i.ty (Ok r) sort)
    ∙ after_size (Prod n a i.ty) _ (left f3) made.0))) in
    let P : Ran Inferred → Type 0 = λ ran. Meets (Ok (inferred ty used)) (left f3) ran in
    let is = made.1 in
    subst P (sym whole) (cc, refl)

-- a definition's body, from what its parts answered
pub let_meets : (env : List Slot) (ctx inner : List Hyp) (n : List ℕ) (a t b : Tree) (s : InferredSort) (checked : List ℕ) (i : Inferred) (ty : Tree) (outer used : List ℕ)
    (f0 f1 f2 f3 : FuelState) → Meets (Ok s) (left f1) (sort_of_with env ctx a f0) → IsSpentOf f0 f1 → Meets (Ok checked) (left f2) (check_with env ctx t a f1) →
    IsSpentOf f1 f2 → Ok inner ≡ extended ctx (defined_hyp n a t) → Meets (Ok i) (left f3) (infer_with env inner b f2) →
    Ok ty ≡ sized (subst_of i.ty t 0) → outer ≡ union s.used checked → used ≡ union outer i.used →
    Meets (Ok (inferred ty used)) (left f3) (table_of env ctx (LetIn n a t b) f0)
let_meets env ctx inner n a t b s checked i ty outer used f0 f1 f2 f3 first kept fits more room found given outer_is used_is =
    let one : calls_left f1 ≡ calls_left f0 = same_calls f0 f1 kept in
    let two : calls_left f2 ≡ calls_left f0 = same_calls f1 f2 more ∙ one in
    let made = sized_is (subst_of i.ty t 0) ty given in
    let whole : table_of env ctx (LetIn n a t b) f0 ≡ pure (inferred (subst_of i.ty t 0) (union (union s.used checked) i.used)) (left f3) =
    after_value (sort_of_at env (calls_left f0) ctx a) _ (left f0) (left f1) s first
    ∙ (after_value (check_at env (calls_left f0) ctx t a) _ (left f1) (left f2) checked (checked_at env (calls_left f0) f1 one (left f2) ctx t a (Ok checked) fits)
    ∙ (after_value (with_hyp ctx (defined_hyp n a t)) _ (left f2) (left f2) inner (room, refl)
    ∙ (after_value (infer_at env (calls_left f0) inner b) _ (left f2) (left f3) i (inferred_at env (calls_left f0) f2 two (left f3) inner b (Ok i) found)
    ∙ after_size (subst_of i.ty t 0) _ (left f3) made.0))) in
    let P : Ran Inferred → Type 0 = λ ran. Meets (Ok (inferred ty used)) (left f3) ran in
    let is = made.1 in
    subst P (sym whole) (cc, refl)

-- an application, from what its parts answered
pub application_meets : (env : List Slot) (ctx : List Hyp) (g v : Tree) (i : Inferred) (p : Arrow) (checked : List ℕ) (ty : Tree) (used : List ℕ)
    (f0 f1 f2 f3 : FuelState) → Meets (Ok i) (left f1) (infer_with env ctx g f0) → IsSpentOf f0 f1 → Meets (Ok p) (left f2) (as_arrow_with env ctx i.ty i.used f1) →
    IsSpentOf f1 f2 → Meets (Ok checked) (left f3) (check_with env ctx v p.domain f2) →
    Ok ty ≡ sized (subst_of p.codomain v 0) → used ≡ union p.used checked →
    Meets (Ok (inferred ty used)) (left f3) (table_of env ctx (App g v) f0)
application_meets env ctx g v i p checked ty used f0 f1 f2 f3 first kept sides more fits given used_is =
    let one : calls_left f1 ≡ calls_left f0 = same_calls f0 f1 kept in
    let two : calls_left f2 ≡ calls_left f0 = same_calls f1 f2 more ∙ one in
    let made = sized_is (subst_of p.codomain v 0) ty given in
    let whole : table_of env ctx (App g v) f0 ≡ pure (inferred (subst_of p.codomain v 0) (union p.used checked)) (left f3) =
    after_value (infer_at env (calls_left f0) ctx g) _ (left f0) (left f1) i first
    ∙ (after_value (as_arrow (whnf_at env true (calls_left f0)) (conv_at env (calls_left f0)) (infer_at env (calls_left f0)) ctx i.ty i.used) _ (left f1) (left f2) p
    (arrow_at env (calls_left f0) f1 one (left f2) ctx i.ty i.used (Ok p) sides)
    ∙ (after_value (check_at env (calls_left f0) ctx v p.domain) _ (left f2) (left f3) checked
    (checked_at env (calls_left f0) f2 two (left f3) ctx v p.domain (Ok checked) fits)
    ∙ after_size (subst_of p.codomain v 0) _ (left f3) made.0)) in
    let P : Ran Inferred → Type 0 = λ ran. Meets (Ok (inferred ty used)) (left f3) ran in
    let is = made.1 in
    subst P (sym whole) (cc, refl)

-- a type that is no product as it stands is reduced first
reduced_first : (whnf : List Hyp → Tree → Run Tree) (conv : List Hyp → Mode → Tree → Tree → Run Bool) (infer : List Hyp → Tree → Run Inferred) (ctx : List Hyp)
    (top : Node) (used : List ℕ) (l : ℕ) → ((n : List ℕ) (a b : Tree) → top ≡ node.Prod n a b → ⊥) →
    as_arrow whnf conv infer ctx (tree_of top) used l ≡ (whnf ctx (tree_of top) >>= must_be_arrow whnf conv infer ctx used) l
reduced_first whnf conv infer ctx (node.Prod n a b) used l apart = absurd (apart n a b refl)
reduced_first whnf conv infer ctx (node.Var _) used l apart = refl
reduced_first whnf conv infer ctx (node.Sorted _) used l apart = refl
reduced_first whnf conv infer ctx (node.Constant _) used l apart = refl
reduced_first whnf conv infer ctx (node.Lam _ _ _) used l apart = refl
reduced_first whnf conv infer ctx (node.LetIn _ _ _ _) used l apart = refl
reduced_first whnf conv infer ctx (node.App _ _) used l apart = refl

pub arrow_meets : (env : List Slot) (ctx : List Hyp) (ty reduced : Tree) (top : Node) (n : List ℕ) (a b : Tree) (s : InferredSort) (used all : List ℕ)
    (f0 f1 f2 : FuelState) → tree_of top ≡ ty → ((n : List ℕ) (a b : Tree) → top ≡ node.Prod n a b → ⊥) →
    Meets (Ok reduced) (left f1) (whnf_with env ctx ty f0) → IsSpentOf f0 f1 → Prod n a b ≡ reduced →
    Meets (Ok s) (left f2) (sort_of_with env ctx reduced f1) → all ≡ union used s.used →
    Meets (Ok (arrow a b all)) (left f2) (as_arrow_with env ctx ty used f0)
arrow_meets env ctx ty reduced top n a b s used all f0 f1 f2 at_top apart first kept is sort all_is =
    let one : calls_left f1 ≡ calls_left f0 = same_calls f0 f1 kept in
    let here : as_arrow_with env ctx ty used f0 ≡
    (whnf_at env true (calls_left f0) ctx ty >>= must_be_arrow (whnf_at env true (calls_left f0)) (conv_at env (calls_left f0)) (infer_at env (calls_left f0)) ctx used) (left f0) =
    rw (sym at_top) (reduced_first (whnf_at env true (calls_left f0)) (conv_at env (calls_left f0)) (infer_at env (calls_left f0)) ctx top used (left f0) apart) in
    let sorted : Meets (Ok s) (left f2) (sort_of_at env (calls_left f0) ctx (Prod n a b) (left f1)) =
    rw is (sorted_at env (calls_left f0) f1 one (left f2) ctx reduced (Ok s) sort) in
    let after : must_be_arrow (whnf_at env true (calls_left f0)) (conv_at env (calls_left f0)) (infer_at env (calls_left f0)) ctx used (Prod n a b) (left f1) ≡
    pure (arrow a b (union used s.used)) (left f2) =
    after_value (sort_of_at env (calls_left f0) ctx (Prod n a b)) _ (left f1) (left f2) s sorted in
    let whole : as_arrow_with env ctx ty used f0 ≡ pure (arrow a b (union used s.used)) (left f2) =
    here ∙ (after_value (whnf_at env true (calls_left f0) ctx ty) _ (left f0) (left f1) reduced first
    ∙ (ap (λ t. must_be_arrow (whnf_at env true (calls_left f0)) (conv_at env (calls_left f0)) (infer_at env (calls_left f0)) ctx used t (left f1)) (sym is) ∙ after)) in
    let P : Ran Arrow → Type 0 = λ ran. Meets (Ok (arrow a b all)) (left f2) ran in
    subst P (sym whole) (cc, refl)

-- both sides of a product in scope
pub sides_in : (env : List Slot) (ctx : List Hyp) (n : List ℕ) (a b t : Tree) (used : List ℕ) → Prod n a b ≡ t → IsScoped (length ctx) (length env) t →
    AreNames (length env) used → IsArrowIn env ctx (arrow a b used)
sides_in env ctx n a b t used is scoped names =
    let both : IsScoped (length ctx) (length env) (Prod n a b) = subst (λ u. IsScoped (length ctx) (length env) u) (sym is) scoped in
    record { domain = both.0; codomain = both.1; names = names }

pub names_of_both : (m : ℕ) (us vs all : List ℕ) → all ≡ union us vs → AreNames m us → AreNames m vs → AreNames m all
names_of_both m us vs all is h k = rw is (names_union m us vs h k)

-- a value may be put into a type, and what is made of both
pub put_numbered : (t v : Tree) → IsTerm t → IsTerm v → free_bound t ≤ 2 ^ 31 + 1 → free_bound v ≤ 2 ^ 31 → IsNumbered (subst_of t v 0)
put_numbered t v is also few more =
    let shallow = is.shallow in
    let other = also.shallow in
    numbered-substituted t v 0 (2 ^ 31) (omega arith) few more (omega (arith, shallow, other))

pub put_sized : (t made : Tree) → Gives (Ok made) (within_limits t) → Makes (Ok made) (sized t)
put_sized t made given =
    elim (is_small t) as (λ b. Gives {A = Tree} (Ok made) (if b then Ok t else Err stop.TooLarge) → Makes {A = Tree} (Ok made) (if b then Ok t else Err (Out SizeLimit))) [
      | true ↦ λ is. cc
      | false ↦ λ is. absurd (cc)
    ] given

pub put_stop : (t : Tree) (why : TermStop) → Gives {A = Tree} (Err why) (within_limits t) → Makes {A = Tree} (Err (stop_of why)) (sized t)
put_stop t stop.TooLarge given =
    elim (is_small t) as (λ b. Gives {A = Tree} (Err stop.TooLarge) (if b then Ok t else Err stop.TooLarge) → Makes {A = Tree} (Err (Out SizeLimit)) (if b then Ok t else Err (Out SizeLimit))) [
      | true ↦ λ is. absurd (cc)
      | false ↦ λ is. refl
    ] given
put_stop t stop.NoMem given = tt

-- a term in scope of a context that is not too long
pub bound_in : (vars globals : ℕ) (t : Tree) → vars ≤ 2 ^ 31 → IsScoped vars globals t → free_bound t ≤ 2 ^ 31
bound_in vars globals t few scoped = let bound = scoped_free vars globals t scoped in omega (arith, few, bound)

pub bound_behind : (vars globals : ℕ) (t : Tree) → vars ≤ 2 ^ 31 → IsScoped (suc vars) globals t → free_bound t ≤ 2 ^ 31 + 1
bound_behind vars globals t few scoped = let bound = scoped_free (suc vars) globals t scoped in omega (arith, few, bound)
