-- Reduction keeps terms in scope, and inference tells that a term is in scope.
use Rattle.std.proofs.Common.{◌≡◌, ℕ, zero, suc, List, [], ◌∷◌, length, Bool, true, false, Option, Some, None, Ok, refl, sym, ap, ◌∙◌, arith}
use Rattle.std.specs.Prelude.{IsTrue, if◌then◌else◌}
use Rattle.std.proofs.lemmas.Bool.Decides.{nat_tests}
use Rattle.base_core.specs.declared.refusals.Stop.TheVariants.{Out}
use Rattle.base_core.specs.declared.refusals.Limit.TheVariants.{DepthLimit}
use Rattle.core_term.specs.Sorts.{sort_of_product}
use Rattle.core_term.specs.Tree.{Tree, Var, Sorted, Constant, Prod, Lam, LetIn, App, same_tree}
use Rattle.core_term.specs.Places.{subst_of}
use Rattle.term_spine.specs.Globals.{has}
use Rattle.term_spine.specs.Spine.{head_of, arguments_of}
use Rattle.cic_rules.specs.declared.context.Hyp.{Hyp}
use Rattle.cic_rules.specs.declared.env.Slot.{Slot}
use Rattle.cic_rules.specs.declared.judge.Mode.{Mode}
use Rattle.cic_rules.specs.declared.judge.Inferred.{Inferred}
use Rattle.cic_rules.specs.declared.judge.Arrow.{Arrow}
use Rattle.cic_rules.specs.Contexts.{plain_hyp, defined_hyp, type_of_variable, value_of_variable}
use Rattle.cic_rules.specs.Environments.{body_of_global, type_of_global, IsEnvironment}
use Rattle.cic_rules.specs.Families.{Family, major_index, value_among, eliminator_of, major_premise, iota}
use Rattle.cic_rules.specs.Scopes.{IsScoped, AreScoped, IsScopedIfAny, IsScopedContext, AreNames, IsJudged}
use Rattle.cic_rules.specs.Runs.{Ran, Run, and_then, spend, check_size, Final, GoOn}
use Rattle.cic_rules.specs.Reduce.{Redex, Stuck, Reduces, OnMajor, unfolded, global_redex, redex_of, contract, contract_iota, reduce_redex, reduce_step, whnf_at}
use Rattle.cic_rules.specs.Convert.{compare_cost, conv_at}
use Rattle.cic_rules.specs.Infer.{union, type_of_sort, inferred, inferred_sort, arrow, must_be_sort, as_sort, sort_of, must_be_arrow, as_arrow, check, infer_by, infer_at}
use Rattle.cic_rules.specs.Laws.{Tells, Turned, ScopeOfReduction, ScopeOfInference, ScopeOfSorts, ScopeOfChecks, ScopeOfRows, without_domains}
use Rattle.cic_rules.specs.Judges.{IsInferredIn}
use Rattle.cic_rules.proofs.TellsLaws.{tells_pure, tells_stop, tells_bind, tells_step, tells_if, tells_require, tells_some, tells_within, tells_loop}
use Rattle.cic_rules.proofs.ScopeLaws.{scoped_head, scoped_arguments, scoped_apply_all, scoped_get, scoped_subst}
use Rattle.cic_rules.proofs.EnvironmentScopes.{variable_scoped, variable_within, value_scoped, global_scoped, global_within, body_scoped}
use Rattle.cic_rules.proofs.IotaScopes.{scoped_iota}
use Rattle.cic_rules.specs.declared.families.RowSorts.{RowSorts}
use Rattle.cic_rules.specs.Inductive.{row_at}
use Rattle.cic_rules.proofs.RowLaws.{rows_are_sorted}
use Rattle.cic_rules.proofs.UsedLaws.{names_union, uses_first, uses_second}

has_first : (c : ℕ) → IsTrue (has (c ∷ []) c)
has_first c = grind (arith, nat_tests)

any_is : (n m : ℕ) (o : Option Tree) → ((t : Tree) → o ≡ Some t → IsScoped n m t) → IsScopedIfAny n m o
any_is n m None h = tt
any_is n m (Some t) h = h t refl

-- what a head can do keeps the scope
IsScopedRedex : ℕ → ℕ → Redex → Type 0
IsScopedRedex n m Stuck = Unit {0}
IsScopedRedex n m (Reduces units to) = IsScoped n m to
IsScopedRedex n m (OnMajor major) = IsScoped n m major

unfolded_scoped : (n m : ℕ) (body : Option Tree) (args : List Tree) → IsScopedIfAny n m body → AreScoped n m args → IsScopedRedex n m (unfolded body args)
unfolding IsScopedRedex
unfolded_scoped n m None args h all = tt
unfolded_scoped n m (Some body) args h all = scoped_apply_all n m body args h all

global_scoped_redex : (n m : ℕ) (body major : Option Tree) (args : List Tree) → IsScopedIfAny n m body → IsScopedIfAny n m major → AreScoped n m args →
    IsScopedRedex n m (global_redex body major args)
unfolding IsScopedRedex
global_scoped_redex n m (Some body) major args h k all = scoped_apply_all n m body args h all
global_scoped_redex n m None (Some major) args h k all = k
global_scoped_redex n m None None args h k all = tt

major_by : (n m : ℕ) (args : List Tree) (found : Option Family) (t : Tree) → AreScoped n m args → value_among args found ≡ Some t → IsScoped n m t
major_by n m args None t all e = cc
major_by n m args (Some f) t all e = scoped_get n m (major_index f.decl) args t e all

if_any : (n m : ℕ) (b : Bool) (o : Option Tree) → IsScopedIfAny n m o → IsScopedIfAny n m (if b then o else None)
if_any n m true o h = h
if_any n m false o h = tt

module _ (env : List Slot) (is : IsEnvironment env) where
  redex_scoped : (delta : Bool) (ctx : List Hyp) (h : Tree) (args : List Tree) → IsScopedContext (length env) ctx → IsScoped (length ctx) (length env) h →
      AreScoped (length ctx) (length env) args → IsScopedRedex (length ctx) (length env) (redex_of env delta ctx h args)
  unfolding IsScopedRedex
  redex_scoped delta ctx (Lam n a b) (v ∷ args) hyps h all =
      scoped_apply_all (length ctx) (length env) (subst_of b v 0) args
      (scoped_subst (length ctx) (suc (length ctx)) (length env) 0 b v refl (omega arith) h.1 all.0) all.1
  redex_scoped delta ctx (LetIn n a t b) args hyps h all =
      scoped_apply_all (length ctx) (length env) (subst_of b t 0) args
      (scoped_subst (length ctx) (suc (length ctx)) (length env) 0 b t refl (omega arith) h.2 h.1) all
  redex_scoped delta ctx (Var i) args hyps h all =
      unfolded_scoped (length ctx) (length env) (value_of_variable ctx i) args
      (any_is (length ctx) (length env) (value_of_variable ctx i) (λ t e. value_scoped (length env) ctx i t hyps e)) all
  redex_scoped delta ctx (Constant c) args hyps h all =
      global_scoped_redex (length ctx) (length env) (if delta then body_of_global env c else None) (major_premise env (Constant c) args) args
      (if_any (length ctx) (length env) delta (body_of_global env c)
      (any_is (length ctx) (length env) (body_of_global env c) (λ t e. body_scoped env is (length ctx) c t e)))
      (any_is (length ctx) (length env) (major_premise env (Constant c) args)
      (λ t e. major_by (length ctx) (length env) args (eliminator_of env (Constant c)) t all e)) all
  redex_scoped delta ctx _ args hyps h all = tt

  module _ (delta : Bool) (ctx : List Hyp) (hyps : IsScopedContext (length env) ctx) where
    abbrev InScope : Tree → Type 0
    InScope t = IsScoped (length ctx) (length env) t

    contract_tells : (units : ℕ) (to : Tree) → InScope to → Tells (contract units to) (Turned InScope InScope)
    contract_tells units to h = tells_step (spend units) (tells_step (check_size to) (tells_pure (GoOn to) h))

    iota_tells : (t : Tree) (found : Option Tree) → InScope t → IsScopedIfAny (length ctx) (length env) found →
        Tells (contract_iota t found) (Turned InScope InScope)
    iota_tells t None h k = tells_pure (Final t) h
    iota_tells t (Some to) h k = contract_tells 1 to k

    redex_tells : (reduce : Tree → Run Tree) → ((v : Tree) → InScope v → Tells (reduce v) InScope) → (t : Tree) (redex : Redex) → InScope t →
        IsScopedRedex (length ctx) (length env) redex → Tells (reduce_redex env delta reduce t redex) (Turned InScope InScope)
    unfolding IsScopedRedex
    redex_tells reduce reduces t Stuck h k = tells_pure (Final t) h
    redex_tells reduce reduces t (Reduces units to) h k = contract_tells units to k
    redex_tells reduce reduces t (OnMajor major) h k =
        tells_bind (reduces major k) (λ value good. iota_tells t (iota env (head_of t) (arguments_of t) value) h
        (any_is (length ctx) (length env) (iota env (head_of t) (arguments_of t) value)
        (λ u e. scoped_iota env is (length ctx) (head_of t) (arguments_of t) value u (scoped_head (length ctx) (length env) t h)
        (scoped_arguments (length ctx) (length env) t h) good e)))

    pub step_tells : (reduce : Tree → Run Tree) → ((v : Tree) → InScope v → Tells (reduce v) InScope) → (t : Tree) → InScope t →
        Tells (reduce_step env delta reduce ctx t) (Turned InScope InScope)
    step_tells reduce reduces t h =
        redex_tells reduce reduces t (redex_of env delta ctx (head_of t) (arguments_of t)) h
        (redex_scoped delta ctx (head_of t) (arguments_of t) hyps (scoped_head (length ctx) (length env) t h) (scoped_arguments (length ctx) (length env) t h))

    whnf_tells : (calls : ℕ) (t : Tree) → InScope t → Tells (whnf_at env delta calls ctx t) InScope
    unfolding whnf_at
    whnf_tells zero t h = tells_stop (Out DepthLimit)
    whnf_tells (suc calls) t h =
        tells_loop InScope InScope (reduce_step env delta (whnf_at env delta calls ctx) ctx)
        (λ s k. step_tells (whnf_at env delta calls ctx) (whnf_tells calls) s k) t h

pub scope_of_reduction : ScopeOfReduction
scope_of_reduction env is delta calls ctx hyps t h = whnf_tells env is delta ctx hyps calls t h

-- the names of a term whose type is known
module _ (env : List Slot) (is : IsEnvironment env) (whnf : List Hyp → Tree → Run Tree) (conv : List Hyp → Mode → Tree → Tree → Run Bool)
    (infer : List Hyp → Tree → Run Inferred)
    (whnfs : (ctx : List Hyp) → IsScopedContext (length env) ctx → (t : Tree) → IsScoped (length ctx) (length env) t →
    Tells (whnf ctx t) (λ u. IsScoped (length ctx) (length env) u))
    (infers : (ctx : List Hyp) → IsScopedContext (length env) ctx → (t : Tree) → Tells (infer ctx t) (λ i. IsInferredIn env ctx t i)) where
  abbrev Judged : List Hyp → Tree → List ℕ → Type 0
  Judged ctx t used = IsJudged (length ctx) (length env) t used

  must_sort_tells : (ctx : List Hyp) (t : Tree) (used : List ℕ) (reduced : Tree) → Judged ctx t used →
      Tells (must_be_sort used reduced) (λ s. Judged ctx t s.used)
  must_sort_tells ctx t used (Sorted s) h =
      tells_bind {P = λ _. Unit {0}} (tells_some 24 (type_of_sort s) (λ r e. tt)) (λ r k. tells_pure (inferred_sort s used) h)
  must_sort_tells ctx t used _ h = tells_stop _

  as_sort_tells : (ctx : List Hyp) → IsScopedContext (length env) ctx → (t ty : Tree) (used : List ℕ) → Judged ctx t used →
      IsScoped (length ctx) (length env) ty → Tells (as_sort whnf conv infer ctx ty used) (λ s. Judged ctx t s.used)
  as_sort_tells ctx hyps t (Sorted s) used h k = tells_pure (inferred_sort s used) h
  as_sort_tells ctx hyps t ty used h k = tells_bind (whnfs ctx hyps ty k) (λ reduced good. must_sort_tells ctx t used reduced h)

  sort_tells : (ctx : List Hyp) → IsScopedContext (length env) ctx → (a : Tree) → Tells (sort_of whnf conv infer ctx a) (λ s. Judged ctx a s.used)
  sort_tells ctx hyps a = tells_bind (infers ctx hyps a) (λ i h. as_sort_tells ctx hyps a i.ty i.used h.judged h.ty)

  -- a function's type, and the names of what is applied
  record IsArrowIn (ctx : List Hyp) (t : Tree) (p : Arrow) : Type 0 where
    judged : Judged ctx t p.used
    domain : IsScoped (length ctx) (length env) p.domain
    codomain : IsScoped (suc (length ctx)) (length env) p.codomain

  with_more : (ctx : List Hyp) (t : Tree) (us vs : List ℕ) → Judged ctx t us → AreNames (length env) vs → Judged ctx t (union us vs)
  with_more ctx t us vs h k =
      record { term = h.term; names = names_union (length env) us vs h.names k; uses = uses_first us vs t h.uses }

  must_arrow_tells : (ctx : List Hyp) → IsScopedContext (length env) ctx → (t : Tree) (used : List ℕ) (reduced : Tree) → Judged ctx t used →
      IsScoped (length ctx) (length env) reduced → Tells (must_be_arrow whnf conv infer ctx used reduced) (IsArrowIn ctx t)
  must_arrow_tells ctx hyps t used (Prod n a b) h k =
      tells_bind (sort_tells ctx hyps (Prod n a b)) (λ s j. tells_pure (arrow a b (union used s.used))
      (record { judged = with_more ctx t used s.used h j.names; domain = k.0; codomain = k.1 }))
  must_arrow_tells ctx hyps t used _ h k = tells_stop _

  as_arrow_tells : (ctx : List Hyp) → IsScopedContext (length env) ctx → (t ty : Tree) (used : List ℕ) → Judged ctx t used →
      IsScoped (length ctx) (length env) ty → Tells (as_arrow whnf conv infer ctx ty used) (IsArrowIn ctx t)
  as_arrow_tells ctx hyps t (Prod n a b) used h k = tells_pure (arrow a b used) (record { judged = h; domain = k.0; codomain = k.1 })
  as_arrow_tells ctx hyps t ty used h k = tells_bind (whnfs ctx hyps ty k) (λ reduced good. must_arrow_tells ctx hyps t used reduced h good)

  check_tells : (ctx : List Hyp) → IsScopedContext (length env) ctx → (t wanted : Tree) → Tells (check whnf conv infer ctx t wanted) (Judged ctx t)
  check_tells ctx hyps t wanted =
      tells_bind (infers ctx hyps t) (λ i h. tells_step (spend (compare_cost i.ty wanted)) (tells_if (same_tree i.ty wanted)
      (λ e. tells_pure i.used h.judged)
      (λ e. tells_bind {P = λ _. Unit {0}} (record { tells = λ left x k. tt }) (λ fits k. tells_require fits 22
      (λ yes_it_does. tells_bind (sort_tells ctx hyps wanted) (λ s j. tells_pure (union i.used s.used) (with_more ctx t i.used s.used h.judged j.names)))))))

  -- a binder, and what stands under it
  binder : (ctx : List Hyp) → IsScopedContext (length env) ctx → (n : List ℕ) (a : Tree) → IsScoped (length ctx) (length env) a →
      IsScopedContext (length env) (plain_hyp n a ∷ ctx)
  binder ctx hyps n a h = (record { ty = h; value = tt }, hyps)

  product_judged : (ctx : List Hyp) (n : List ℕ) (a b : Tree) (us vs : List ℕ) → Judged ctx a us → Judged (plain_hyp n a ∷ ctx) b vs →
      Judged ctx (Prod n a b) (union us vs)
  product_judged ctx n a b us vs h k =
      record {
        term = (h.term, k.term);
        names = names_union (length env) us vs h.names k.names;
        uses = (uses_first us vs a h.uses, uses_second us vs b k.uses);
      }

  lambda_judged : (ctx : List Hyp) (n : List ℕ) (a b : Tree) (us vs : List ℕ) → Judged ctx a us → Judged (plain_hyp n a ∷ ctx) b vs →
      Judged ctx (Lam n a b) (union us vs)
  lambda_judged ctx n a b us vs h k =
      record {
        term = (h.term, k.term);
        names = names_union (length env) us vs h.names k.names;
        uses = (uses_first us vs a h.uses, uses_second us vs b k.uses);
      }

  let_judged : (ctx : List Hyp) (n : List ℕ) (a t b : Tree) (us vs ws : List ℕ) → Judged ctx a us → Judged ctx t vs →
      Judged (defined_hyp n a t ∷ ctx) b ws → Judged ctx (LetIn n a t b) (union (union us vs) ws)
  let_judged ctx n a t b us vs ws h k l =
      record {
        term = (h.term, k.term, l.term);
        names = names_union (length env) (union us vs) ws (names_union (length env) us vs h.names k.names) l.names;
        uses = (
          uses_first (union us vs) ws a (uses_first us vs a h.uses),
          uses_first (union us vs) ws t (uses_second us vs t k.uses),
          uses_second (union us vs) ws b l.uses,
        );
      }

  apply_judged : (ctx : List Hyp) (f v : Tree) (us vs : List ℕ) → Judged ctx f us → Judged ctx v vs → Judged ctx (App f v) (union us vs)
  apply_judged ctx f v us vs h k =
      record {
        term = (h.term, k.term);
        names = names_union (length env) us vs h.names k.names;
        uses = (uses_first us vs f h.uses, uses_second us vs v k.uses);
      }

  infer_tells : (ctx : List Hyp) → IsScopedContext (length env) ctx → (t : Tree) → Tells (infer_by whnf conv infer env ctx t) (IsInferredIn env ctx t)
  infer_tells ctx hyps (Var i) =
      tells_bind (tells_some 20 (type_of_variable ctx i) (λ ty e. e)) (λ ty e. tells_pure (inferred ty []) (record {
        judged = record { term = variable_within ctx i ty e; names = record { ascending = tt; before = tt }; uses = tt };
        ty = variable_scoped (length env) ctx i ty hyps e;
      }))
  infer_tells ctx hyps (Sorted s) =
      tells_bind {P = λ _. Unit {0}} (tells_some 24 (type_of_sort s) (λ r e. tt)) (λ r k. tells_pure (inferred (Sorted r) []) (record {
        judged = record { term = tt; names = record { ascending = tt; before = tt }; uses = tt };
        ty = tt;
      }))
  infer_tells ctx hyps (Constant c) =
      tells_bind (tells_some 20 (type_of_global env c) (λ ty e. e)) (λ ty e. tells_pure (inferred ty (c ∷ [])) (record {
        judged = record {
          term = global_within env is c ty e;
          names = record { ascending = (tt, tt); before = (global_within env is c ty e, tt) };
          uses = has_first c;
        };
        ty = global_scoped env is (length ctx) c ty e;
      }))
  infer_tells ctx hyps (Prod n a b) =
      tells_bind (sort_tells ctx hyps a) (λ s h. tells_within ctx (plain_hyp n a) _ (tells_bind (sort_tells (plain_hyp n a ∷ ctx) (binder ctx hyps n a h.term) b)
      (λ r k. tells_pure (inferred (Sorted (sort_of_product s.sort r.sort)) (union s.used r.used))
      (record { judged = product_judged ctx n a b s.used r.used h k; ty = tt }))))
  infer_tells ctx hyps (Lam n a b) =
      tells_bind (sort_tells ctx hyps a) (λ s h. tells_within ctx (plain_hyp n a) _ (tells_bind (infers (plain_hyp n a ∷ ctx) (binder ctx hyps n a h.term) b)
      (λ i k. tells_bind (sort_tells (plain_hyp n a ∷ ctx) (binder ctx hyps n a h.term) i.ty)
      (λ r j. tells_step (check_size (Prod n a i.ty)) (tells_pure (inferred (Prod n a i.ty) (union s.used (union i.used r.used)))
      (record {
        judged = lambda_judged ctx n a b s.used (union i.used r.used) h (with_more (plain_hyp n a ∷ ctx) b i.used r.used k.judged j.names);
        ty = (h.term, k.ty);
      }))))))
  infer_tells ctx hyps (LetIn n a t b) =
      tells_bind (sort_tells ctx hyps a) (λ s h. tells_bind (check_tells ctx hyps t a) (λ used g.
      tells_within ctx (defined_hyp n a t) _ (tells_bind (infers (defined_hyp n a t ∷ ctx) (record { ty = h.term; value = g.term }, hyps) b)
      (λ i k. tells_step (check_size (subst_of i.ty t 0)) (tells_pure (inferred (subst_of i.ty t 0) (union (union s.used used) i.used))
      (record {
        judged = let_judged ctx n a t b s.used used i.used h g k.judged;
        ty = scoped_subst (length ctx) (suc (length ctx)) (length env) 0 i.ty t refl (omega arith) k.ty g.term;
      }))))))
  infer_tells ctx hyps (App f v) =
      tells_bind (infers ctx hyps f) (λ i h. tells_bind (as_arrow_tells ctx hyps f i.ty i.used h.judged h.ty) (λ p g.
      tells_bind (check_tells ctx hyps v p.domain) (λ used k. tells_step (check_size (subst_of p.codomain v 0))
      (tells_pure (inferred (subst_of p.codomain v 0) (union p.used used))
      (record {
        judged = apply_judged ctx f v p.used used g.judged k;
        ty = scoped_subst (length ctx) (suc (length ctx)) (length env) 0 p.codomain v refl (omega arith) g.codomain k.term;
      })))))

-- inference tells that the term and its type are in scope, and has the names that the term speaks of
infer_scoped : (env : List Slot) → IsEnvironment env → (calls : ℕ) (ctx : List Hyp) → IsScopedContext (length env) ctx → (t : Tree) →
    Tells (infer_at env calls ctx t) (IsInferredIn env ctx t)
unfolding infer_at
infer_scoped env is zero ctx hyps t = tells_stop (Out DepthLimit)
infer_scoped env is (suc calls) ctx hyps t =
    tells_step (spend 1) (infer_tells env is (whnf_at env true calls) (conv_at env calls) (infer_at env calls)
    (λ c h u k. scope_of_reduction env is true calls c h u k) (λ c h u. infer_scoped env is calls c h u) ctx hyps t)

pub scope_of_inference : ScopeOfInference
scope_of_inference env is calls ctx hyps t = infer_scoped env is calls ctx hyps t

pub scope_of_sorts : ScopeOfSorts
scope_of_sorts env is calls ctx hyps a =
    sort_tells env is (whnf_at env true calls) (conv_at env calls) (infer_at env calls)
    (λ c h u k. scope_of_reduction env is true calls c h u k) (λ c h u. infer_scoped env is calls c h u) ctx hyps a

pub scope_of_checks : ScopeOfChecks
scope_of_checks env is calls ctx hyps t wanted =
    check_tells env is (whnf_at env true calls) (conv_at env calls) (infer_at env calls)
    (λ c h u k. scope_of_reduction env is true calls c h u k) (λ c h u. infer_scoped env is calls c h u) ctx hyps t wanted

row_answer : (row : Ran RowSorts) (r : RowSorts) → row.answer ≡ Ok r → (and_then row.answer without_domains row.left).answer ≡ Ok (inferred_sort r.sort r.used)
row_answer row r e = ap (λ answer. (and_then answer without_domains row.left).answer) e

pub scope_of_rows : ScopeOfRows
scope_of_rows env is calls ctx hyps t =
    record {
      tells = λ left r e. (scope_of_sorts env is calls ctx hyps t).tells left (inferred_sort r.sort r.used)
          (ap (λ ran. ran.answer) (sym (rows_are_sorted env calls ctx t left)) ∙ row_answer (row_at env calls ctx t left) r e);
    }
