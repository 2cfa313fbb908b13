-- The types of eliminators are in scope.
use Rattle.std.proofs.Common.{◌≡◌, ℕ, zero, suc, ◌+◌, ◌≤◌, List, [], ◌∷◌, length, Bool, true, false, refl, sym, ap, ◌∙◌, subst, arith}
use Rattle.std.specs.Prelude.{if◌then◌else◌}
use Rattle.core_term.specs.declared.sorts.Sort.{Sort}
use Rattle.core_term.specs.Tree.{Tree, Var, Sorted, Constant, Prod, App}
use Rattle.term_spine.specs.Globals.{mentions}
use Rattle.term_spine.specs.Instantiate.{instantiate_all, values_under}
use Rattle.term_spine.specs.Spine.{arguments_of, apply_all, shift, shift_all, eta_body, variables_of}
use Rattle.cic_rules.specs.declared.context.Hyp.{Hyp}
use Rattle.cic_rules.specs.declared.decls.Ctor.{Ctor}
use Rattle.cic_rules.specs.declared.decls.InductiveDecl.{InductiveDecl}
use Rattle.cic_rules.specs.declared.env.Slot.{Slot}
use Rattle.cic_rules.specs.Scopes.{IsScoped, AreScoped}
use Rattle.cic_rules.specs.Contexts.{products_over}
use Rattle.cic_rules.specs.Environments.{AreScopedCtors}
use Rattle.cic_rules.specs.Families.{count_params, indices, newest_first}
use Rattle.cic_rules.specs.Eliminators.{is_in_prop, argument_name, hypothesis_name, case_name, value_name, hyp_names, MOTIVE, Scope, with_argument, with_binder, of_value, hypothesis, case_argument, case_type, conclusion, motive_type, at_params, cases, eliminator_type}
use Rattle.cic_rules.proofs.ScopeLaws.{scoped_drop, scoped_arguments, scoped_apply_all, scoped_shift, scoped_eta, scoped_shift_all, length_shift_all, scoped_under, length_under, scoped_instantiate, scoped_instantiate_all}
use Rattle.cic_rules.proofs.IotaScopes.{scoped_newest, length_newest}

-- variables of a context
pub scoped_variables : (n m k : ℕ) → k ≤ n → AreScoped n m (variables_of k)
scoped_variables n m zero le = tt
scoped_variables n m (suc k) le = (omega (arith, le), scoped_variables n m k (omega (arith, le)))

length_variables : (k : ℕ) → length (variables_of k) ≡ k
length_variables zero = refl
length_variables (suc k) = ap suc (length_variables k)

-- what stands at the end of products over hypotheses, and another end
pub scoped_end : (n k m : ℕ) (hs : List Hyp) (t : Tree) → k ≡ n + length hs → IsScoped n m (products_over hs t) → IsScoped k m t
scoped_end n k m [] t e h = let same : n ≡ k = omega (arith, e) in subst (λ x. IsScoped x m t) same h
scoped_end n k m (x ∷ xs) t e h = scoped_end (suc n) k m xs t (omega (arith, e)) h.1

pub scoped_over : (n k m : ℕ) (hs : List Hyp) (t u : Tree) → k ≡ n + length hs → IsScoped n m (products_over hs t) → IsScoped k m u →
    IsScoped n m (products_over hs u)
scoped_over n k m [] t u e h v = let same : k ≡ n = omega (arith, e) in subst (λ x. IsScoped x m u) same v
scoped_over n k m (x ∷ xs) t u e h v = (h.0, scoped_over (suc n) k m xs t u (omega (arith, e)) h.1 v)

module _ (env : List Slot) (place : ℕ) (d : InductiveDecl) where
  value_by : (b : Bool) (n m : ℕ) (motive value : Tree) → IsScoped n m motive → IsScoped n m value → IsScoped n m (if b then motive else App motive value)
  value_by true n m motive value h v = h
  value_by false n m motive value h v = (h, v)

  scoped_of_value : (n m : ℕ) (motive value : Tree) → IsScoped n m motive → IsScoped n m value → IsScoped n m (of_value env place d motive value)
  scoped_of_value n m motive value h v = value_by (is_in_prop d) n m motive value h v

  scoped_hypothesis : (n m p : ℕ) (motive x : Tree) (values : List Tree) (t : Tree) → p ≡ length values → IsScoped n m motive → IsScoped n m x →
      AreScoped n m values → IsScoped p m t → IsScoped n m (hypothesis env place d motive x values t)
  scoped_hypothesis n m p motive x values (Prod k a b) e h v all t = (
    scoped_instantiate n m p values a e t.0 all,
    scoped_hypothesis (suc n) m (suc p) (shift motive) (eta_body x) (values_under values) b (ap suc e ∙ sym (length_under values))
        (scoped_shift n m motive h) (scoped_eta n m x v) (scoped_under n m values all) t.1,
  )
  scoped_hypothesis n m p motive x values t e h v all s =
      scoped_of_value n m (apply_all motive (instantiate_all values (indices (count_params d) t))) x
      (scoped_apply_all n m motive (instantiate_all values (indices (count_params d) t)) h
      (scoped_instantiate_all n m p values (indices (count_params d) t) e (scoped_drop p m (count_params d) (arguments_of t) (scoped_arguments p m t s)) all)) v

  -- where a case stands
  record IsGoodScope (n m p : ℕ) (s : Scope) : Type 0 where
    motive : IsScoped n m s.motive
    built : IsScoped n m s.built
    values : AreScoped n m s.values
    count : p ≡ length s.values

  good_argument : (n m p : ℕ) (x : List ℕ) (s : Scope) → IsGoodScope n m p s → IsGoodScope (suc n) m (suc p) (with_argument x s)
  good_argument n m p x s h =
      record {
        motive = scoped_shift n m s.motive h.motive;
        built = scoped_eta n m s.built h.built;
        values = scoped_under n m s.values h.values;
        count = ap suc h.count ∙ sym (length_under s.values);
      }

  good_binder : (n m p : ℕ) (x : List ℕ) (s : Scope) → IsGoodScope n m p s → IsGoodScope (suc n) m p (with_binder x s)
  good_binder n m p x s h =
      record {
        motive = scoped_shift n m s.motive h.motive;
        built = scoped_shift n m s.built h.built;
        values = scoped_shift_all n m s.values h.values;
        count = h.count ∙ sym (length_shift_all s.values);
      }

  case_by : (b : Bool) (n m p : ℕ) (x : List ℕ) (a : Tree) (s : Scope) (rest : Scope → Tree) → IsGoodScope n m p s → IsScoped p m a →
      ((k : ℕ) (inner : Scope) → IsGoodScope k m (suc p) inner → IsScoped k m (rest inner)) →
      IsScoped n m (case_argument env place d b x a s rest)
  case_by false n m p x a s rest h t next =
      (scoped_instantiate n m p s.values a h.count t h.values, next (suc n) (with_argument x s) (good_argument n m p x s h))
  case_by true n m p x a s rest h t next = (
    scoped_instantiate n m p s.values a h.count t h.values,
    (
      scoped_hypothesis (suc n) m p (shift s.motive) (Var 0) (shift_all s.values) a (h.count ∙ sym (length_shift_all s.values))
          (scoped_shift n m s.motive h.motive) (omega arith) (scoped_shift_all n m s.values h.values) t,
      next (suc (suc n)) (with_binder (hypothesis_name x) (with_argument x s))
          (good_binder (suc n) m (suc p) (hypothesis_name x) (with_argument x s) (good_argument n m p x s h)),
    ),
  )

  scoped_case_type : (n m p : ℕ) (s : Scope) (t : Tree) → IsGoodScope n m p s → IsScoped p m t → IsScoped n m (case_type env place d s t)
  scoped_case_type n m p s (Prod x a b) h t =
      case_by (mentions place a) n m p (argument_name env s.names x a) a s (λ inner. case_type env place d inner b) h t.0
      (λ k inner good. scoped_case_type k m (suc p) inner b good t.1)
  scoped_case_type n m p s t h k =
      scoped_of_value n m (apply_all s.motive (instantiate_all s.values (indices (count_params d) t))) s.built
      (scoped_apply_all n m s.motive (instantiate_all s.values (indices (count_params d) t)) h.motive
      (scoped_instantiate_all n m p s.values (indices (count_params d) t) h.count (scoped_drop p m (count_params d) (arguments_of t) (scoped_arguments p m t k)) h.values))
      h.built

  scoped_conclusion : (n m p : ℕ) (motive family : Tree) (values : List Tree) (t : Tree) → p ≡ length values → IsScoped n m motive → IsScoped n m family →
      AreScoped n m values → IsScoped p m t → IsScoped n m (conclusion env place d motive family values t)
  scoped_conclusion n m p motive family values (Prod k a b) e h f all t = (
    scoped_instantiate n m p values a e t.0 all,
    scoped_conclusion (suc n) m (suc p) (eta_body motive) (eta_body family) (values_under values) b (ap suc e ∙ sym (length_under values))
        (scoped_eta n m motive h) (scoped_eta n m family f) (scoped_under n m values all) t.1,
  )
  scoped_conclusion n m p motive family values t e h f all s =
      (f, scoped_of_value (suc n) m (shift motive) (Var 0) (scoped_shift n m motive h) (omega arith))

  motive_by : (b : Bool) (n m : ℕ) (family : Tree) (sort : Sort) → IsScoped n m family →
      IsScoped n m (if b then Sorted sort else Prod (value_name d) family (Sorted sort))
  motive_by true n m family sort h = tt
  motive_by false n m family sort h = (h, tt)

  scoped_motive : (n m : ℕ) (family : Tree) (sort : Sort) (t : Tree) → IsScoped n m family → IsScoped n m t → IsScoped n m (motive_type env place d family sort t)
  scoped_motive n m family sort (Prod k a b) h t = (t.0, scoped_motive (suc n) m (eta_body family) sort b (scoped_eta n m family h) t.1)
  scoped_motive n m family sort t h k = motive_by (is_in_prop d) n m family sort h

  scoped_at_params : (n m : ℕ) (t : Tree) (values : List Tree) → IsScoped n m t → AreScoped n m values → IsScoped n m (at_params env place d t values)
  scoped_at_params n m t values h all = scoped_apply_all n m t (newest_first values []) h (scoped_newest n m values [] all tt)

  scoped_cases : (n m p index : ℕ) (cs : List Ctor) (motive : Tree) (values : List Tree) (names : List (List ℕ)) → p ≡ length values →
      place + 1 + index + length cs ≤ m → IsScoped n m motive → AreScoped n m values → AreScopedCtors p m cs → IsScoped p m d.arity →
      IsScoped n m (cases env place d index cs motive values names)
  scoped_cases n m p index [] motive values names e room h all ctors arity =
      scoped_conclusion n m p motive (at_params env place d (Constant place) values) values d.arity e h
      (scoped_at_params n m (Constant place) values (omega (arith, room)) all) all arity
  scoped_cases n m p index (c ∷ cs) motive values names e room h all ctors arity = (
    scoped_case_type n m p
        (record { motive = motive; built = at_params env place d (Constant (place + 1 + index)) values; values = values; names = names }) c.ty
        (record {
          motive = h;
          built = scoped_at_params n m (Constant (place + 1 + index)) values (omega (arith, room)) all;
          values = all;
          count = e;
        }) ctors.0,
    scoped_cases (suc n) m p (suc index) cs (shift motive) (shift_all values) (case_name c ∷ names) (e ∙ sym (length_shift_all values))
        (omega (arith, room)) (scoped_shift n m motive h) (scoped_shift_all n m values all) ctors.1 arity,
  )

  -- the type of an eliminator speaks of the type and its constructors, and of what the declaration speaks of
  pub scoped_eliminator : (m : ℕ) (sort : Sort) → place + 1 + length d.ctors ≤ m → IsScoped 0 m (products_over d.params d.arity) →
      AreScopedCtors (length d.params) m d.ctors → IsScoped 0 m (eliminator_type env place d sort)
  scoped_eliminator m sort room whole ctors =
      let k : ℕ = length d.params in
      let at_end : k ≡ 0 + length d.params = omega arith in
      let arity : IsScoped k m d.arity = scoped_end 0 k m d.params d.arity at_end whole in
      let own : AreScoped k m (variables_of k) = scoped_variables k m k (omega arith) in
      let newest : AreScoped k m (newest_first (variables_of k) []) = scoped_newest k m (variables_of k) [] own tt in
      let made = length_newest (variables_of k) [] in
      let mine = length_variables k in
      let shifted = length_shift_all (newest_first (variables_of k) []) in
      let count : k ≡ length (shift_all (newest_first (variables_of k) [])) = omega (arith, made, mine, shifted) in
      scoped_over 0 k m d.params d.arity _ at_end whole (
        scoped_motive k m (apply_all (Constant place) (variables_of k)) sort d.arity
            (scoped_apply_all k m (Constant place) (variables_of k) (omega (arith, room)) own) arity,
        scoped_cases (suc k) m k 0 d.ctors (Var 0) (shift_all (newest_first (variables_of k) [])) (MOTIVE ∷ hyp_names d.params) count
            (omega (arith, room)) (omega arith) (scoped_shift_all k m (newest_first (variables_of k) []) newest) ctors arity,
      )
