-- What keeps a term in scope: lifts, substitutions, values for a whole context, spines, and the iota rule.
use Rattle.std.proofs.Common.{◌≡◌, ℕ, zero, suc, ◌+◌, ◌-◌, ◌<◌, ◌≤◌, nat_le, nat_lt, List, [], ◌∷◌, ◌++◌, length, take, drop, Bool, true, false, Option, Some, None, refl, ap, subst, arith}
use Rattle.std.specs.Prelude.{if◌then◌else◌, slice_get}
use Rattle.std.proofs.lemmas.Bool.Decides.{nat_tests}
use Rattle.core_term.specs.Tree.{Tree, Var, Sorted, Constant, Prod, Lam, LetIn, App, free_bound}
use Rattle.core_term.specs.Places.{lift_of, subst_of}
use Rattle.term_spine.specs.Instantiate.{instantiated_variable, instantiate_under, instantiate, instantiate_all, values_under}
use Rattle.term_spine.specs.Spine.{head_of, arguments_of, apply_all, shift, shift_all, eta_body}
use Rattle.cic_rules.specs.Scopes.{IsScoped, AreScoped}
use Rattle.cic_rules.specs.Laws.{ScopeOfTerms}

-- among more variables and globals
pub scoped_more : (n k m l : ℕ) (t : Tree) → n ≤ k → m ≤ l → IsScoped n m t → IsScoped k l t
scoped_more n k m l (Var i) more others h = omega (arith, more, h)
scoped_more n k m l (Sorted s) more others h = tt
scoped_more n k m l (Constant c) more others h = omega (arith, others, h)
scoped_more n k m l (Prod x a b) more others h =
    (scoped_more n k m l a more others h.0, scoped_more (suc n) (suc k) m l b (omega (arith, more)) others h.1)
scoped_more n k m l (Lam x a b) more others h =
    (scoped_more n k m l a more others h.0, scoped_more (suc n) (suc k) m l b (omega (arith, more)) others h.1)
scoped_more n k m l (LetIn x a t b) more others h =
    (scoped_more n k m l a more others h.0, scoped_more n k m l t more others h.1, scoped_more (suc n) (suc k) m l b (omega (arith, more)) others h.2)
scoped_more n k m l (App f a) more others h = (scoped_more n k m l f more others h.0, scoped_more n k m l a more others h.1)

-- the free variables of a term in scope
pub scoped_free : (n m : ℕ) (t : Tree) → IsScoped n m t → free_bound t ≤ n
scoped_free n m (Var i) h = omega (arith, h)
scoped_free n m (Sorted s) h = omega arith
scoped_free n m (Constant c) h = omega arith
scoped_free n m (Prod x a b) h = let one = scoped_free n m a h.0 in let two = scoped_free (suc n) m b h.1 in omega (arith, one, two)
scoped_free n m (Lam x a b) h = let one = scoped_free n m a h.0 in let two = scoped_free (suc n) m b h.1 in omega (arith, one, two)
scoped_free n m (LetIn x a t b) h =
    let one = scoped_free n m a h.0 in
    let two = scoped_free n m t h.1 in
    let three = scoped_free (suc n) m b h.2 in
    omega (arith, one, two, three)
scoped_free n m (App f a) h = let one = scoped_free n m f h.0 in let two = scoped_free n m a h.1 in omega (arith, one, two)

index_below : (b : Bool) (i by n k : ℕ) → k ≡ n + by → i < n → (if b then i + by else i) < k
index_below true i by n k e h = omega (arith, e, h)
index_below false i by n k e h = omega (arith, e, h)

-- a lift
pub scoped_lift : (n k m by from : ℕ) (t : Tree) → k ≡ n + by → IsScoped n m t → IsScoped k m (lift_of t by from)
scoped_lift n k m by from (Var i) e h = index_below (nat_le from i) i by n k e h
scoped_lift n k m by from (Sorted s) e h = tt
scoped_lift n k m by from (Constant c) e h = h
scoped_lift n k m by from (Prod x a b) e h =
    (scoped_lift n k m by from a e h.0, scoped_lift (suc n) (suc k) m by (from + 1) b (omega (arith, e)) h.1)
scoped_lift n k m by from (Lam x a b) e h =
    (scoped_lift n k m by from a e h.0, scoped_lift (suc n) (suc k) m by (from + 1) b (omega (arith, e)) h.1)
scoped_lift n k m by from (LetIn x a t b) e h =
    (scoped_lift n k m by from a e h.0, scoped_lift n k m by from t e h.1, scoped_lift (suc n) (suc k) m by (from + 1) b (omega (arith, e)) h.2)
scoped_lift n k m by from (App f a) e h = (scoped_lift n k m by from f e h.0, scoped_lift n k m by from a e h.1)

pub scoped_shift : (n m : ℕ) (t : Tree) → IsScoped n m t → IsScoped (suc n) m (shift t)
scoped_shift n m t h = scoped_lift n (suc n) m 1 0 t (omega arith) h

pub scoped_eta : (n m : ℕ) (t : Tree) → IsScoped n m t → IsScoped (suc n) m (eta_body t)
scoped_eta n m t h = (scoped_shift n m t h, omega arith)

put_by : (b c : Bool) (n m at i : ℕ) (v : Tree) → nat_lt i at ≡ b → nat_lt at i ≡ c → at ≤ n → i < suc n → IsScoped n m v →
    IsScoped n m (if b then Var i else if c then Var (i - 1) else v)
put_by true c n m at i v low high le h value = let one : i < at = grind (arith, nat_tests, low) in omega (arith, one, le)
put_by false true n m at i v low high le h value = let one : at < i = grind (arith, nat_tests, high) in omega (arith, one, h)
put_by false false n m at i v low high le h value = value

-- a value put in for one variable
pub scoped_subst : (n k m at : ℕ) (t v : Tree) → k ≡ suc n → at ≤ n → IsScoped k m t → IsScoped n m v → IsScoped n m (subst_of t v at)
scoped_subst n k m at (Var i) v e le h value =
    put_by (nat_lt i at) (nat_lt at i) n m at i v refl refl le (omega (arith, e, h)) value
scoped_subst n k m at (Sorted s) v e le h value = tt
scoped_subst n k m at (Constant c) v e le h value = h
scoped_subst n k m at (Prod x a b) v e le h value = (
  scoped_subst n k m at a v e le h.0 value,
  scoped_subst (suc n) (suc k) m (at + 1) b (lift_of v 1 0) (omega (arith, e)) (omega (arith, le)) h.1 (scoped_shift n m v value),
)
scoped_subst n k m at (Lam x a b) v e le h value = (
  scoped_subst n k m at a v e le h.0 value,
  scoped_subst (suc n) (suc k) m (at + 1) b (lift_of v 1 0) (omega (arith, e)) (omega (arith, le)) h.1 (scoped_shift n m v value),
)
scoped_subst n k m at (LetIn x a t b) v e le h value = (
  scoped_subst n k m at a v e le h.0 value,
  scoped_subst n k m at t v e le h.1 value,
  scoped_subst (suc n) (suc k) m (at + 1) b (lift_of v 1 0) (omega (arith, e)) (omega (arith, le)) h.2 (scoped_shift n m v value),
)
scoped_subst n k m at (App f a) v e le h value =
    (scoped_subst n k m at f v e le h.0 value, scoped_subst n k m at a v e le h.1 value)

-- lists of terms
pub scoped_append : (n m : ℕ) (ts us : List Tree) → AreScoped n m ts → AreScoped n m us → AreScoped n m (ts ++ us)
scoped_append n m [] us h k = k
scoped_append n m (t ∷ ts) us h k = (h.0, scoped_append n m ts us h.1 k)

pub scoped_drop : (n m i : ℕ) (ts : List Tree) → AreScoped n m ts → AreScoped n m (drop i ts)
scoped_drop n m zero ts h = h
scoped_drop n m (suc i) [] h = tt
scoped_drop n m (suc i) (t ∷ ts) h = scoped_drop n m i ts h.1

pub scoped_take : (n m i : ℕ) (ts : List Tree) → AreScoped n m ts → AreScoped n m (take i ts)
scoped_take n m zero ts h = tt
scoped_take n m (suc i) [] h = tt
scoped_take n m (suc i) (t ∷ ts) h = (h.0, scoped_take n m i ts h.1)

pub scoped_get : (n m i : ℕ) (ts : List Tree) (t : Tree) → slice_get ts i ≡ Some t → AreScoped n m ts → IsScoped n m t
scoped_get n m i [] t e h = cc
scoped_get n m zero (u ∷ us) t e h = let same : u ≡ t = cc in subst (IsScoped n m) same h.0
scoped_get n m (suc i) (u ∷ us) t e h = scoped_get n m i us t e h.1

pub scoped_more_all : (n k m l : ℕ) (ts : List Tree) → n ≤ k → m ≤ l → AreScoped n m ts → AreScoped k l ts
scoped_more_all n k m l [] more others h = tt
scoped_more_all n k m l (t ∷ ts) more others h = (scoped_more n k m l t more others h.0, scoped_more_all n k m l ts more others h.1)

-- spines
pub scoped_head : (n m : ℕ) (t : Tree) → IsScoped n m t → IsScoped n m (head_of t)
scoped_head n m (App f a) h = scoped_head n m f h.0
scoped_head n m t h = h

pub scoped_arguments : (n m : ℕ) (t : Tree) → IsScoped n m t → AreScoped n m (arguments_of t)
scoped_arguments n m (App f a) h = scoped_append n m (arguments_of f) (a ∷ []) (scoped_arguments n m f h.0) (h.1, tt)
scoped_arguments n m t h = tt

pub scoped_apply_all : (n m : ℕ) (f : Tree) (args : List Tree) → IsScoped n m f → AreScoped n m args → IsScoped n m (apply_all f args)
scoped_apply_all n m f [] h k = h
scoped_apply_all n m f (a ∷ more) h k = scoped_apply_all n m (App f a) more (h, k.0) k.1

-- values for all variables of a context
pub scoped_shift_all : (n m : ℕ) (ts : List Tree) → AreScoped n m ts → AreScoped (suc n) m (shift_all ts)
scoped_shift_all n m [] h = tt
scoped_shift_all n m (t ∷ ts) h = (scoped_shift n m t h.0, scoped_shift_all n m ts h.1)

pub length_shift_all : (ts : List Tree) → length (shift_all ts) ≡ length ts
length_shift_all [] = refl
length_shift_all (t ∷ ts) = ap suc (length_shift_all ts)

pub scoped_under : (n m : ℕ) (ts : List Tree) → AreScoped n m ts → AreScoped (suc n) m (values_under ts)
scoped_under n m ts h = (omega arith, scoped_shift_all n m ts h)

pub length_under : (ts : List Tree) → length (values_under ts) ≡ suc (length ts)
length_under ts = ap suc (length_shift_all ts)

get_none : (i : ℕ) (ts : List Tree) → slice_get ts i ≡ None → length ts ≤ i
get_none i [] e = omega arith
get_none zero (t ∷ ts) e = cc
get_none (suc i) (t ∷ ts) e = let rest = get_none i ts e in omega (arith, rest)

put_found : (n m p q binders i : ℕ) (values : List Tree) (found : Option Tree) → slice_get values (i - binders) ≡ found →
    p ≡ length values + binders → q ≡ n + binders → i < p → binders ≤ i → AreScoped n m values →
    IsScoped q m (instantiated_variable found i (length values) binders)
put_found n m p q binders i values None is e f h above all =
    let none : ⊥ = (let beyond = get_none (i - binders) values is in omega (arith, e, h, above, beyond)) in
    absurd none
put_found n m p q binders i values (Some v) is e f h above all = scoped_lift n q m binders 0 v f (scoped_get n m (i - binders) values v is all)

put_variable_by : (b : Bool) (n m p q binders i : ℕ) (values : List Tree) → nat_lt i binders ≡ b →
    p ≡ length values + binders → q ≡ n + binders → i < p → AreScoped n m values →
    IsScoped q m (if b then Var i else instantiated_variable (slice_get values (i - binders)) i (length values) binders)
put_variable_by true n m p q binders i values is e f h all = let low : i < binders = grind (arith, nat_tests, is) in omega (arith, low, f)
put_variable_by false n m p q binders i values is e f h all =
    let above : binders ≤ i = grind (arith, nat_tests, is) in
    put_found n m p q binders i values (slice_get values (i - binders)) refl e f h above all

pub scoped_instantiate_under : (n m p q binders : ℕ) (values : List Tree) (t : Tree) → p ≡ length values + binders → q ≡ n + binders →
    IsScoped p m t → AreScoped n m values → IsScoped q m (instantiate_under values t binders)
scoped_instantiate_under n m p q binders values (Var i) e f h all = put_variable_by (nat_lt i binders) n m p q binders i values refl e f h all
scoped_instantiate_under n m p q binders values (Sorted s) e f h all = tt
scoped_instantiate_under n m p q binders values (Constant c) e f h all = h
scoped_instantiate_under n m p q binders values (Prod x a b) e f h all = (
  scoped_instantiate_under n m p q binders values a e f h.0 all,
  scoped_instantiate_under n m (suc p) (suc q) (binders + 1) values b (omega (arith, e)) (omega (arith, f)) h.1 all,
)
scoped_instantiate_under n m p q binders values (Lam x a b) e f h all = (
  scoped_instantiate_under n m p q binders values a e f h.0 all,
  scoped_instantiate_under n m (suc p) (suc q) (binders + 1) values b (omega (arith, e)) (omega (arith, f)) h.1 all,
)
scoped_instantiate_under n m p q binders values (LetIn x a t b) e f h all = (
  scoped_instantiate_under n m p q binders values a e f h.0 all,
  scoped_instantiate_under n m p q binders values t e f h.1 all,
  scoped_instantiate_under n m (suc p) (suc q) (binders + 1) values b (omega (arith, e)) (omega (arith, f)) h.2 all,
)
scoped_instantiate_under n m p q binders values (App g a) e f h all =
    (scoped_instantiate_under n m p q binders values g e f h.0 all, scoped_instantiate_under n m p q binders values a e f h.1 all)

pub scoped_instantiate : (n m p : ℕ) (values : List Tree) (t : Tree) → p ≡ length values → IsScoped p m t → AreScoped n m values →
    IsScoped n m (instantiate values t)
scoped_instantiate n m p values t e h all = scoped_instantiate_under n m p n 0 values t (omega (arith, e)) (omega arith) h all

pub scoped_instantiate_all : (n m p : ℕ) (values ts : List Tree) → p ≡ length values → AreScoped p m ts → AreScoped n m values →
    AreScoped n m (instantiate_all values ts)
scoped_instantiate_all n m p values [] e h all = tt
scoped_instantiate_all n m p values (t ∷ ts) e h all = (scoped_instantiate n m p values t e h.0 all, scoped_instantiate_all n m p values ts e h.1 all)

pub scope_of_terms : ScopeOfTerms
scope_of_terms =
    record {
      more = scoped_more;
      free = scoped_free;
      lift = scoped_lift;
      subst = scoped_subst;
      instantiate = scoped_instantiate;
      apply_all = scoped_apply_all;
    }
