-- What stands in scope of the parts of a motive.
use Rattle.std.specs.Prelude.{◌≡◌, ℕ, suc, ◌+◌, ◌-◌, ◌==◌, ◌^◌, ◌≤◌, ◌<◌, List, [], ◌∷◌, length, Option, Some, None, Ok, IfSome, Bool, true, false, if◌then◌else◌, refl}
use Rattle.std.proofs.Common.{arith, subst}
use Rattle.std.proofs.lemmas.Bool.Decides.{nat_tests}
use Rattle.core_term.specs.Tree.{Tree, Var, Sorted, Constant, Prod, Lam, LetIn, App, IsTerm, IsNumbered, free_bound, depth_of}
use Rattle.core_term.proofs.FreeVariables.{free_bound-lifted}
use Rattle.cic_rules.specs.declared.context.Hyp.{Hyp}
use Rattle.cic_rules.specs.declared.decls.InductiveDecl.{InductiveDecl}
use Rattle.cic_rules.specs.declared.env.Slot.{Slot}
use Rattle.cic_rules.specs.Eliminators.{is_in_prop, value_name}
use Rattle.cic_rules.specs.Environments.{IsScopedDecl}
use Rattle.cic_rules.specs.Scopes.{IsScoped, AreScoped}
use Rattle.cic_rules.specs.Steps.{◌>>=◌, answer_of}
use Rattle.cic_rules.proofs.EliminatorScopes.{scoped_end}
use Rattle.cic_rules.proofs.ScopeLaws.{scoped_free, scoped_eta, scoped_instantiate}
use Rattle.term_spine.specs.Instantiate.{instantiate, instantiate_under}
use Rattle.term_spine.specs.Spine.{eta_body, count_products}
use Rattle.term_spine.specs.SpineLaws.{AreOver}
use Rattle.term_spine.proofs.Instantiations.{instantiate_numbered}
use Rattle.move_elim.specs.declared.subjects.Subject.{Subject}
use Rattle.move_elim.specs.Claims.{at_index, over_value, motive_over, at_params, applied_to, family_of, motive_of}
use Rattle.move_elim.specs.Scopes.{IsSubjectIn, IsSmallSubject, Has}
use Rattle.move_elim.proofs.StepLaws.{has_ok, has_bind, has_if, has_sized, answered}

pub may_deepen : (family : Option Tree) (depth : ℕ) → 1 ≤ depth → IfSome family (λ t. free_bound t + depth ≤ 2 ^ 31 + 4000) →
    IfSome family (λ t. free_bound t + 1 ≤ 2 ^ 31 + 5000)
may_deepen None depth some h = tt
may_deepen (Some t) depth some h = omega (arith, h, some)

eta_free : (t : Tree) → free_bound (eta_body t) ≤ free_bound t + 1
eta_free t = let up = free_bound-lifted t 1 0 in omega (arith, up)

index_free : (family : Option Tree) (k n : ℕ) → n ≡ k + 1 → IfSome family (λ t. free_bound t + n ≤ 2 ^ 31 + 4000) →
    Has (at_index family) (λ deeper. IfSome deeper (λ t. free_bound t + k ≤ 2 ^ 31 + 4000))
index_free None k n e h = has_ok None tt
index_free (Some t) k n e h =
    let up = eta_free t in
    has_bind {P = λ u. free_bound u + k ≤ 2 ^ 31 + 4000} (has_sized (eta_body t) (omega (arith, h, e, up))) (λ u few. has_ok (Some u) few)

pub room_below : (family deeper : Option Tree) (k n : ℕ) → k + 1 ≤ n → IfSome family (λ t. free_bound t + n ≤ 2 ^ 31 + 4000) →
    Ok deeper ≡ answer_of (at_index family) → IfSome deeper (λ t. free_bound t + k ≤ 2 ^ 31 + 4000)
room_below None deeper k n le h e = answered deeper (index_free None k (k + 1) refl tt) e
room_below (Some t) deeper k n le h e =
    let few : free_bound t + (k + 1) ≤ 2 ^ 31 + 4000 = omega (arith, le, h) in
    answered deeper (index_free (Some t) k (k + 1) refl few) e

pub room_under : (family deeper : Option Tree) (n : List ℕ) (a b arity : Tree) → arity ≡ Prod n a b →
    IfSome family (λ t. free_bound t + depth_of arity ≤ 2 ^ 31 + 4000) → Ok deeper ≡ answer_of (at_index family) →
    IfSome deeper (λ t. free_bound t + depth_of b ≤ 2 ^ 31 + 4000)
room_under family deeper n a b arity same h e =
    let le : depth_of b + 1 ≤ depth_of arity = rw same (omega arith) in room_below family deeper (depth_of b) (depth_of arity) le h e

-- terms in scope
pub over_scoped : (n m : ℕ) (ts : List Tree) → AreScoped n m ts → AreOver n ts
over_scoped n m [] h = tt
over_scoped n m (t ∷ ts) h = (scoped_free n m t h.0, over_scoped n m ts h.1)

pub applied_scoped : (n m : ℕ) (f : Tree) (ts : List Tree) → IsScoped n m f → AreScoped n m ts → Has (applied_to f ts) (IsScoped n m)
applied_scoped n m f [] function all = has_ok f function
applied_scoped n m f (t ∷ ts) function all = has_bind (applied_scoped n m f ts function all.1) (λ g one. has_sized (App g t) (one, all.0))

pub arity_scoped : (env : List Slot) (ctx : List Hyp) (d : InductiveDecl) (x : Subject) → IsSubjectIn env ctx d x → IsScopedDecl (length env) d →
    IsScoped (length x.params) (length env) d.arity
arity_scoped env ctx d x subject decl = scoped_end 0 (length x.params) (length env) d.params d.arity (omega (arith, subject.count)) decl.arity

pub arity_numbered : (env : List Slot) (ctx : List Hyp) (d : InductiveDecl) (x : Subject) → IsSubjectIn env ctx d x → IsSmallSubject x →
    IsScopedDecl (length env) d → length ctx ≤ 2 ^ 31 → IsTerm d.arity → IsNumbered (instantiate x.params d.arity)
arity_numbered env ctx d x subject small decl short is =
    let free = scoped_free (length x.params) (length env) d.arity (arity_scoped env ctx d x subject decl) in
    let shallow = is.shallow in
    instantiate_numbered x.params d.arity 0 (length ctx) 1000 (over_scoped (length ctx) (length env) x.params subject.params) small.shallow
    (omega (arith, free)) (omega (arith, short, shallow))

pub family_scoped : (env : List Slot) (ctx : List Hyp) (d : InductiveDecl) (x : Subject) → IsSubjectIn env ctx d x →
    Has (family_of d x) (λ family. IfSome family (IsScoped (length ctx) (length env)))
family_scoped env ctx d x subject =
    has_if (is_in_prop d) (λ yes_it_is. has_ok None tt)
    (λ no_it_is_not. has_bind (applied_scoped (length ctx) (length env) (Constant x.place) x.params subject.place subject.params) (λ t one. has_ok (Some t) one))

few_by : (n m depth : ℕ) (family : Option Tree) → n ≤ 2 ^ 31 → depth ≤ 1000 → IfSome family (IsScoped n m) →
    IfSome family (λ t. free_bound t + depth ≤ 2 ^ 31 + 4000)
few_by n m depth None short shallow h = tt
few_by n m depth (Some t) short shallow h = let free = scoped_free n m t h in omega (arith, free, short, shallow)

pub family_few : (env : List Slot) (ctx : List Hyp) (d : InductiveDecl) (x : Subject) (family : Option Tree) (arity : Tree) → IsSubjectIn env ctx d x →
    length ctx ≤ 2 ^ 31 → IsTerm arity → Ok family ≡ answer_of (family_of d x) → IfSome family (λ t. free_bound t + depth_of arity ≤ 2 ^ 31 + 4000)
family_few env ctx d x family arity subject short is e =
    few_by (length ctx) (length env) (depth_of arity) family short is.shallow (answered family (family_scoped env ctx d x subject) e)

-- how many binders the motive has for a value
abbrev extra : Option Tree → ℕ
extra None = 0
extra (Some t) = 1

value_scoped : (n m : ℕ) (d : InductiveDecl) (family : Option Tree) (body : Tree) → IfSome family (IsScoped n m) → IsScoped (n + extra family) m body →
    Has (over_value d family body) (IsScoped n m)
value_scoped n m d None body h scoped = has_ok body (let e : n + 0 ≡ n = omega arith in subst (λ k. IsScoped k m body) e scoped)
value_scoped n m d (Some t) body h scoped =
    has_sized (Lam (value_name d) t body) (h, let e : n + 1 ≡ suc n = omega arith in subst (λ k. IsScoped k m body) e scoped)

index_scoped : (n m : ℕ) (family : Option Tree) → IfSome family (IsScoped n m) →
    Has (at_index family) (λ deeper. IfSome deeper (IsScoped (suc n) m) × (extra deeper ≡ extra family))
index_scoped n m None h = has_ok None (tt, refl)
index_scoped n m (Some t) h =
    has_bind {P = IsScoped (suc n) m} (has_sized (eta_body t) (scoped_eta n m t h)) (λ u one. has_ok (Some u) (one, refl))

end_scoped : (n m : ℕ) (d : InductiveDecl) (family : Option Tree) (count : ℕ) (body : Tree) → count ≡ 0 → IfSome family (IsScoped n m) →
    IsScoped (n + count + extra family) m body → Has (over_value d family body) (IsScoped n m)
end_scoped n m d family count body none h scoped =
    let e : n + count + extra family ≡ n + extra family = omega (arith, none) in
    value_scoped n m d family body h (subst (λ k. IsScoped k m body) e scoped)

pub motive_scoped : (n m : ℕ) (d : InductiveDecl) (family : Option Tree) (count : ℕ) (arity body : Tree) → count ≤ count_products arity →
    IsScoped n m arity → IfSome family (IsScoped n m) → IsScoped (n + count + extra family) m body → Has (motive_over d family count arity body) (IsScoped n m)
motive_scoped n m d family count (Prod x a b) body few scoped h inside =
    has_if (count == 0)
    (λ none. end_scoped n m d family count body (grind (arith, nat_tests, none)) h inside)
    (λ some.
    let more : 0 < count = grind (arith, nat_tests, some) in
    has_bind (index_scoped n m family h) (λ deeper one.
    let same = one.1 in
    let e : n + count + extra family ≡ suc n + (count - 1) + extra deeper = omega (arith, more, same) in
    has_bind (motive_scoped (suc n) m d deeper (count - 1) b body (omega (arith, few, more)) scoped.1 one.0 (subst (λ k. IsScoped k m body) e inside)) (λ u two.
    has_sized (Lam x a u) (scoped.0, two))))
motive_scoped n m d family count (Var i) body few scoped h inside = end_scoped n m d family count body (omega (arith, few)) h inside
motive_scoped n m d family count (Sorted s) body few scoped h inside = end_scoped n m d family count body (omega (arith, few)) h inside
motive_scoped n m d family count (Constant c) body few scoped h inside = end_scoped n m d family count body (omega (arith, few)) h inside
motive_scoped n m d family count (Lam x a b) body few scoped h inside = end_scoped n m d family count body (omega (arith, few)) h inside
motive_scoped n m d family count (LetIn x a t b) body few scoped h inside = end_scoped n m d family count body (omega (arith, few)) h inside
motive_scoped n m d family count (App f a) body few scoped h inside = end_scoped n m d family count body (omega (arith, few)) h inside

-- as many products stand in front where values are put in
products_kept : (values : List Tree) (t : Tree) (binders : ℕ) → count_products t ≤ count_products (instantiate_under values t binders)
products_kept values (Prod x a b) binders = let rest = products_kept values b (binders + 1) in omega (arith, rest)
products_kept values (Var i) binders = omega arith
products_kept values (Sorted s) binders = omega arith
products_kept values (Constant c) binders = omega arith
products_kept values (Lam x a b) binders = omega arith
products_kept values (LetIn x a t b) binders = omega arith
products_kept values (App f a) binders = omega arith

family_by : (b : Bool) (env : List Slot) (ctx : List Hyp) (d : InductiveDecl) (x : Subject) → IsSubjectIn env ctx d x →
    Has (if b then Ok None else (at_params x.place x >>= (λ t. Ok (Some t))))
    (λ family. IfSome family (IsScoped (length ctx) (length env)) × (extra family ≡ (if b then 0 else 1)))
family_by true env ctx d x subject = has_ok None (tt, refl)
family_by false env ctx d x subject =
    has_bind (applied_scoped (length ctx) (length env) (Constant x.place) x.params subject.place subject.params) (λ t one. has_ok (Some t) (one, refl))

family_for : (env : List Slot) (ctx : List Hyp) (d : InductiveDecl) (x : Subject) → IsSubjectIn env ctx d x →
    Has (family_of d x) (λ family. IfSome family (IsScoped (length ctx) (length env)) × (extra family ≡ (if is_in_prop d then 0 else 1)))
family_for env ctx d x subject = family_by (is_in_prop d) env ctx d x subject

inside_by : (b : Bool) (n k : ℕ) (family : Option Tree) → extra family ≡ (if b then 0 else 1) →
    n + (if b then k else k + 1) ≡ n + k + extra family
inside_by true n k family e = omega (arith, e)
inside_by false n k family e = omega (arith, e)

pub motive_in : (env : List Slot) (ctx : List Hyp) (d : InductiveDecl) (x : Subject) (body : Tree) → IsSubjectIn env ctx d x → IsScopedDecl (length env) d →
    IsScoped (length ctx + (if is_in_prop d then length x.indices else length x.indices + 1)) (length env) body →
    Has (motive_of d x body) (IsScoped (length ctx) (length env))
motive_in env ctx d x body subject decl inside =
    let n : ℕ = length ctx in
    let m : ℕ = length env in
    let kept : count_products d.arity ≤ count_products (instantiate x.params d.arity) = products_kept x.params d.arity 0 in
    let few : length x.indices ≤ count_products (instantiate x.params d.arity) = (let fit = subject.fit in omega (arith, fit, kept)) in
    let scoped : IsScoped n m (instantiate x.params d.arity) =
    scoped_instantiate n m (length x.params) x.params d.arity refl (arity_scoped env ctx d x subject decl) subject.params in
    has_bind {P = λ arity. (length x.indices ≤ count_products arity) × IsScoped n m arity} (has_sized (instantiate x.params d.arity) (few, scoped)) (λ arity one.
    has_bind (family_for env ctx d x subject) (λ family two.
    motive_scoped n m d family (length x.indices) arity body one.0 one.1 two.0
    (subst (λ k. IsScoped k m body) (inside_by (is_in_prop d) n (length x.indices) family two.1) inside)))
