-- `simpl` keeps terms in scope.
use Rattle.std.specs.Prelude.{◌≡◌, ℕ, zero, suc, ◌+◌, ◌≤◌, ◌<◌, ◌==◌, ◌-◌, nat_le, List, [], ◌∷◌, ◌++◌, length, take, drop, Bool, true, false, ◌&&◌, Option, Some, None, refl, slice_get, if◌then◌else◌}
use Rattle.std.proofs.Common.{arith, ap, sym, ◌∙◌, subst}
use Rattle.std.proofs.lemmas.Bool.Decides.{nat_tests}
use Rattle.base_core.specs.declared.refusals.Stop.TheVariants.{Out}
use Rattle.base_core.specs.declared.refusals.Limit.TheVariants.{DepthLimit}
use Rattle.core_term.specs.Tree.{Tree, Var, Sorted, Constant, Prod, Lam, LetIn, App}
use Rattle.core_term.specs.Places.{subst_of}
use Rattle.term_spine.specs.Instantiate.{instantiate, instantiate_under, instantiate_all, values_under}
use Rattle.term_spine.specs.Spine.{head_of, arguments_of, apply_all, eta_body}
use Rattle.cic_rules.specs.declared.decls.Ctor.{Ctor}
use Rattle.cic_rules.specs.declared.decls.InductiveDecl.{InductiveDecl}
use Rattle.cic_rules.specs.declared.env.Slot.{Slot}
use Rattle.cic_rules.specs.declared.shapes.FamilyShape.{FamilyShape}
use Rattle.cic_rules.specs.Environments.{AreScopedCtors, decl_at, body_of_global, IsEnvironment}
use Rattle.cic_rules.specs.Families.{Family, indices, newest_first, eliminator_of, constructor_of, major_index, count_fixed, value_among, major_premise, iota}
use Rattle.cic_rules.specs.Laws.{Tells, Turned}
use Rattle.cic_rules.specs.Reduce.{Redex, Stuck, Reduces, OnMajor, global_redex, redex_of, contract, contract_iota, reduce_redex}
use Rattle.cic_rules.specs.Runs.{Run, GoOn, Final, spend, check_size}
use Rattle.cic_rules.specs.Scopes.{IsScoped, AreScoped}
use Rattle.cic_rules.specs.Shapes.{shape_if_any, shape_of}
use Rattle.cic_rules.proofs.EnvironmentScopes.{body_scoped, decl_scoped}
use Rattle.cic_rules.proofs.IotaScopes.{scoped_iota, scoped_newest, length_newest}
use Rattle.cic_rules.proofs.ScopeLaws.{scoped_head, scoped_arguments, scoped_apply_all, scoped_get, scoped_subst, scoped_take, scoped_drop, scoped_shift, scoped_shift_all, scoped_eta, scoped_under, length_under, scoped_instantiate, scoped_instantiate_all}
use Rattle.cic_rules.proofs.TellsLaws.{tells_pure, tells_stop, tells_bind, tells_step, tells_loop}
use Rattle.move_compute.specs.Cases.{call_under, call_on, argument_on, case_on}
use Rattle.move_compute.specs.Firing.{chosen_case, chosen_marks, chosen_ctor, chosen_index, chosen_in, chosen_by, chosen}
use Rattle.move_compute.specs.Refold.{stripped, stands_once, refold_on, refold_in, refold_of_body, refold_of, own_eliminator, own_call, refolded}
use Rattle.move_compute.specs.Simpl.{contract_refold, by_parts, rebuilt, refold_step, head_step_by, head_step, simpl_head_at, simpl_at}
use Rattle.move_compute.specs.declared.cases.Call.{Call}
use Rattle.move_compute.specs.declared.firing.Chosen.{Chosen}
use Rattle.move_compute.specs.declared.refolds.Refold.{Refold}

pub record IsScopedCall (n m : ℕ) (call : Call) : Type 0 where
  pub front : IsScoped n m call.front
  pub behind : AreScoped n m call.behind

call_deeper : (n m : ℕ) (call : Call) → IsScopedCall n m call → IsScopedCall (suc n) m (call_under call)
call_deeper n m call h = record { front = scoped_shift n m call.front h.front; behind = scoped_shift_all n m call.behind h.behind }

call_end : (n m p params : ℕ) (call : Call) (x : Tree) (values : List Tree) (t : Tree) → p ≡ length values → IsScopedCall n m call → IsScoped n m x →
    AreScoped n m values → IsScoped p m t → IsScoped n m (apply_all (App (apply_all call.front (instantiate_all values (indices params t))) x) call.behind)
call_end n m p params call x values t e h v all s =
    scoped_apply_all n m (App (apply_all call.front (instantiate_all values (indices params t))) x) call.behind (
      scoped_apply_all n m call.front (instantiate_all values (indices params t)) h.front
          (scoped_instantiate_all n m p values (indices params t) e (scoped_drop p m params (arguments_of t) (scoped_arguments p m t s)) all),
      v,
    ) h.behind

scoped_call : (n m p params : ℕ) (call : Call) (x : Tree) (values : List Tree) (t : Tree) → p ≡ length values → IsScopedCall n m call → IsScoped n m x →
    AreScoped n m values → IsScoped p m t → IsScoped n m (call_on params call x values t)
scoped_call n m p params call x values (Prod k a b) e h v all t = (
  scoped_instantiate n m p values a e t.0 all,
  scoped_call (suc n) m (suc p) params (call_under call) (eta_body x) (values_under values) b (ap suc e ∙ sym (length_under values))
      (call_deeper n m call h) (scoped_eta n m x v) (scoped_under n m values all) t.1,
)
scoped_call n m p params call x values (Var i) e h v all s = call_end n m p params call x values (Var i) e h v all s
scoped_call n m p params call x values (Sorted r) e h v all s = call_end n m p params call x values (Sorted r) e h v all s
scoped_call n m p params call x values (Constant c) e h v all s = call_end n m p params call x values (Constant c) e h v all s
scoped_call n m p params call x values (Lam k a b) e h v all s = call_end n m p params call x values (Lam k a b) e h v all s
scoped_call n m p params call x values (LetIn k a t b) e h v all s = call_end n m p params call x values (LetIn k a t b) e h v all s
scoped_call n m p params call x values (App f a) e h v all s = call_end n m p params call x values (App f a) e h v all s

argument_to : (b : Bool) (n m p params : ℕ) (call : Call) (case v : Tree) (values : List Tree) (a : Tree) → p ≡ length values → IsScopedCall n m call →
    IsScoped n m case → IsScoped n m v → AreScoped n m values → IsScoped p m a → IsScoped n m (argument_on params b call case v values a)
argument_to false n m p params call case v values a e h c w all t = (c, w)
argument_to true n m p params call case v values a e h c w all t = ((c, w), scoped_call n m p params call v values a e h w all t)

scoped_case : (n m p params : ℕ) (marks : List Bool) (call : Call) (case : Tree) (values : List Tree) (ty : Tree) (vs : List Tree) → p ≡ length values →
    IsScopedCall n m call → IsScoped n m case → AreScoped n m values → IsScoped p m ty → AreScoped n m vs →
    IsScoped n m (case_on params marks call case values ty vs)
scoped_case n m p params (mark ∷ marks) call case values (Prod k a b) (v ∷ vs) e h c all t hs =
    scoped_case n m (suc p) params marks call (argument_on params mark call case v values a) (v ∷ values) b vs (ap suc e) h
    (argument_to mark n m p params call case v values a e h c hs.0 all t.0) (hs.0, all) t.1 hs.1
scoped_case n m p params marks call case values ty vs e h c all t hs = c

-- a case that was chosen among arguments: it is one of them, and its type stands in the context of the parameters
pub record IsChosenIn (n m : ℕ) (args : List Tree) (c : Chosen) : Type 0 where
  pub count : c.params ≤ length args
  pub case : (vars : ℕ) → AreScoped vars m args → IsScoped vars m c.case
  pub ty : IsScoped c.params m c.ty
  pub given : AreScoped n m c.given

get_within : (i : ℕ) (ts : List Tree) (t : Tree) → slice_get ts i ≡ Some t → i < length ts
get_within i [] t e = cc
get_within zero (u ∷ us) t e = omega arith
get_within (suc i) (u ∷ us) t e = let rest = get_within i us t e in omega (arith, rest)

ctor_scoped : (n m i : ℕ) (cs : List Ctor) (c : Ctor) → slice_get cs i ≡ Some c → AreScopedCtors n m cs → IsScoped n m c.ty
ctor_scoped n m i [] c e h = cc
ctor_scoped n m zero (d ∷ ds) c e h = let same : d ≡ c = cc in subst (λ x. IsScoped n m x.ty) same h.0
ctor_scoped n m (suc i) (d ∷ ds) c e h = ctor_scoped n m i ds c e h.1

some_is : {A : Type 0} (b : Bool) (x u : A) → (if b then Some x else None) ≡ Some u → x ≡ u
some_is true x u e = cc
some_is false x u e = cc

module _ (n m : ℕ) (shape : FamilyShape) (args given : List Tree) (hs : AreScoped n m given) where
  case_in : (index : ℕ) (c : Ctor) (marks : List Bool) (found : Option Tree) (u : Chosen) → slice_get args (shape.params + 1 + index) ≡ found →
      IsScoped shape.params m c.ty → chosen_case shape given c marks found ≡ Some u → IsChosenIn n m args u
  case_in index c marks None u is ty e = cc
  case_in index c marks (Some case) u is ty e =
      let within = get_within (shape.params + 1 + index) args case is in
      let made : IsChosenIn n m args (record { params = shape.params; marks = marks; ty = c.ty; case = case; given = drop shape.params given }) =
      record {
        count = omega (arith, within);
        case = λ vars all. scoped_get vars m (shape.params + 1 + index) args case is all;
        ty = ty;
        given = scoped_drop n m shape.params given hs;
      } in
      subst (IsChosenIn n m args) (some_is (length given == shape.params + length marks) _ u e) made

  marks_in : (index : ℕ) (c : Ctor) (found : Option (List Bool)) (u : Chosen) → IsScoped shape.params m c.ty →
      chosen_marks shape given args index c found ≡ Some u → IsChosenIn n m args u
  marks_in index c None u ty e = cc
  marks_in index c (Some marks) u ty e = case_in index c marks (slice_get args (shape.params + 1 + index)) u refl ty e

  ctor_in : (cs : List Ctor) (index : ℕ) (found : Option Ctor) (u : Chosen) → slice_get cs index ≡ found → AreScopedCtors shape.params m cs →
      chosen_ctor shape given args index found ≡ Some u → IsChosenIn n m args u
  ctor_in cs index None u is ctors e = cc
  ctor_in cs index (Some c) u is ctors e = marks_in index c (slice_get shape.recursive index) u (ctor_scoped shape.params m index cs c is ctors) e

  index_in : (d : InductiveDecl) (found : Option ℕ) (u : Chosen) → AreScopedCtors shape.params m d.ctors →
      chosen_index shape given args d found ≡ Some u → IsChosenIn n m args u
  index_in d None u ctors e = cc
  index_in d (Some index) u ctors e = ctor_in d.ctors index (slice_get d.ctors index) u refl ctors e

module _ (env : List Slot) (is : IsEnvironment env) where
  decl_in : (n family : ℕ) (found : Option InductiveDecl) (args given : List Tree) (index : Option ℕ) (u : Chosen) → decl_at env family ≡ found →
      AreScoped n (length env) given → chosen_in found (shape_if_any family found) args given index ≡ Some u → IsChosenIn n (length env) args u
  decl_in n family None args given index u at hs e = cc
  decl_in n family (Some d) args given index u at hs e =
      index_in n (length env) (shape_of family d) args given hs d index u (decl_scoped env is family d at).ctors e

  pub chosen_in_scope : (n family : ℕ) (args : List Tree) (head : Tree) (given : List Tree) (u : Chosen) → AreScoped n (length env) given →
      chosen_by env family args head given ≡ Some u → IsChosenIn n (length env) args u
  chosen_in_scope n family args head given u hs e = decl_in n family (decl_at env family) args given (constructor_of env family head) u refl hs e

-- a definition that goes on: its eliminator stands under its abstractions
pub record IsScopedRefold (m : ℕ) (r : Refold) : Type 0 where
  pub eliminator : IsScoped r.count m r.eliminator

stripped_scoped : (n m : ℕ) (under : List Tree) (t : Tree) → n ≡ length under → IsScoped n m t →
    IsScoped (length (stripped under t).under) m (stripped under t).body
stripped_scoped n m under (Lam k a b) e h = stripped_scoped (suc n) m (b ∷ under) b (ap suc e) h.1
stripped_scoped n m under (Var i) e h = subst (λ k. IsScoped k m (Var i)) e h
stripped_scoped n m under (Sorted s) e h = tt
stripped_scoped n m under (Constant c) e h = h
stripped_scoped n m under (Prod k a b) e h = subst (λ x. IsScoped x m (Prod k a b)) e h
stripped_scoped n m under (LetIn k a t b) e h = subst (λ x. IsScoped x m (LetIn k a t b)) e h
stripped_scoped n m under (App f a) e h = subst (λ x. IsScoped x m (App f a)) e h

refold_on_scoped : (m : ℕ) (under : List Tree) (family : ℕ) (eliminator : Tree) (found : Option Tree) (r : Refold) → IsScoped (length under) m eliminator →
    refold_on under family eliminator found ≡ Some r → IsScopedRefold m r
refold_on_scoped m under family eliminator (Some (Var i)) r h e =
    let made : IsScopedRefold m (record { count = length under; at = length under - suc i; family = family; eliminator = eliminator }) = record { eliminator = h } in
    subst (IsScopedRefold m) (some_is (stands_once (slice_get under i)) _ r e) made
refold_on_scoped m under family eliminator (Some (Sorted s)) r h e = cc
refold_on_scoped m under family eliminator (Some (Constant c)) r h e = cc
refold_on_scoped m under family eliminator (Some (Prod n a b)) r h e = cc
refold_on_scoped m under family eliminator (Some (Lam n a b)) r h e = cc
refold_on_scoped m under family eliminator (Some (LetIn n a t b)) r h e = cc
refold_on_scoped m under family eliminator (Some (App f a)) r h e = cc
refold_on_scoped m under family eliminator None r h e = cc

tested : (b : Bool) (found : Option Refold) (r : Refold) → (if b then found else None) ≡ Some r → found ≡ Some r
tested true found r e = e
tested false found r e = cc

refold_in_scoped : (m : ℕ) (under : List Tree) (f : Option Family) (head : Tree) (args : List Tree) (r : Refold) → IsScoped (length under) m head →
    AreScoped (length under) m args → refold_in under f head args ≡ Some r → IsScopedRefold m r
refold_in_scoped m under None head args r h all e = cc
refold_in_scoped m under (Some f) head args r h all e =
    refold_on_scoped m under f.place (apply_all head (take (count_fixed f.decl) args)) (slice_get args (count_fixed f.decl)) r
    (scoped_apply_all (length under) m head (take (count_fixed f.decl) args) h (scoped_take (length under) m (count_fixed f.decl) args all))
    (tested (major_index f.decl == count_fixed f.decl && length args == count_fixed f.decl + 1) _ r e)

module _ (env : List Slot) (is : IsEnvironment env) where
  body_refold : (c : ℕ) (found : Option Tree) (r : Refold) → body_of_global env c ≡ found → refold_of_body env found ≡ Some r → IsScopedRefold (length env) r
  body_refold c None r at e = cc
  body_refold c (Some body) r at e =
      let inner = stripped_scoped 0 (length env) [] body refl (body_scoped env is 0 c body at) in
      refold_in_scoped (length env) (stripped [] body).under (eliminator_of env (head_of (stripped [] body).body)) (head_of (stripped [] body).body)
      (arguments_of (stripped [] body).body) r (scoped_head (length (stripped [] body).under) (length env) (stripped [] body).body inner)
      (scoped_arguments (length (stripped [] body).under) (length env) (stripped [] body).body inner) e

  pub refold_scoped : (head : Tree) (r : Refold) → refold_of env head ≡ Some r → IsScopedRefold (length env) r
  refold_scoped (Constant c) r e = body_refold c (body_of_global env c) r refl e
  refold_scoped (Var i) r e = cc
  refold_scoped (Sorted s) r e = cc
  refold_scoped (Prod n a b) r e = cc
  refold_scoped (Lam n a b) r e = cc
  refold_scoped (LetIn n a t b) r e = cc
  refold_scoped (App f a) r e = cc

length_taken : (i : ℕ) (ts : List Tree) → i ≤ length ts → length (take i ts) ≡ i
length_taken zero ts le = refl
length_taken (suc i) [] le = let none : ⊥ = omega (arith, le) in absurd none
length_taken (suc i) (t ∷ ts) le = ap suc (length_taken i ts (omega (arith, le)))

newest_count : (i : ℕ) (ts : List Tree) → i ≤ length ts → i ≡ length (newest_first (take i ts) [])
newest_count i ts le = let made = length_newest (take i ts) [] in let taken = length_taken i ts le in omega (arith, made, taken)

append_count : (ts us : List Tree) → length (ts ++ us) ≡ length ts + length us
append_count [] us = omega arith
append_count (t ∷ ts) us = let rest = append_count ts us in omega (arith, rest)

-- no argument is lost where values are put in
pub arguments_kept : (values : List Tree) (t : Tree) (binders : ℕ) → length (arguments_of t) ≤ length (arguments_of (instantiate_under values t binders))
arguments_kept values (App f a) binders =
    let rest = arguments_kept values f binders in
    let one = append_count (arguments_of f) (a ∷ []) in
    let two = append_count (arguments_of (instantiate_under values f binders)) (instantiate_under values a binders ∷ []) in
    omega (arith, rest, one, two)
arguments_kept values (Var i) binders = omega arith
arguments_kept values (Sorted s) binders = omega arith
arguments_kept values (Constant c) binders = omega arith
arguments_kept values (Prod n a b) binders = omega arith
arguments_kept values (Lam n a b) binders = omega arith
arguments_kept values (LetIn n a t b) binders = omega arith

pub refolded_scoped : (n m : ℕ) (r : Refold) (head : Tree) (args : List Tree) (c : Chosen) → IsScopedRefold m r → IsScoped n m head → AreScoped n m args →
    r.count ≤ length args → IsChosenIn n m (arguments_of r.eliminator) c → IsScoped n m (refolded r head args c)
refolded_scoped n m r head args c is h all enough chosen =
    let values = newest_first (take r.count args) [] in
    let count : r.count ≡ length (newest_first (take r.count args) []) = newest_count r.count args enough in
    let good : AreScoped n m (newest_first (take r.count args) []) = scoped_newest n m (take r.count args) [] (scoped_take n m r.count args all) tt in
    let inner : IsScoped n m (own_eliminator r head args) = scoped_instantiate n m r.count (newest_first (take r.count args) []) r.eliminator count is.eliminator good in
    let inner_args = scoped_arguments n m (own_eliminator r head args) inner in
    let kept = arguments_kept (newest_first (take r.count args) []) r.eliminator 0 in
    let few = chosen.count in
    let within : c.params ≤ length (arguments_of (own_eliminator r head args)) = omega (arith, kept, few) in
    let case : IsScoped n m (instantiate (newest_first (take r.count args) []) c.case) =
    scoped_instantiate n m r.count (newest_first (take r.count args) []) c.case count (chosen.case r.count (scoped_arguments r.count m r.eliminator is.eliminator)) good in
    scoped_apply_all n m _ (drop r.count args)
    (scoped_case n m c.params c.params c.marks (own_call r head args) (instantiate (newest_first (take r.count args) []) c.case)
    (newest_first (take c.params (arguments_of (own_eliminator r head args))) []) c.ty c.given
    (newest_count c.params (arguments_of (own_eliminator r head args)) within)
    (record {
      front = scoped_apply_all n m head (take r.at args) h (scoped_take n m r.at args all);
      behind = scoped_take n m (r.count - r.at - 1) (drop (r.at + 1) args) (scoped_drop n m (r.at + 1) args all);
    }) case
    (scoped_newest n m (take c.params (arguments_of (own_eliminator r head args))) [] (scoped_take n m c.params (arguments_of (own_eliminator r head args)) inner_args) tt)
    chosen.ty chosen.given)
    (scoped_drop n m r.count args all)

-- what a head can do keeps the scope; without a context no variable is unfolded
IsScopedRedex : ℕ → ℕ → Redex → Type 0
IsScopedRedex n m Stuck = Unit {0}
IsScopedRedex n m (Reduces units to) = IsScoped n m to
IsScopedRedex n m (OnMajor major) = IsScoped n m major

major_by : (n m : ℕ) (args : List Tree) (found : Option Family) → AreScoped n m args → (t : Tree) → value_among args found ≡ Some t → IsScoped n m t
major_by n m args None all t e = cc
major_by n m args (Some f) all t e = scoped_get n m (major_index f.decl) args t e all

constant_redex : (n m : ℕ) (major : Option Tree) (args : List Tree) → ((t : Tree) → major ≡ Some t → IsScoped n m t) → IsScopedRedex n m (global_redex None major args)
unfolding IsScopedRedex
constant_redex n m None args h = tt
constant_redex n m (Some t) args h = h t refl

redex_scoped : (env : List Slot) (n m : ℕ) (h : Tree) (args : List Tree) → IsScoped n m h → AreScoped n m args → IsScopedRedex n m (redex_of env false [] h args)
unfolding IsScopedRedex
redex_scoped env n m (Lam k a b) (v ∷ args) h all =
    scoped_apply_all n m (subst_of b v 0) args (scoped_subst n (suc n) m 0 b v refl (omega arith) h.1 all.0) all.1
redex_scoped env n m (Lam k a b) [] h all = tt
redex_scoped env n m (LetIn k a t b) args h all = scoped_apply_all n m (subst_of b t 0) args (scoped_subst n (suc n) m 0 b t refl (omega arith) h.2 h.1) all
redex_scoped env n m (Constant c) args h all =
    constant_redex n m (major_premise env (Constant c) args) args (λ t e. major_by n m args (eliminator_of env (Constant c)) all t e)
redex_scoped env n m (Var i) args h all = tt
redex_scoped env n m (Sorted s) args h all = tt
redex_scoped env n m (Prod k a b) args h all = tt
redex_scoped env n m (App f a) args h all = tt

module _ (env : List Slot) (is : IsEnvironment env) (n : ℕ) where
  abbrev InScope : Tree → Type 0
  InScope t = IsScoped n (length env) t

  contract_tells : (units : ℕ) (to : Tree) → InScope to → Tells (contract units to) (Turned InScope InScope)
  contract_tells units to h = tells_step (spend units) (tells_step (check_size to) (tells_pure (GoOn to) h))

  iota_tells : (t : Tree) (found : Option Tree) → InScope t → ((u : Tree) → found ≡ Some u → InScope u) → Tells (contract_iota t found) (Turned InScope InScope)
  iota_tells t None h k = tells_pure (Final t) h
  iota_tells t (Some to) h k = contract_tells 1 to (k to refl)

  refold_tells : (t head : Tree) (args : List Tree) (r : Refold) (found : Option Chosen) → InScope t → InScope head → AreScoped n (length env) args →
      IsScopedRefold (length env) r → r.count ≤ length args → ((c : Chosen) → found ≡ Some c → IsChosenIn n (length env) (arguments_of r.eliminator) c) →
      Tells (contract_refold t head args r found) (Turned InScope InScope)
  refold_tells t head args r None whole h all refold enough chosen = tells_pure (Final t) whole
  refold_tells t head args r (Some c) whole h all refold enough chosen =
      tells_step (spend 2) (tells_step (check_size (own_eliminator r head args)) (tells_step (check_size (refolded r head args c))
      (tells_pure (GoOn (refolded r head args c)) (refolded_scoped n (length env) r head args c refold h all enough (chosen c refl)))))

  module _ (reduce : Tree → Run Tree) (reduces : (v : Tree) → InScope v → Tells (reduce v) InScope) (t : Tree) (whole : InScope t) where
    args_scoped : AreScoped n (length env) (arguments_of t)
    args_scoped = scoped_arguments n (length env) t whole

    first_scoped : IsScoped n (length env) (head_of t)
    first_scoped = scoped_head n (length env) t whole

    redex_tells : (redex : Redex) → IsScopedRedex n (length env) redex → Tells (reduce_redex env false reduce t redex) (Turned InScope InScope)
    unfolding IsScopedRedex
    redex_tells Stuck k = tells_pure (Final t) whole
    redex_tells (Reduces units to) k = contract_tells units to k
    redex_tells (OnMajor major) k =
        tells_bind (reduces major k) (λ value good. iota_tells t (iota env (head_of t) (arguments_of t) value) whole
        (λ u e. scoped_iota env is n (head_of t) (arguments_of t) value u first_scoped args_scoped good e))

    value_tells : (r : Refold) (found : Option Tree) → slice_get (arguments_of t) r.at ≡ found → r.count ≤ length (arguments_of t) → IsScopedRefold (length env) r →
        Tells (refold_step env reduce t (head_of t) (arguments_of t) r found) (Turned InScope InScope)
    value_tells r None at enough refold = tells_pure (Final t) whole
    value_tells r (Some v) at enough refold =
        tells_bind (reduces v (scoped_get n (length env) r.at (arguments_of t) v at args_scoped))
        (λ w good. refold_tells t (head_of t) (arguments_of t) r (chosen env r.family (arguments_of r.eliminator) w) whole first_scoped args_scoped refold enough
        (λ c e. chosen_in_scope env is n r.family (arguments_of r.eliminator) (head_of w) (arguments_of w) c (scoped_arguments n (length env) w good) e))

    awaited_tells : (r : Refold) (b : Bool) → nat_le r.count (length (arguments_of t)) ≡ b → IsScopedRefold (length env) r →
        Tells (refold_step env reduce t (head_of t) (arguments_of t) r (if b then slice_get (arguments_of t) r.at else None)) (Turned InScope InScope)
    awaited_tells r false e refold = tells_pure (Final t) whole
    awaited_tells r true e refold = value_tells r (slice_get (arguments_of t) r.at) refl (grind (arith, nat_tests, e)) refold

    head_tells_by : (found : Option Refold) → refold_of env (head_of t) ≡ found → Tells (head_step_by env reduce t (head_of t) (arguments_of t) found) (Turned InScope InScope)
    head_tells_by None e = redex_tells (redex_of env false [] (head_of t) (arguments_of t)) (redex_scoped env n (length env) (head_of t) (arguments_of t) first_scoped args_scoped)
    head_tells_by (Some r) e = awaited_tells r (nat_le r.count (length (arguments_of t))) refl (refold_scoped env is (head_of t) r e)

    pub head_tells : Tells (head_step env reduce t) (Turned InScope InScope)
    head_tells = head_tells_by (refold_of env (head_of t)) refl

  pub simpl_head_scoped : (calls : ℕ) (t : Tree) → InScope t → Tells (simpl_head_at env calls t) InScope
  unfolding simpl_head_at
  simpl_head_scoped zero t h = tells_stop (Out DepthLimit)
  simpl_head_scoped (suc calls) t h =
      tells_loop InScope InScope (head_step env (simpl_head_at env calls)) (λ s k. head_tells (simpl_head_at env calls) (simpl_head_scoped calls) s k) t h

rebuilt_tells : (n m : ℕ) (t : Tree) → IsScoped n m t → Tells (rebuilt t) (IsScoped n m)
rebuilt_tells n m t h = tells_step (check_size t) (tells_pure t h)

module _ (env : List Slot) (is : IsEnvironment env) where
  parts_scoped : (run : Tree → Run Tree) → ((n : ℕ) (t : Tree) → IsScoped n (length env) t → Tells (run t) (IsScoped n (length env))) → (n : ℕ) (t : Tree) →
      IsScoped n (length env) t → Tells (by_parts run t) (IsScoped n (length env))
  parts_scoped run runs n (Prod k a b) h =
      tells_bind (runs n a h.0) (λ x one. tells_bind (runs (suc n) b h.1) (λ y two. rebuilt_tells n (length env) (Prod k x y) (one, two)))
  parts_scoped run runs n (Lam k a b) h =
      tells_bind (runs n a h.0) (λ x one. tells_bind (runs (suc n) b h.1) (λ y two. rebuilt_tells n (length env) (Lam k x y) (one, two)))
  parts_scoped run runs n (LetIn k a t b) h =
      tells_bind (runs n a h.0) (λ x one. tells_bind (runs n t h.1) (λ y two. tells_bind (runs (suc n) b h.2) (λ z three.
      rebuilt_tells n (length env) (LetIn k x y z) (one, two, three))))
  parts_scoped run runs n (App f a) h =
      tells_bind (runs n f h.0) (λ x one. tells_bind (runs n a h.1) (λ y two. rebuilt_tells n (length env) (App x y) (one, two)))
  parts_scoped run runs n (Var i) h = tells_pure (Var i) h
  parts_scoped run runs n (Sorted s) h = tells_pure (Sorted s) h
  parts_scoped run runs n (Constant c) h = tells_pure (Constant c) h

  pub simpl_scoped : (calls n : ℕ) (t : Tree) → IsScoped n (length env) t → Tells (simpl_at env calls t) (IsScoped n (length env))
  unfolding simpl_at
  simpl_scoped zero n t h = tells_stop (Out DepthLimit)
  simpl_scoped (suc calls) n t h =
      tells_step (spend 1) (tells_bind (simpl_head_scoped env is n calls t h) (λ u good. parts_scoped (simpl_at env calls) (simpl_scoped calls) n u good))
