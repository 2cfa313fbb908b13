-- The iota rule keeps terms in scope.
use Rattle.std.proofs.Common.{◌≡◌, ℕ, zero, suc, ◌+◌, ◌<◌, ◌≤◌, ◌==◌, List, [], ◌∷◌, length, take, drop, Bool, true, false, Option, Some, None, refl, sym, ap, ◌∙◌, subst, arith}
use Rattle.std.specs.Prelude.{if◌then◌else◌, slice_get}
use Rattle.core_term.specs.Tree.{Tree, Constant, Prod}
use Rattle.term_spine.specs.Globals.{mentions}
use Rattle.term_spine.specs.Instantiate.{instantiate_all, values_under}
use Rattle.term_spine.specs.Spine.{head_of, arguments_of, apply_all, count_products, shift, eta_body}
use Rattle.cic_rules.specs.declared.decls.Ctor.{Ctor}
use Rattle.cic_rules.specs.declared.decls.InductiveDecl.{InductiveDecl}
use Rattle.cic_rules.specs.declared.entries.Entry.{Entry}
use Rattle.cic_rules.specs.declared.entries.EntryKind.{EntryKind}
use Rattle.cic_rules.specs.declared.entries.EntryKind.TheVariants.{Assumed, Admitted, Defined, Inductive, Constructor, Eliminator}
use Rattle.cic_rules.specs.declared.env.Slot.{Slot}
use Rattle.cic_rules.specs.Environments.{entry_at, decl_at, IsEnvironment, AreScopedCtors}
use Rattle.cic_rules.specs.Families.{Family, count_params, count_fixed, major_index, family_at, eliminated, eliminated_by, eliminator_of, constructor_of, newest_first, indices, recursive_call, case_applied_to, case_applied, iota_result, iota_case, iota_ctor, iota_index, iota_family, iota}
use Rattle.cic_rules.specs.Scopes.{IsScoped, AreScoped}
use Rattle.cic_rules.proofs.ScopeLaws.{scoped_drop, scoped_take, scoped_get, scoped_arguments, scoped_apply_all, scoped_shift, scoped_eta, scoped_under, length_under, scoped_instantiate, scoped_instantiate_all}
use Rattle.cic_rules.proofs.EnvironmentScopes.{decl_scoped}

scoped_call : (n m p params : ℕ) (eliminator x : Tree) (values : List Tree) (t : Tree) → p ≡ length values → IsScoped n m eliminator → IsScoped n m x →
    AreScoped n m values → IsScoped p m t → IsScoped n m (recursive_call params eliminator x values t)
scoped_call n m p params eliminator x values (Prod k a b) e h v all t = (
  scoped_instantiate n m p values a e t.0 all,
  scoped_call (suc n) m (suc p) params (shift eliminator) (eta_body x) (values_under values) b (ap suc e ∙ sym (length_under values))
      (scoped_shift n m eliminator h) (scoped_eta n m x v) (scoped_under n m values all) t.1,
)
scoped_call n m p params eliminator x values t e h v all s = (
  scoped_apply_all n m eliminator (instantiate_all values (indices params t)) h
      (scoped_instantiate_all n m p values (indices params t) e (scoped_drop p m params (arguments_of t) (scoped_arguments p m t s)) all),
  v,
)

case_to : (b : Bool) (n m p params : ℕ) (eliminator case v : Tree) (values : List Tree) (a : Tree) → p ≡ length values → IsScoped n m eliminator →
    IsScoped n m case → IsScoped n m v → AreScoped n m values → IsScoped p m a → IsScoped n m (case_applied_to params b eliminator case v values a)
case_to false n m p params eliminator case v values a e h c w all t = (c, w)
case_to true n m p params eliminator case v values a e h c w all t = ((c, w), scoped_call n m p params eliminator v values a e h w all t)

scoped_case : (n m p params place : ℕ) (eliminator case : Tree) (values : List Tree) (ty : Tree) (vs : List Tree) → p ≡ length values →
    IsScoped n m eliminator → IsScoped n m case → AreScoped n m values → IsScoped p m ty → AreScoped n m vs →
    IsScoped n m (case_applied params place eliminator case values ty vs)
scoped_case n m p params place eliminator case values (Prod k a b) (v ∷ vs) e h c all t hs =
    scoped_case n m (suc p) params place eliminator (case_applied_to params (mentions place a) eliminator case v values a) (v ∷ values) b vs (ap suc e) h
    (case_to (mentions place a) n m p params eliminator case v values a e h c hs.0 all t.0) (hs.0, all) t.1 hs.1
scoped_case n m p params place eliminator case values ty vs e h c all t hs = c

pub scoped_newest : (n m : ℕ) (ts later : List Tree) → AreScoped n m ts → AreScoped n m later → AreScoped n m (newest_first ts later)
scoped_newest n m [] later h k = k
scoped_newest n m (t ∷ ts) later h k = scoped_newest n m ts (t ∷ later) h.1 (h.0, k)

pub length_newest : (ts later : List Tree) → length (newest_first ts later) ≡ length ts + length later
length_newest [] later = omega arith
length_newest (t ∷ ts) later = let rest = length_newest ts (t ∷ later) in omega (arith, rest)

length_taken : (i : ℕ) (ts : List Tree) → i ≤ length ts → length (take i ts) ≡ i
length_taken zero ts le = refl
length_taken (suc i) [] le = let none : ⊥ = omega (arith, le) in absurd none
length_taken (suc i) (t ∷ ts) le = ap suc (length_taken i ts (omega (arith, le)))

get_within : (i : ℕ) (ts : List Tree) (t : Tree) → slice_get ts i ≡ Some t → i < length ts
get_within i [] t e = cc
get_within zero (u ∷ us) t e = omega arith
get_within (suc i) (u ∷ us) t e = let rest = get_within i us t e in omega (arith, rest)

ctor_scoped : (n m i : ℕ) (cs : List Ctor) (c : Ctor) → slice_get cs i ≡ Some c → AreScopedCtors n m cs → IsScoped n m c.ty
ctor_scoped n m i [] c e h = cc
ctor_scoped n m zero (d ∷ ds) c e h = let same : d ≡ c = cc in subst (λ x. IsScoped n m x.ty) same h.0
ctor_scoped n m (suc i) (d ∷ ds) c e h = ctor_scoped n m i ds c e h.1

some_is : {A : Type 0} (b : Bool) (x u : A) → (if b then Some x else None) ≡ Some u → x ≡ u
some_is true x u e = cc
some_is false x u e = cc

module _ (n m : ℕ) (f : Family) (head : Tree) (args : List Tree) (h : IsScoped n m head) (all : AreScoped n m args) where
  scoped_result : (c : Ctor) (case : Tree) (index : ℕ) (ctor_args : List Tree) → slice_get args (count_params f.decl + 1 + index) ≡ Some case →
      IsScoped (count_params f.decl) m c.ty → AreScoped n m ctor_args → IsScoped n m (iota_result f head args c case ctor_args)
  scoped_result c case index ctor_args found ty hs =
      let within = get_within (count_params f.decl + 1 + index) args case found in
      let enough : count_params f.decl ≤ length args = omega (arith, within) in
      let taken = length_taken (count_params f.decl) args enough in
      let made = length_newest (take (count_params f.decl) args) [] in
      let count : count_params f.decl ≡ length (newest_first (take (count_params f.decl) args) []) = omega (arith, taken, made) in
      scoped_apply_all n m _ (drop (major_index f.decl + 1) args)
      (scoped_case n m (count_params f.decl) (count_params f.decl) f.place (apply_all head (take (count_fixed f.decl) args)) case
      (newest_first (take (count_params f.decl) args) []) c.ty ctor_args count
      (scoped_apply_all n m head (take (count_fixed f.decl) args) h (scoped_take n m (count_fixed f.decl) args all))
      (scoped_get n m (count_params f.decl + 1 + index) args case found all)
      (scoped_newest n m (take (count_params f.decl) args) [] (scoped_take n m (count_params f.decl) args all) tt) ty hs)
      (scoped_drop n m (major_index f.decl + 1) args all)

  scoped_iota_case : (c : Ctor) (index : ℕ) (found : Option Tree) (value_args : List Tree) (u : Tree) →
      slice_get args (count_params f.decl + 1 + index) ≡ found → IsScoped (count_params f.decl) m c.ty → AreScoped n m value_args →
      iota_case f head args c found value_args ≡ Some u → IsScoped n m u
  scoped_iota_case c index None value_args u is ty hs e = cc
  scoped_iota_case c index (Some case) value_args u is ty hs e =
      subst (IsScoped n m) (some_is (length value_args == count_params f.decl + count_products c.ty) _ u e)
      (scoped_result c case index (drop (count_params f.decl) value_args) is ty (scoped_drop n m (count_params f.decl) value_args hs))

  scoped_iota_ctor : (index : ℕ) (found : Option Ctor) (value_args : List Tree) (u : Tree) → slice_get f.decl.ctors index ≡ found →
      AreScopedCtors (count_params f.decl) m f.decl.ctors → AreScoped n m value_args → iota_ctor f head args index found value_args ≡ Some u → IsScoped n m u
  scoped_iota_ctor index None value_args u is ctors hs e = cc
  scoped_iota_ctor index (Some c) value_args u is ctors hs e =
      scoped_iota_case c index (slice_get args (count_params f.decl + 1 + index)) value_args u refl
      (ctor_scoped (count_params f.decl) m index f.decl.ctors c is ctors) hs e

  scoped_iota_index : (found : Option ℕ) (value_args : List Tree) (u : Tree) →
      AreScopedCtors (count_params f.decl) m f.decl.ctors → AreScoped n m value_args → iota_index f head args found value_args ≡ Some u → IsScoped n m u
  scoped_iota_index None value_args u ctors hs e = cc
  scoped_iota_index (Some index) value_args u ctors hs e =
      scoped_iota_ctor index (slice_get f.decl.ctors index) value_args u refl ctors hs e

module _ (env : List Slot) (is : IsEnvironment env) where
  -- the declaration of the inductive type whose eliminator a head is
  family_by : (of : ℕ) (found : Option InductiveDecl) (f : Family) → decl_at env of ≡ found → family_at of found ≡ Some f →
      AreScopedCtors (count_params f.decl) (length env) f.decl.ctors
  family_by of None f at e = cc
  family_by of (Some d) f at e =
      let made : Family = record { place = of; decl = d } in let whole : made ≡ f = cc in let same : d ≡ f.decl = ap (λ x. x.decl) whole in
      subst (λ x. AreScopedCtors (count_params x) (length env) x.ctors) same (decl_scoped env is of d at).ctors

  kind_by : (kind : EntryKind) (f : Family) → eliminated env kind ≡ Some f → AreScopedCtors (count_params f.decl) (length env) f.decl.ctors
  kind_by Assumed f e = cc
  kind_by Admitted f e = cc
  kind_by (Defined body opaque) f e = cc
  kind_by (Inductive n) f e = cc
  kind_by (Constructor of index) f e = cc
  kind_by (Eliminator of sort) f e = family_by of (decl_at env of) f refl e

  entry_by : (found : Option Entry) (f : Family) → eliminated_by env found ≡ Some f → AreScopedCtors (count_params f.decl) (length env) f.decl.ctors
  entry_by None f e = cc
  entry_by (Some x) f e = kind_by x.kind f e

  family_scoped : (head : Tree) (f : Family) → eliminator_of env head ≡ Some f → AreScopedCtors (count_params f.decl) (length env) f.decl.ctors
  family_scoped (Constant c) f e = entry_by (entry_at env c) f e
  family_scoped _ f e = cc

  iota_by : (n : ℕ) (found : Option Family) (head : Tree) (args : List Tree) (w u : Tree) → eliminator_of env head ≡ found →
      IsScoped n (length env) head → AreScoped n (length env) args → IsScoped n (length env) w → iota_family env found head args w ≡ Some u →
      IsScoped n (length env) u
  iota_by n None head args w u at h all v e = cc
  iota_by n (Some f) head args w u at h all v e =
      scoped_iota_index n (length env) f head args h all (constructor_of env f.place (head_of w)) (arguments_of w) u (family_scoped head f at)
      (scoped_arguments n (length env) w v) e

  -- what an eliminator gives is in scope
  pub scoped_iota : (n : ℕ) (head : Tree) (args : List Tree) (w u : Tree) → IsScoped n (length env) head → AreScoped n (length env) args →
      IsScoped n (length env) w → iota env head args w ≡ Some u → IsScoped n (length env) u
  scoped_iota n head args w u h all v e = iota_by n (eliminator_of env head) head args w u refl h all v e
