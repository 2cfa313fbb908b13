-- What contexts and environments hold is in scope.
use Rattle.std.proofs.Common.{◌≡◌, ℕ, zero, suc, ◌+◌, ◌<◌, ◌≤◌, List, [], ◌∷◌, length, true, false, Option, Some, None, refl, subst, arith}
use Rattle.std.specs.Prelude.{slice_get}
use Rattle.core_term.specs.Tree.{Tree}
use Rattle.core_term.specs.Places.{lift_of}
use Rattle.cic_rules.specs.declared.context.Hyp.{Hyp}
use Rattle.cic_rules.specs.declared.decls.Ctor.{Ctor}
use Rattle.cic_rules.specs.declared.decls.InductiveDecl.{InductiveDecl}
use Rattle.cic_rules.specs.declared.entries.EntryKind.{EntryKind}
use Rattle.cic_rules.specs.declared.entries.EntryKind.TheVariants.{Assumed, Admitted, Defined, Inductive, Constructor, Eliminator}
use Rattle.cic_rules.specs.declared.env.Slot.{Slot}
use Rattle.cic_rules.specs.Laws.{ScopeOfGlobals, ScopeOfContexts}
use Rattle.cic_rules.specs.Contexts.{products_over, lifted_type, lifted_value, lifted_if_any, type_of_variable, value_of_variable}
use Rattle.cic_rules.specs.Environments.{slot_entry, slot_decl, decl_at, entry_type, type_of_global, transparent, entry_body, body_of_global, terms_of, kind_terms, IsSlotAt, AreSlots, IsEnvironment, Covers, IsFamilyIfAny, IsScopedDecl, AreScopedCtors}
use Rattle.cic_rules.specs.Scopes.{IsScoped, AreScoped, IsScopedIfAny, IsScopedHyp, IsScopedContext}
use Rattle.cic_rules.proofs.ScopeLaws.{scoped_more, scoped_lift}

-- a hypothesis behind the older ones
record IsAtDepth (m : ℕ) (ctx : List Hyp) (i : ℕ) (h : Hyp) : Type 0 where
  older : ℕ
  count : length ctx ≡ older + suc i
  scoped : IsScopedHyp older m h

hyp_at : (m : ℕ) (ctx : List Hyp) (i : ℕ) (h : Hyp) → slice_get ctx i ≡ Some h → IsScopedContext m ctx → IsAtDepth m ctx i h
hyp_at m [] i h e all = cc
hyp_at m (x ∷ xs) zero h e all =
    let same : x ≡ h = cc in
    record { older = length xs; count = omega arith; scoped = subst (IsScopedHyp (length xs) m) same all.0 }
hyp_at m (x ∷ xs) (suc i) h e all =
    let rest = hyp_at m xs i h e all.1 in
    let count = rest.count in
    record { older = rest.older; count = omega (arith, count); scoped = rest.scoped }

type_by : (m : ℕ) (ctx : List Hyp) (i : ℕ) (found : Option Hyp) (t : Tree) → slice_get ctx i ≡ found → IsScopedContext m ctx →
    lifted_type i found ≡ Some t → IsScoped (length ctx) m t
type_by m ctx i None t at all e = cc
type_by m ctx i (Some h) t at all e =
    let same : lift_of h.ty (suc i) 0 ≡ t = cc in
    let is = hyp_at m ctx i h at all in
    subst (IsScoped (length ctx) m) same (scoped_lift is.older (length ctx) m (suc i) 0 h.ty is.count is.scoped.ty)

-- the type of a variable
pub variable_scoped : (m : ℕ) (ctx : List Hyp) (i : ℕ) (t : Tree) → IsScopedContext m ctx → type_of_variable ctx i ≡ Some t → IsScoped (length ctx) m t
variable_scoped m ctx i t all e = type_by m ctx i (slice_get ctx i) t refl all e

within_hyps : (ctx : List Hyp) (i : ℕ) (found : Option Hyp) (t : Tree) → slice_get ctx i ≡ found → lifted_type i found ≡ Some t → i < length ctx
within_hyps ctx i None t at e = cc
within_hyps [] i (Some h) t at e = cc
within_hyps (x ∷ xs) zero (Some h) t at e = omega arith
within_hyps (x ∷ xs) (suc i) (Some h) t at e = let rest = within_hyps xs i (Some h) (lift_of h.ty (suc i) 0) at refl in omega (arith, rest)

-- a variable that has a type is there
pub variable_within : (ctx : List Hyp) (i : ℕ) (t : Tree) → type_of_variable ctx i ≡ Some t → i < length ctx
variable_within ctx i t e = within_hyps ctx i (slice_get ctx i) t refl e

any_by : (n k m i : ℕ) (value : Option Tree) (t : Tree) → k ≡ n + suc i → IsScopedIfAny n m value → lifted_if_any i value ≡ Some t → IsScoped k m t
any_by n k m i None t e h is = cc
any_by n k m i (Some v) t e h is = let same : lift_of v (suc i) 0 ≡ t = cc in subst (IsScoped k m) same (scoped_lift n k m (suc i) 0 v e h)

value_by : (m : ℕ) (ctx : List Hyp) (i : ℕ) (found : Option Hyp) (t : Tree) → slice_get ctx i ≡ found → IsScopedContext m ctx →
    lifted_value i found ≡ Some t → IsScoped (length ctx) m t
value_by m ctx i None t at all e = cc
value_by m ctx i (Some h) t at all e =
    let is = hyp_at m ctx i h at all in
    any_by is.older (length ctx) m i h.value t is.count is.scoped.value e

-- its definition
pub value_scoped : (m : ℕ) (ctx : List Hyp) (i : ℕ) (t : Tree) → IsScopedContext m ctx → value_of_variable ctx i ≡ Some t → IsScoped (length ctx) m t
value_scoped m ctx i t all e = value_by m ctx i (slice_get ctx i) t refl all e

-- a global at its place
record StandsAt (env : List Slot) (n i : ℕ) (s : Slot) : Type 0 where
  slot : IsSlotAt (n + i) s
  within : i < length env

slot_at : (n : ℕ) (env : List Slot) (i : ℕ) (s : Slot) → slice_get env i ≡ Some s → AreSlots n env → StandsAt env n i s
slot_at n [] i s e all = cc
slot_at n (x ∷ xs) zero s e all =
    let same : x ≡ s = cc in
    let none : n ≡ n + zero = omega arith in
    record { slot = subst (λ k. IsSlotAt k s) none (subst (IsSlotAt n) same all.0); within = omega arith }
slot_at n (x ∷ xs) (suc i) s e all =
    let rest = slot_at (suc n) xs i s e all.1 in
    let within = rest.within in
    let place : suc n + i ≡ n + suc i = omega arith in
    record { slot = subst (λ k. IsSlotAt k s) place rest.slot; within = omega (arith, within) }

module _ (env : List Slot) (is : IsEnvironment env) where
  stands : (place : ℕ) (s : Slot) → slice_get env place ≡ Some s → StandsAt env 0 place s
  stands place s at = slot_at 0 env place s at is.slots

  -- a term of an entry, in any context
  entry_scoped : (n place : ℕ) (s : Slot) (t : Tree) → StandsAt env 0 place s → IsScoped 0 (0 + place) t → IsScoped n (length env) t
  entry_scoped n place s t h scoped =
      let within = h.within in
      scoped_more 0 n (0 + place) (length env) t (omega arith) (omega (arith, within)) scoped

  type_at : (n place : ℕ) (found : Option Slot) (t : Tree) → slice_get env place ≡ found → entry_type (slot_entry found) ≡ Some t →
      IsScoped n (length env) t
  type_at n place None t at e = cc
  type_at n place (Some s) t at e =
      let same : s.entry.ty ≡ t = cc in
      let h = stands place s at in
      subst (IsScoped n (length env)) same (entry_scoped n place s s.entry.ty h h.slot.entry.scoped.0)

  -- the type of a global
  pub global_scoped : (n c : ℕ) (t : Tree) → type_of_global env c ≡ Some t → IsScoped n (length env) t
  global_scoped n c t e = type_at n c (slice_get env c) t refl e

  within_by : (place : ℕ) (found : Option Slot) (t : Tree) → slice_get env place ≡ found → entry_type (slot_entry found) ≡ Some t → place < length env
  within_by place None t at e = cc
  within_by place (Some s) t at e = (stands place s at).within

  -- a global that has a type is there
  pub global_within : (c : ℕ) (t : Tree) → type_of_global env c ≡ Some t → c < length env
  global_within c t e = within_by c (slice_get env c) t refl e

  transparent_by : (n place : ℕ) (kind : EntryKind) (t : Tree) → AreScoped 0 (0 + place) (kind_terms kind) → transparent kind ≡ Some t →
      IsScoped 0 (0 + place) t
  transparent_by n place Assumed t h e = cc
  transparent_by n place Admitted t h e = cc
  transparent_by n place (Defined body true) t h e = cc
  transparent_by n place (Defined body false) t h e = let same : body ≡ t = cc in subst (IsScoped 0 (0 + place)) same h.0
  transparent_by n place (Inductive k) t h e = cc
  transparent_by n place (Constructor of index) t h e = cc
  transparent_by n place (Eliminator of sort) t h e = cc

  body_at : (n place : ℕ) (found : Option Slot) (t : Tree) → slice_get env place ≡ found → entry_body (slot_entry found) ≡ Some t →
      IsScoped n (length env) t
  body_at n place None t at e = cc
  body_at n place (Some s) t at e =
      let h = stands place s at in
      entry_scoped n place s t h (transparent_by n place s.entry.kind t h.slot.entry.scoped.1 e)

  -- the body of a transparent definition
  pub body_scoped : (n c : ℕ) (t : Tree) → body_of_global env c ≡ Some t → IsScoped n (length env) t
  body_scoped n c t e = body_at n c (slice_get env c) t refl e

  ctors_more : (n m l : ℕ) (cs : List Ctor) → m ≤ l → AreScopedCtors n m cs → AreScopedCtors n l cs
  ctors_more n m l [] le h = tt
  ctors_more n m l (c ∷ cs) le h = (scoped_more n n m l c.ty (omega arith) le h.0, ctors_more n m l cs le h.1)

  family_at_by : (place : ℕ) (kind : EntryKind) (d : InductiveDecl) (terms : List Tree) (used : List ℕ) → Covers place kind (Some d) terms used →
      IsFamilyIfAny place kind (Some d) terms → AreScoped 0 place terms → place < length env → IsScopedDecl (length env) d
  family_at_by place Assumed d terms used covers family scoped within = absurd covers
  family_at_by place Admitted d terms used covers family scoped within = absurd covers
  family_at_by place (Defined body opaque) d terms used covers family scoped within = absurd covers
  family_at_by place (Inductive n) d terms used covers family scoped within =
      let own : AreScoped 0 place (products_over d.params d.arity ∷ []) = subst (AreScoped 0 place) family.ty scoped in
      record {
        arity = scoped_more 0 0 place (length env) (products_over d.params d.arity) (omega arith) (omega (arith, within)) own.0;
        ctors = ctors_more (length d.params) (suc place) (length env) d.ctors (omega (arith, within)) family.ctors;
      }
  family_at_by place (Constructor of index) d terms used covers family scoped within = absurd covers
  family_at_by place (Eliminator of sort) d terms used covers family scoped within = absurd covers

  decl_by : (place : ℕ) (found : Option Slot) (d : InductiveDecl) → slice_get env place ≡ found → slot_decl found ≡ Some d → IsScopedDecl (length env) d
  decl_by place None d at e = cc
  decl_by place (Some s) d at e =
      let h = stands place s at in
      let within = h.within in
      let covers : Covers (0 + place) s.entry.kind (Some d) (terms_of s.entry) s.entry.used
      = subst (λ x. Covers (0 + place) s.entry.kind x (terms_of s.entry) s.entry.used) e h.slot.covers in
      let family : IsFamilyIfAny (0 + place) s.entry.kind (Some d) (terms_of s.entry)
      = subst (λ x. IsFamilyIfAny (0 + place) s.entry.kind x (terms_of s.entry)) e h.slot.family in
      family_at_by (0 + place) s.entry.kind d (terms_of s.entry) s.entry.used covers family h.slot.entry.scoped (omega (arith, within))

  -- a declaration, as it stands in the environment
  pub decl_scoped : (place : ℕ) (d : InductiveDecl) → decl_at env place ≡ Some d → IsScopedDecl (length env) d
  decl_scoped place d e = decl_by place (slice_get env place) d refl e

pub scope_of_globals : ScopeOfGlobals
scope_of_globals =
    record {
      types = λ env is vars c t e. global_scoped env is vars c t e;
      there = λ env is c t e. global_within env is c t e;
      bodies = λ env is vars c t e. body_scoped env is vars c t e;
      decls = λ env is place d e. decl_scoped env is place d e;
    }

pub scope_of_contexts : ScopeOfContexts
scope_of_contexts =
    record {
      types = λ m ctx i t all e. variable_scoped m ctx i t all e;
      there = λ ctx i t e. variable_within ctx i t e;
      values = λ m ctx i t all e. value_scoped m ctx i t all e;
    }
