-- Environments that are well formed by the typing relation.
use Rattle.std.specs.Prelude.{◌≡◌, ℕ, List, [], ◌∷◌, ◌++◌, length, Bool, false, Some, IsTrue}
use Rattle.core_term.specs.declared.sorts.Sort.{Sort}
use Rattle.core_term.specs.Tree.{Tree, Sorted, Prod}
use Rattle.term_spine.specs.Spine.{count_products, end_of_products}
use Rattle.cic_rules.specs.declared.context.Hyp.{Hyp}
use Rattle.cic_rules.specs.declared.decls.InductiveDecl.{InductiveDecl}
use Rattle.cic_rules.specs.declared.decls.Ctor.{Ctor}
use Rattle.cic_rules.specs.declared.entries.Entry.{Entry}
use Rattle.cic_rules.specs.declared.entries.EntryKind.{EntryKind}
use Rattle.cic_rules.specs.declared.entries.EntryKind.TheVariants.{Assumed, Admitted, Defined}
use Rattle.cic_rules.specs.declared.env.Slot.{Slot}
use Rattle.cic_rules.specs.Contexts.{plain_hyp}
use Rattle.cic_rules.specs.Scopes.{AreBefore}
use Rattle.cic_rules.specs.Environments.{own_slot, slotted}
use Rattle.cic_rules.specs.Families.{count_indices}
use Rattle.cic_rules.specs.Eliminators.{family_entries}
use Rattle.cic_rules.specs.Inductive.{has_twice, names_of, any_taken, is_constructors, are_positive, rows_fit, permitted, params_of, assumed_type}
use Rattle.cic_rules.specs.Derive.{WfContext, HasType}

-- the type of an entry has a sort over its names, and its body has that type
pub data IsTyped (env : List Slot) : EntryKind → Tree → List ℕ → Type 0 where
  Assumption : {ty : Tree} {used : List ℕ} (s : Sort) → HasType env used [] ty (Sorted s) → IsTyped env Assumed ty used
  Admission : {ty : Tree} {used : List ℕ} (s : Sort) → HasType env used [] ty (Sorted s) → IsTyped env Admitted ty used
  Definition : {body ty : Tree} {used : List ℕ} (s : Sort) (opaque : Bool) → HasType env used [] ty (Sorted s) →
      HasType env used [] body ty → IsTyped env (Defined body opaque) ty used

-- the parameters as a context, after others
abbrev pub opened : List Hyp → List Hyp → List Hyp
opened [] ctx = ctx
opened (h ∷ hs) ctx = opened hs (plain_hyp h.name h.ty ∷ ctx)

-- a row of products is a type, and these are the sorts of its domains
pub data HasSorts (env : List Slot) (used : List ℕ) : List Hyp → Tree → List Sort → Type 0 where
  Ends : {ctx : List Hyp} {t : Tree} (s : Sort) → count_products t ≡ 0 → HasType env used ctx t (Sorted s) → HasSorts env used ctx t []
  Domain : {ctx : List Hyp} {a b : Tree} {ss : List Sort} (n : List ℕ) (s : Sort) → HasType env used ctx a (Sorted s) →
      HasSorts env used (plain_hyp n a ∷ ctx) b ss → HasSorts env used ctx (Prod n a b) (s ∷ ss)

-- each constructor's type is a row with these sorts, that ends in the type as it must
abbrev pub AreRows : List Slot → ℕ → List ℕ → InductiveDecl → List Hyp → List Ctor → List (List Sort) → Type 0
AreRows inner place used d ctx [] [] = Unit {0}
AreRows inner place used d ctx (c ∷ cs) (r ∷ rs) =
    HasSorts inner used ctx c.ty r × IsTrue (is_constructors place (params_of d) (count_indices d) c.ty) × AreRows inner place used d ctx cs rs
AreRows inner place used d ctx _ _ = ⊥

-- the arity has a sort in the context of the parameters
abbrev pub HasArity : List Slot → InductiveDecl → List ℕ → Type 0
HasArity env d used = (r : Sort) × HasType env used (opened d.params []) d.arity (Sorted r)

-- an inductive declaration keeps the rules, with these sorts of its arguments; its own name is allowed in the constructors
pub record KeepsRules (env : List Slot) (d : InductiveDecl) (used : List ℕ) (s : Sort) (rows : List (List Sort)) : Type 0 where
  pub distinct : has_twice (names_of d) ≡ false
  pub new : any_taken env (names_of d) ≡ false
  pub arity : end_of_products d.arity ≡ Sorted s
  pub params : WfContext env used (opened d.params [])
  pub typed : HasArity env d used
  pub ctors : AreRows (env ++ (own_slot (assumed_type d) ∷ [])) (length env) (length env ∷ used) d (opened d.params []) d.ctors rows
  pub positive : IsTrue (are_positive (length env) (params_of d) d.ctors)
  pub universes : IsTrue (rows_fit s rows)

-- an environment is well formed where it grows from nothing by entries that are typed over their names in the environment before
-- them, and by inductive types that keep the rules, with the constructors and eliminators that the rules give
pub data WfEnv : List Slot → Type 0 where
  Nothing : WfEnv []
  Adds : {env : List Slot} (e : Entry) → WfEnv env → AreBefore (length env) e.used → IsTyped env e.kind e.ty e.used →
      WfEnv (env ++ (own_slot e ∷ []))
  AddsFamily : {env : List Slot} (d : InductiveDecl) (used : List ℕ) (s : Sort) (rows : List (List Sort)) → WfEnv env →
      AreBefore (length env) used → KeepsRules env d used s rows →
      WfEnv (env ++ slotted (Some d) (family_entries env d used (permitted s rows)))
