-- What an entry rests on: the assumptions and admitted theorems that it reaches, and derivations all the way down to them.
use Rattle.std.specs.Prelude.{◌≡◌, ℕ, zero, suc, ◌+◌, List, [], ◌∷◌, ◌++◌, take, Bool, true, false, Option, Some, None, IsTrue, if◌then◌else◌, slice_get}
use Rattle.core_term.specs.declared.sorts.Sort.{Sort}
use Rattle.core_term.specs.Tree.{Tree, Sorted}
use Rattle.term_spine.specs.Globals.{has}
use Rattle.cic_rules.specs.declared.decls.InductiveDecl.{InductiveDecl}
use Rattle.cic_rules.specs.declared.entries.Entry.{Entry}
use Rattle.cic_rules.specs.declared.entries.EntryKind.{EntryKind}
use Rattle.cic_rules.specs.declared.entries.EntryKind.TheVariants.{Assumed, Admitted, Defined, Constructor, Eliminator}
use Rattle.cic_rules.specs.declared.env.Slot.{Slot}
use Rattle.cic_rules.specs.Environments.{entry_at, decl_at}
use Rattle.cic_rules.specs.Infer.{union}
use Rattle.cic_rules.specs.Derive.{HasType}
use Rattle.cic_rules.specs.Eliminators.{type_entry, family_entries}
use Rattle.cic_rules.specs.Inductive.{permitted}
use Rattle.cic_rules.specs.WellFormed.{KeepsRules}

abbrev used_by : Option Entry → List ℕ
used_by None = []
used_by (Some e) = e.used

-- the names that the entry at a place uses
abbrev pub used_at : List Slot → ℕ → List ℕ
used_at env place = used_by (entry_at env place)

abbrev rests_by : EntryKind → Bool
rests_by Assumed = true
rests_by Admitted = true
rests_by _ = false

abbrev rests_on : Option Entry → Bool
rests_on None = false
rests_on (Some e) = rests_by e.kind

-- an assumption or an admitted theorem stands at the place
abbrev pub is_assumption : List Slot → ℕ → Bool
is_assumption env place = rests_on (entry_at env place)

-- the places below a number that are reached from some names: a name reaches what its entry uses, which stands before it
abbrev pub reached : List Slot → ℕ → List ℕ → List ℕ
reached env zero names = []
reached env (suc place) names =
    if has names place then reached env place (union names (used_at env place)) ++ (place ∷ []) else reached env place names

abbrev pub assumptions : List Slot → List ℕ → List ℕ
assumptions env [] = []
assumptions env (p ∷ ps) = if is_assumption env p then p ∷ assumptions env ps else assumptions env ps

-- the axioms of the entry at a place: the assumptions and admitted theorems that it reaches through its names, by place
abbrev pub axioms : List Slot → ℕ → List ℕ
axioms env place = assumptions env (reached env place (used_at env place))

-- a place reaches another through the names used
pub data Reaches (env : List Slot) : ℕ → ℕ → Type 0 where
  Uses : {p q : ℕ} → IsTrue (has (used_at env p) q) → Reaches env p q
  UsesFurther : {p q r : ℕ} → IsTrue (has (used_at env p) q) → Reaches env q r → Reaches env p r

-- the inductive type of whose family a constructor or an eliminator is
abbrev pub family_of : EntryKind → Option ℕ
family_of (Constructor of index) = Some of
family_of (Eliminator of sort) = Some of
family_of _ = None

-- the entry at a place is grounded in a list of assumptions and admitted theorems; the derivations are in the environment before it
pub data IsGrounded (env : List Slot) (axs : List ℕ) : ℕ → Type 0 where
  GroundedAssumption : (p : ℕ) (e : Entry) (s : Sort) → entry_at env p ≡ Some e → IsTrue (is_assumption env p) → IsTrue (has axs p) →
      HasType (take p env) e.used [] e.ty (Sorted s) → ((q : ℕ) → IsTrue (has e.used q) → IsGrounded env axs q) → IsGrounded env axs p
  GroundedDefinition : (p : ℕ) (e : Entry) (body : Tree) (opaque : Bool) (s : Sort) → entry_at env p ≡ Some e → e.kind ≡ Defined body opaque →
      HasType (take p env) e.used [] e.ty (Sorted s) → HasType (take p env) e.used [] body e.ty →
      ((q : ℕ) → IsTrue (has e.used q) → IsGrounded env axs q) → IsGrounded env axs p
  GroundedInductive : (p : ℕ) (e : Entry) (d : InductiveDecl) (s : Sort) (rows : List (List Sort)) → entry_at env p ≡ Some e →
      decl_at env p ≡ Some d → e ≡ type_entry d e.used → KeepsRules (take p env) d e.used s rows →
      ((q : ℕ) → IsTrue (has e.used q) → IsGrounded env axs q) → IsGrounded env axs p
  -- a constructor or an eliminator: it stands in the family of the inductive type where the rules give it
  GroundedMember : (of k : ℕ) (e i : Entry) (d : InductiveDecl) (s : Sort) (rows : List (List Sort)) → entry_at env (of + k) ≡ Some e →
      family_of e.kind ≡ Some of → entry_at env of ≡ Some i → decl_at env of ≡ Some d → KeepsRules (take of env) d i.used s rows →
      slice_get (family_entries (take of env) d i.used (permitted s rows)) k ≡ Some e → IsGrounded env axs of → IsGrounded env axs (of + k)
