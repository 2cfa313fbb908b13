-- Environments as lists of globals, the oldest first: a place is a position.
use Rattle.std.specs.Prelude.{◌≡◌, ℕ, ◌+◌, ◌==◌, ◌^◌, ◌≤◌, nat_le, suc, List, [], ◌∷◌, ◌++◌, length, Bool, true, false, Option, Some, None, Result, Ok, Err, if◌then◌else◌, slice_get}
use Rattle.std.specs.Cmp.Lexicographic.{slice_cmp}
use Rattle.std.specs.Ordering.{nat_cmp}
use Rattle.base_core.specs.declared.refusals.Stop.{Stop}
use Rattle.base_core.specs.declared.refusals.Stop.TheVariants.{Out}
use Rattle.base_core.specs.declared.refusals.Limit.TheVariants.{SizeLimit}
use Rattle.shared_map.specs.Entries.{look}
use Rattle.core_term.specs.Tree.{Tree}
use Rattle.cic_rules.specs.declared.context.Hyp.{Hyp}
use Rattle.cic_rules.specs.declared.decls.InductiveDecl.{InductiveDecl}
use Rattle.cic_rules.specs.declared.decls.Ctor.{Ctor}
use Rattle.cic_rules.specs.declared.entries.Entry.{Entry}
use Rattle.cic_rules.specs.declared.entries.EntryKind.{EntryKind}
use Rattle.cic_rules.specs.declared.entries.EntryKind.TheVariants.{Assumed, Admitted, Defined, Inductive, Constructor, Eliminator}
use Rattle.cic_rules.specs.declared.env.Slot.{Slot}
use Rattle.cic_rules.specs.Contexts.{products_over}
use Rattle.cic_rules.specs.Scopes.{IsScoped, AreScoped, UseOnly, AreNames}

abbrev pub slot_entry : Option Slot → Option Entry
slot_entry None = None
slot_entry (Some s) = Some s.entry

-- the global at a place
abbrev pub entry_at : List Slot → ℕ → Option Entry
entry_at env place = slot_entry (slice_get env place)

abbrev pub slot_decl : Option Slot → Option InductiveDecl
slot_decl None = None
slot_decl (Some s) = s.decl

-- the declaration of the inductive type at a place
abbrev pub decl_at : List Slot → ℕ → Option InductiveDecl
decl_at env place = slot_decl (slice_get env place)

abbrev pub entry_type : Option Entry → Option Tree
entry_type None = None
entry_type (Some e) = Some e.ty

-- the type of the global at a place
abbrev pub type_of_global : List Slot → ℕ → Option Tree
type_of_global env place = entry_type (entry_at env place)

abbrev pub transparent : EntryKind → Option Tree
transparent (Defined body false) = Some body
transparent _ = None

abbrev pub entry_body : Option Entry → Option Tree
entry_body None = None
entry_body (Some e) = transparent e.kind

-- the body of the global at a place, where it is a transparent definition
abbrev pub body_of_global : List Slot → ℕ → Option Tree
body_of_global env place = entry_body (entry_at env place)

-- each name with its place
abbrev pub numbered : ℕ → List Slot → List (List ℕ × ℕ)
numbered n [] = []
numbered n (s ∷ ss) = (s.entry.name, n) ∷ numbered (suc n) ss

-- the place of a name
abbrev pub place_in : List Slot → List ℕ → Option ℕ
place_in env name = look (slice_cmp nat_cmp) (numbered 0 env) name

-- no global has this name
abbrev pub IsNew : List Slot → List ℕ → Type 0
IsNew env name = place_in env name ≡ None

abbrev pub is_there : Option ℕ → Bool
is_there None = false
is_there (Some _) = true

-- a global has this name
abbrev pub is_taken : List Slot → List ℕ → Bool
is_taken env name = is_there (place_in env name)

-- a global that is no inductive type
abbrev pub own_slot : Entry → Slot
own_slot e = record { entry = e; decl = None }

-- the names are not taken, and no two of them are the same
abbrev pub AreNew : List Slot → List Slot → Type 0
AreNew env [] = Unit {0}
AreNew env (s ∷ ss) = IsNew env s.entry.name × AreNew (env ++ (s ∷ [])) ss

-- the places without one of them
abbrev pub without : ℕ → List ℕ → List ℕ
without place [] = []
without place (p ∷ ps) = if p == place then without place ps else p ∷ without place ps

abbrev pub kind_terms : EntryKind → List Tree
kind_terms (Defined body _) = body ∷ []
kind_terms _ = []

-- the terms of an entry: its type, and its body where it has one
abbrev pub terms_of : Entry → List Tree
terms_of e = e.ty ∷ kind_terms e.kind

abbrev pub hyp_types : List Hyp → List Tree
hyp_types [] = []
hyp_types (h ∷ hs) = h.ty ∷ hyp_types hs

abbrev pub ctor_types : List Ctor → List Tree
ctor_types [] = []
ctor_types (c ∷ cs) = c.ty ∷ ctor_types cs

-- the terms of an inductive declaration
abbrev pub decl_terms : InductiveDecl → List Tree
decl_terms d = hyp_types d.params ++ (d.arity ∷ ctor_types d.ctors)

-- what is true of each entry that stands at a place: it speaks of nothing but the entries before it
pub record IsEntryAt (place : ℕ) (e : Entry) : Type 0 where
  pub scoped : AreScoped 0 place (terms_of e)
  pub names : AreNames place e.used

-- the names used have each global that the entry speaks of; a member of a family uses the inductive type
abbrev pub Covers : ℕ → EntryKind → Option InductiveDecl → List Tree → List ℕ → Type 0
Covers place (Inductive _) (Some d) terms used = UseOnly (place ∷ used) (decl_terms d)
Covers place (Inductive _) None terms used = ⊥
Covers place (Constructor of _) None terms used = used ≡ of ∷ []
Covers place (Eliminator of _) None terms used = used ≡ of ∷ []
Covers place _ None terms used = UseOnly used terms
Covers place _ (Some d) terms used = ⊥

-- the constructors' types stand in the context of so many parameters
abbrev pub AreScopedCtors : ℕ → ℕ → List Ctor → Type 0
AreScopedCtors vars globals [] = Unit {0}
AreScopedCtors vars globals (c ∷ cs) = IsScoped vars globals c.ty × AreScopedCtors vars globals cs

-- a declaration whose globals are among so many: its arity over its parameters, and its constructors' types in the context of them
pub record IsScopedDecl (globals : ℕ) (d : InductiveDecl) : Type 0 where
  pub arity : IsScoped 0 globals (products_over d.params d.arity)
  pub ctors : AreScopedCtors (length d.params) globals d.ctors

-- an inductive type has so many constructors as its kind says, its type is its arity over its parameters, and its constructors' types
-- stand in the context of the parameters
pub record IsFamily (place n : ℕ) (d : InductiveDecl) (terms : List Tree) : Type 0 where
  pub count : n ≡ length d.ctors
  pub ty : terms ≡ products_over d.params d.arity ∷ []
  pub ctors : AreScopedCtors (length d.params) (suc place) d.ctors

-- that is so wherever there is a declaration
abbrev pub IsFamilyIfAny : ℕ → EntryKind → Option InductiveDecl → List Tree → Type 0
IsFamilyIfAny place (Inductive n) (Some d) terms = IsFamily place n d terms
IsFamilyIfAny place _ _ terms = Unit {0}

-- what is true of each global at its place: it has a declaration exactly where it is an inductive type
pub record IsSlotAt (place : ℕ) (s : Slot) : Type 0 where
  pub entry : IsEntryAt place s.entry
  pub covers : Covers place s.entry.kind s.decl (terms_of s.entry) s.entry.used
  pub family : IsFamilyIfAny place s.entry.kind s.decl (terms_of s.entry)

-- each global may stand where it stands, the first at this place
abbrev pub AreSlots : ℕ → List Slot → Type 0
AreSlots place [] = Unit {0}
AreSlots place (s ∷ ss) = IsSlotAt place s × AreSlots (suc place) ss

-- what is true of each environment that the program holds
pub record IsEnvironment (env : List Slot) : Type 0 where
  pub short : length env ≤ 2 ^ 31
  pub slots : AreSlots 0 env

-- assumed, admitted or defined
abbrev pub IsOwn : EntryKind → Type 0
IsOwn Assumed = Unit {0}
IsOwn Admitted = Unit {0}
IsOwn (Defined _ _) = Unit {0}
IsOwn _ = ⊥

-- when an assumption, an admitted theorem or a definition may be entered
pub record MayEnter (env : List Slot) (e : Entry) : Type 0 where
  pub new : IsNew env e.name
  pub own : IsOwn e.kind
  pub entry : IsEntryAt (length env) e
  pub used : UseOnly e.used (terms_of e)

-- the environment with these globals, where it has room
abbrev pub all_entered : List Slot → List Slot → Result (List Slot) Stop
all_entered env slots = if nat_le (length env + length slots) (2 ^ 31) then Ok (env ++ slots) else Err (Out SizeLimit)

-- the environment with one more global
abbrev pub entered : List Slot → Entry → Result (List Slot) Stop
entered env e = all_entered env (own_slot e ∷ [])

-- the entries of a family: the first is the inductive type, and has the declaration
abbrev pub slotted : Option InductiveDecl → List Entry → List Slot
slotted d [] = []
slotted d (e ∷ es) = record { entry = e; decl = d } ∷ slotted None es
