-- Each entry of a well formed environment is grounded.
use Rattle.std.specs.Prelude.{◌≡◌, ℕ, zero, suc, ◌+◌, ◌-◌, ◌<◌, ◌≤◌, ◌==◌, nat_lt, List, [], ◌∷◌, ◌++◌, length, take, Bool, true, false, Option, Some, None, IsTrue, slice_get, if◌then◌else◌, refl}
use Rattle.std.proofs.Common.{arith, ap, sym, ◌∙◌, subst, length-append}
use Rattle.std.proofs.lemmas.Bool.Decides.{nat_tests}
use Rattle.core_term.specs.declared.sorts.Sort.{Sort}
use Rattle.core_term.specs.Tree.{Tree}
use Rattle.term_spine.specs.Globals.{has}
use Rattle.cic_rules.specs.declared.decls.Ctor.{Ctor}
use Rattle.cic_rules.specs.declared.decls.InductiveDecl.{InductiveDecl}
use Rattle.cic_rules.specs.declared.entries.Entry.{Entry}
use Rattle.cic_rules.specs.declared.entries.EntryKind.{EntryKind}
use Rattle.cic_rules.specs.declared.entries.EntryKind.TheVariants.{Assumed, Admitted, Defined, Inductive, Constructor, Eliminator}
use Rattle.cic_rules.specs.declared.env.Slot.{Slot}
use Rattle.cic_rules.specs.Environments.{slot_entry, slot_decl, entry_at, decl_at, own_slot, slotted}
use Rattle.cic_rules.specs.Scopes.{AreBefore}
use Rattle.cic_rules.specs.Eliminators.{type_entry, type_slot, ctor_entries, eliminator_entries, family_entries}
use Rattle.cic_rules.specs.Inductive.{permitted}
use Rattle.cic_rules.specs.WellFormed.{IsTyped, Assumption, Admission, Definition, KeepsRules, WfEnv, Nothing, Adds, AddsFamily}
use Rattle.cic_rules.specs.Grounded.{used_at, is_assumption, axioms, Reaches, Uses, UsesFurther, family_of, IsGrounded, GroundedAssumption, GroundedDefinition, GroundedInductive, GroundedMember}
use Rattle.cic_rules.specs.Laws.{UsesBefore}
use Rattle.cic_rules.proofs.ReachLaws.{axioms_are_reached}
use Rattle.cic_soundness.specs.Laws.{EntriesAreGrounded}
use Rattle.cic_soundness.proofs.InferSound.{got_within}
use Rattle.cic_soundness.proofs.Growth.{entry_more, decl_more}
use Rattle.cic_soundness.proofs.FamilySound.{has_before}

-- what an entry tells of its place
abbrev used_of : Option Entry → List ℕ
used_of None = []
used_of (Some e) = e.used

abbrev rests_by : EntryKind → Bool
rests_by Assumed = true
rests_by Admitted = true
rests_by _ = false

abbrev rests_on : Option Entry → Bool
rests_on None = false
rests_on (Some e) = rests_by e.kind

used_is : (env : List Slot) (p : ℕ) (found : Option Entry) → entry_at env p ≡ found → used_at env p ≡ used_of found
used_is env p found e = ap used_of e

rests_is : (env : List Slot) (p : ℕ) (found : Option Entry) → entry_at env p ≡ found → is_assumption env p ≡ rests_on found
rests_is env p found e = ap rests_on e

-- how an entry came to its place
data SoundAt (env : List Slot) : ℕ → Type 0 where
  OwnAt : {p : ℕ} (name : List ℕ) (ty : Tree) (kind : EntryKind) (used : List ℕ) → entry_at env p ≡ Some (record { name = name; ty = ty; kind = kind; used = used }) →
      AreBefore p used → IsTyped (take p env) kind ty used → SoundAt env p
  TypeAt : {p : ℕ} (d : InductiveDecl) (used : List ℕ) (s : Sort) (rows : List (List Sort)) → entry_at env p ≡ Some (type_entry d used) →
      decl_at env p ≡ Some d → AreBefore p used → KeepsRules (take p env) d used s rows → SoundAt env p
  MemberAt : {p : ℕ} (of k : ℕ) (e i : Entry) (d : InductiveDecl) (s : Sort) (rows : List (List Sort)) → of + k ≡ p → of < p → entry_at env p ≡ Some e →
      family_of e.kind ≡ Some of → e.used ≡ of ∷ [] → entry_at env of ≡ Some i → decl_at env of ≡ Some d → KeepsRules (take of env) d i.used s rows →
      slice_get (family_entries (take of env) d i.used (permitted s rows)) k ≡ Some e → SoundAt env p

-- ---- places of lists

take_more : {A : Type 0} (p : ℕ) (xs ys : List A) → p ≤ length xs → take p (xs ++ ys) ≡ take p xs
take_more zero xs ys le = refl
take_more (suc p) [] ys le = let none : ⊥ = omega (arith, le) in absurd none
take_more (suc p) (x ∷ xs) ys le = ap (λ r. x ∷ r) (take_more p xs ys (omega (arith, le)))

take_whole : {A : Type 0} (xs ys : List A) → take (length xs) (xs ++ ys) ≡ xs
take_whole [] ys = refl
take_whole (x ∷ xs) ys = ap (λ r. x ∷ r) (take_whole xs ys)

get_later : {A : Type 0} (xs ys : List A) (n k : ℕ) → n ≡ length xs + k → slice_get (xs ++ ys) n ≡ slice_get ys k
get_later [] ys n k e = let same : n ≡ k = omega (arith, e) in ap (λ i. slice_get ys i) same
get_later (x ∷ xs) ys zero k e = let none : ⊥ = omega (arith, e) in absurd none
get_later (x ∷ xs) ys (suc n) k e = get_later xs ys n k (omega (arith, e))

get_none : {A : Type 0} (xs : List A) (i : ℕ) → length xs ≤ i → slice_get xs i ≡ None
get_none [] i le = refl
get_none (x ∷ xs) zero le = let none : ⊥ = omega (arith, le) in absurd none
get_none (x ∷ xs) (suc i) le = get_none xs i (omega (arith, le))

get_some : {A : Type 0} (xs : List A) (i : ℕ) → i < length xs → (x : A) × (slice_get xs i ≡ Some x)
get_some [] i lt = let none : ⊥ = omega (arith, lt) in absurd none
get_some (x ∷ xs) zero lt = (x, refl)
get_some (x ∷ xs) (suc i) lt = get_some xs i (omega (arith, lt))

slotted_entry : (d : Option InductiveDecl) (es : List Entry) (k : ℕ) (e : Entry) → slice_get es k ≡ Some e → slot_entry (slice_get (slotted d es) k) ≡ Some e
slotted_entry d [] k e is = cc
slotted_entry d (x ∷ xs) zero e is = is
slotted_entry d (x ∷ xs) (suc k) e is = slotted_entry None xs k e is

slotted_length : (d : Option InductiveDecl) (es : List Entry) → length (slotted d es) ≡ length es
slotted_length d [] = refl
slotted_length d (e ∷ es) = ap suc (slotted_length None es)

entry_later : (env more : List Slot) (n k : ℕ) → n ≡ length env + k → entry_at (env ++ more) n ≡ slot_entry (slice_get more k)
entry_later env more n k e = ap slot_entry (get_later env more n k e)

decl_later : (env more : List Slot) (n k : ℕ) → n ≡ length env + k → decl_at (env ++ more) n ≡ slot_decl (slice_get more k)
decl_later env more n k e = ap slot_decl (get_later env more n k e)

-- ---- members of a family

record IsMember (place : ℕ) (e : Entry) : Type 0 where
  family : family_of e.kind ≡ Some place
  used : e.used ≡ place ∷ []

of_family : (place : ℕ) (x e : Entry) → Some x ≡ Some e → IsMember place x → IsMember place e
of_family place x e is h = let same : x ≡ e = cc in subst (IsMember place) same h

eliminator_member : (env : List Slot) (place : ℕ) (d : InductiveDecl) (ss : List Sort) (k : ℕ) (e : Entry) →
    slice_get (eliminator_entries env place d ss) k ≡ Some e → IsMember place e
eliminator_member env place d [] k e is = cc
eliminator_member env place d (s ∷ ss) zero e is = of_family place _ e is (record { family = refl; used = refl })
eliminator_member env place d (s ∷ ss) (suc k) e is = eliminator_member env place d ss k e is

member : (place : ℕ) (d : InductiveDecl) (index : ℕ) (cs : List Ctor) (es : List Entry) (k : ℕ) (e : Entry) →
    ((j : ℕ) → slice_get es j ≡ Some e → IsMember place e) → slice_get (ctor_entries place d index cs ++ es) k ≡ Some e → IsMember place e
member place d index [] es k e rest is = rest k is
member place d index (c ∷ cs) es zero e rest is = of_family place _ e is (record { family = refl; used = refl })
member place d index (c ∷ cs) es (suc k) e rest is = member place d (suc index) cs es k e rest is

-- ---- how each entry came to its place

module _ (env more : List Slot) where
  sound_more : (p : ℕ) → p < length env → SoundAt env p → SoundAt (env ++ more) p
  sound_more p lt (OwnAt name ty kind used at before typed) =
      OwnAt name ty kind used (entry_more env more p (record { name = name; ty = ty; kind = kind; used = used }) at) before
      (subst (λ x. IsTyped x kind ty used) (sym (take_more p env more (omega (arith, lt)))) typed)
  sound_more p lt (TypeAt d used s rows at decl before keeps) =
      TypeAt d used s rows (entry_more env more p (type_entry d used) at) (decl_more env more p d decl) before
      (subst (λ x. KeepsRules x d used s rows) (sym (take_more p env more (omega (arith, lt)))) keeps)
  sound_more p lt (MemberAt of k e i d s rows place less at family used type decl keeps member) =
      let short : take of (env ++ more) ≡ take of env = take_more of env more (omega (arith, less, lt)) in
      MemberAt of k e i d s rows place less (entry_more env more p e at) family used (entry_more env more of i type) (decl_more env more of d decl)
      (subst (λ x. KeepsRules x d i.used s rows) (sym short) keeps)
      (subst (λ x. slice_get (family_entries x d i.used (permitted s rows)) k ≡ Some e) (sym short) member)

own_by : (env : List Slot) (e : Entry) → AreBefore (length env) e.used → IsTyped env e.kind e.ty e.used → SoundAt (env ++ (own_slot e ∷ [])) (length env)
own_by env e before typed =
    OwnAt e.name e.ty e.kind e.used (entry_later env (own_slot e ∷ []) (length env) zero (omega arith)) before
    (subst (λ x. IsTyped x e.kind e.ty e.used) (sym (take_whole env (own_slot e ∷ []))) typed)

module _ (env : List Slot) (d : InductiveDecl) (used : List ℕ) (s : Sort) (rows : List (List Sort)) (before : AreBefore (length env) used)
    (keeps : KeepsRules env d used s rows) where
  abbrev added : List Slot
  added = slotted (Some d) (family_entries env d used (permitted s rows))

  whole_keeps : KeepsRules (take (length env) (env ++ added)) d used s rows
  whole_keeps = subst (λ x. KeepsRules x d used s rows) (sym (take_whole env added)) keeps

  type_at : entry_at (env ++ added) (length env) ≡ Some (type_entry d used)
  type_at = entry_later env added (length env) zero (omega arith)

  decl_is : decl_at (env ++ added) (length env) ≡ Some d
  decl_is = decl_later env added (length env) zero (omega arith)

  family_by : (p k : ℕ) → p ≡ length env + k → k < length (family_entries env d used (permitted s rows)) → SoundAt (env ++ added) p
  family_by p zero e lt =
      let same : length env ≡ p = omega (arith, e) in
      subst (λ x. SoundAt (env ++ added) x) same (TypeAt d used s rows type_at decl_is before whole_keeps)
  family_by p (suc k) e lt =
      let found = get_some (family_entries env d used (permitted s rows)) (suc k) lt in
      let is = found.1 in
      let m = member (length env) d 0 d.ctors (eliminator_entries (env ++ (type_slot d used ∷ [])) (length env) d (permitted s rows)) k found.0
      (λ j at. eliminator_member (env ++ (type_slot d used ∷ [])) (length env) d (permitted s rows) j found.0 at) is in
      MemberAt (length env) (suc k) found.0 (type_entry d used) d s rows (omega (arith, e)) (omega (arith, e))
      (entry_later env added p (suc k) e ∙ slotted_entry (Some d) (family_entries env d used (permitted s rows)) (suc k) found.0 is)
      m.family m.used type_at decl_is whole_keeps
      (subst (λ x. slice_get (family_entries x d used (permitted s rows)) (suc k) ≡ Some found.0) (sym (take_whole env added)) is)

-- an old place or a new one
old_or_new : (b : Bool) (env more : List Slot) (p : ℕ) → nat_lt p (length env) ≡ b → (p < length env → SoundAt env p) →
    ((k : ℕ) → p ≡ length env + k → SoundAt (env ++ more) p) → SoundAt (env ++ more) p
old_or_new true env more p e old new = let lt : p < length env = grind (arith, nat_tests, e) in sound_more env more p lt (old lt)
old_or_new false env more p e old new =
    let le : length env ≤ p = grind (arith, nat_tests, e) in
    new (p - length env) (omega (arith, le))

sound_at : (env : List Slot) → WfEnv env → (p : ℕ) → p < length env → SoundAt env p
sound_at _ Nothing p lt = let none : ⊥ = omega (arith, lt) in absurd none
sound_at _ (Adds {env = env} e is before typed) p lt =
    let count = length-append env (own_slot e ∷ []) in
    old_or_new (nat_lt p (length env)) env (own_slot e ∷ []) p refl (λ less. sound_at env is p less)
    (λ k at. let same : length env ≡ p = omega (arith, lt, count, at) in subst (λ x. SoundAt (env ++ (own_slot e ∷ [])) x) same (own_by env e before typed))
sound_at _ (AddsFamily {env = env} d used s rows is before keeps) p lt =
    let more : List Slot = slotted (Some d) (family_entries env d used (permitted s rows)) in
    let count = length-append env more in
    let entries = slotted_length (Some d) (family_entries env d used (permitted s rows)) in
    old_or_new (nat_lt p (length env)) env more p refl (λ less. sound_at env is p less)
    (λ k at. family_by env d used s rows before keeps p k at (omega (arith, lt, count, at, entries)))

-- ---- names used stand before

used_before : (env : List Slot) (p : ℕ) → SoundAt env p → AreBefore p (used_at env p)
used_before env p (OwnAt name ty kind used at before typed) = subst (λ x. AreBefore p x) (sym (used_is env p (Some (record { name = name; ty = ty; kind = kind; used = used })) at)) before
used_before env p (TypeAt d used s rows at decl before keeps) = subst (λ x. AreBefore p x) (sym (used_is env p (Some (type_entry d used)) at)) before
used_before env p (MemberAt of k e i d s rows place less at family used type decl keeps member) =
    subst (λ x. AreBefore p x) (sym (used_is env p (Some e) at ∙ used)) (less, tt)

none_before : (env : List Slot) (p : ℕ) → length env ≤ p → AreBefore p (used_at env p)
none_before env p le = subst (λ x. AreBefore p x) (sym (used_is env p None (ap slot_entry (get_none env p le)))) tt

before_at : (b : Bool) (env : List Slot) (p : ℕ) → nat_lt p (length env) ≡ b → WfEnv env → AreBefore p (used_at env p)
before_at true env p e is = let lt : p < length env = grind (arith, nat_tests, e) in used_before env p (sound_at env is p lt)
before_at false env p e is = let le : length env ≤ p = grind (arith, nat_tests, e) in none_before env p le

uses_before : (env : List Slot) → WfEnv env → UsesBefore env
uses_before env is p = before_at (nat_lt p (length env)) env p refl is

-- ---- grounds

-- a place itself, or what it reaches
data Rests (env : List Slot) (p q : ℕ) : Type 0 where
  Itself : p ≡ q → Rests env p q
  Through : Reaches env p q → Rests env p q

has_one : (p : ℕ) → IsTrue (has (p ∷ []) p)
has_one p = grind (arith, nat_tests)

module _ (env : List Slot) (axs : List ℕ) where
  -- the list has each assumption on which a place rests
  HasGrounds : ℕ → Type 0
  HasGrounds p = (q : ℕ) → IsTrue (is_assumption env q) → Rests env p q → IsTrue (has axs q)

  AreGrounded : List ℕ → Type 0
  AreGrounded used = (q : ℕ) → IsTrue (has used q) → IsGrounded env axs q

  -- what a place uses rests on no more
  through : (p q r : ℕ) (used : List ℕ) → used_at env p ≡ used → IsTrue (has used q) → Rests env q r → Rests env p r
  through p q r used is u (Itself e) = Through (Uses (subst (λ x. IsTrue (has x r)) (sym is) (subst (λ x. IsTrue (has used x)) e u)))
  through p q r used is u (Through h) = Through (UsesFurther (subst (λ x. IsTrue (has x q)) (sym is) u) h)

  less_grounds : (p q : ℕ) (used : List ℕ) → used_at env p ≡ used → IsTrue (has used q) → HasGrounds p → HasGrounds q
  unfolding HasGrounds
  less_grounds p q used is u grounds = λ r a rests. grounds r a (through p q r used is u rests)

  listed : (p : ℕ) → HasGrounds p → IsTrue (is_assumption env p) → IsTrue (has axs p)
  unfolding HasGrounds
  listed p grounds a = grounds p a (Itself refl)

  own_grounded : (p : ℕ) (name : List ℕ) (ty : Tree) (kind : EntryKind) (used : List ℕ) → entry_at env p ≡ Some (record { name = name; ty = ty; kind = kind; used = used }) →
      IsTyped (take p env) kind ty used → HasGrounds p → AreGrounded used → IsGrounded env axs p
  unfolding AreGrounded
  own_grounded p name ty Assumed used at (Assumption s h) grounds all =
      let a : IsTrue (is_assumption env p) = rests_is env p (Some (record { name = name; ty = ty; kind = Assumed; used = used })) at in
      GroundedAssumption p (record { name = name; ty = ty; kind = Assumed; used = used }) s at a (listed p grounds a) h all
  own_grounded p name ty Admitted used at (Admission s h) grounds all =
      let a : IsTrue (is_assumption env p) = rests_is env p (Some (record { name = name; ty = ty; kind = Admitted; used = used })) at in
      GroundedAssumption p (record { name = name; ty = ty; kind = Admitted; used = used }) s at a (listed p grounds a) h all
  own_grounded p name ty (Defined body opaque) used at (Definition s _ h k) grounds all =
      GroundedDefinition p (record { name = name; ty = ty; kind = Defined body opaque; used = used }) body opaque s at refl h k all
  own_grounded p name ty (Inductive _) used at typed grounds all = elim typed [ ]
  own_grounded p name ty (Constructor _ _) used at typed grounds all = elim typed [ ]
  own_grounded p name ty (Eliminator _ _) used at typed grounds all = elim typed [ ]

  type_grounded : (p : ℕ) (d : InductiveDecl) (used : List ℕ) (s : Sort) (rows : List (List Sort)) → entry_at env p ≡ Some (type_entry d used) →
      decl_at env p ≡ Some d → KeepsRules (take p env) d used s rows → AreGrounded used → IsGrounded env axs p
  unfolding AreGrounded
  type_grounded p d used s rows at decl keeps all = GroundedInductive p (type_entry d used) d s rows at decl refl keeps all

  member_grounded : (p of k : ℕ) (e i : Entry) (d : InductiveDecl) (s : Sort) (rows : List (List Sort)) → of + k ≡ p → entry_at env p ≡ Some e →
      family_of e.kind ≡ Some of → entry_at env of ≡ Some i → decl_at env of ≡ Some d → KeepsRules (take of env) d i.used s rows →
      slice_get (family_entries (take of env) d i.used (permitted s rows)) k ≡ Some e → IsGrounded env axs of → IsGrounded env axs p
  member_grounded p of k e i d s rows place at family type decl keeps member g =
      let there : entry_at env (of + k) ≡ Some e = subst (λ x. entry_at env x ≡ Some e) (sym place) at in
      subst (λ x. IsGrounded env axs x) place (GroundedMember of k e i d s rows there family type decl keeps member g)

  -- each place before this one that has its grounds is grounded
  Before : ℕ → Type 0
  Before p = (q : ℕ) → q < p → HasGrounds q → IsGrounded env axs q

  used_grounded : (p : ℕ) (used : List ℕ) → used_at env p ≡ used → AreBefore p used → HasGrounds p → Before p → AreGrounded used
  unfolding AreGrounded Before
  used_grounded p used is before grounds earlier = λ q u. earlier q (has_before p q used before u) (less_grounds p q used is u grounds)

  family_grounded : (p of : ℕ) → used_at env p ≡ of ∷ [] → of < p → HasGrounds p → Before p → IsGrounded env axs of
  unfolding Before
  family_grounded p of is less grounds earlier = earlier of less (less_grounds p of (of ∷ []) is (has_one of) grounds)

  sound_grounded : (p : ℕ) → SoundAt env p → HasGrounds p → Before p → IsGrounded env axs p
  sound_grounded p (OwnAt name ty kind used at before typed) grounds earlier =
      own_grounded p name ty kind used at typed grounds
      (used_grounded p used (used_is env p (Some (record { name = name; ty = ty; kind = kind; used = used })) at) before grounds earlier)
  sound_grounded p (TypeAt d used s rows at decl before keeps) grounds earlier =
      type_grounded p d used s rows at decl keeps (used_grounded p used (used_is env p (Some (type_entry d used)) at) before grounds earlier)
  sound_grounded p (MemberAt of k e i d s rows place less at family used type decl keeps member) grounds earlier =
      member_grounded p of k e i d s rows place at family type decl keeps member
      (family_grounded p of (used_is env p (Some e) at ∙ used) less grounds earlier)

  module _ (is : WfEnv env) where
    grounded : (n p : ℕ) → p < n → p < length env → HasGrounds p → IsGrounded env axs p
    unfolding Before
    grounded zero p less lt grounds = let none : ⊥ = omega (arith, less) in absurd none
    grounded (suc n) p less lt grounds =
        sound_grounded p (sound_at env is p lt) grounds
        (λ q small more. grounded n q (omega (arith, less, small)) (omega (arith, lt, small)) more)

-- ---- axioms

has_head : (p q : ℕ) (ps : List ℕ) → p ≡ q → IsTrue (has (p ∷ ps) q)
has_head p q ps e = grind (arith, nat_tests, e)

has_tail_by : (b : Bool) (more : Bool) → more ≡ true → (if b then true else more) ≡ true
has_tail_by true more e = refl
has_tail_by false more e = e

module _ (env : List Slot) (is : WfEnv env) where
  reached_listed : (p q : ℕ) → IsTrue (is_assumption env q) → Reaches env p q → IsTrue (has (axioms env p) q)
  reached_listed p q a r = (axioms_are_reached env (uses_before env is) p q).1 (a, r)

  with_itself : (p : ℕ) → HasGrounds env (p ∷ axioms env p) p
  unfolding HasGrounds
  with_itself p = λ q a rests. by q a rests where
    by : (q : ℕ) → IsTrue (is_assumption env q) → Rests env p q → IsTrue (has (p ∷ axioms env p) q)
    by q a (Itself e) = has_head p q (axioms env p) e
    by q a (Through r) = has_tail_by (p == q) (has (axioms env p) q) (reached_listed p q a r)

  no_assumption : {A : Type 0} (p q : ℕ) → is_assumption env p ≡ false → p ≡ q → IsTrue (is_assumption env q) → A
  no_assumption p q not e a = let same : is_assumption env p ≡ is_assumption env q = ap (λ x. is_assumption env x) e in clash (sym not ∙ same ∙ a) where
    clash : {A : Type 0} → false ≡ true → A
    clash e = cc

  without_itself : (p : ℕ) → is_assumption env p ≡ false → HasGrounds env (axioms env p) p
  unfolding HasGrounds
  without_itself p not = λ q a rests. by q a rests where
    by : (q : ℕ) → IsTrue (is_assumption env q) → Rests env p q → IsTrue (has (axioms env p) q)
    by q a (Itself e) = no_assumption p q not e a
    by q a (Through r) = reached_listed p q a r

  there_by : (p : ℕ) (found : Option Slot) → slice_get env p ≡ found → IsTrue (rests_on (slot_entry found)) → p < length env
  there_by p None e a = cc
  there_by p (Some s) e a = got_within p env s e

  assumption_grounded : (p : ℕ) → IsTrue (is_assumption env p) → IsGrounded env (p ∷ axioms env p) p
  assumption_grounded p a = grounded env (p ∷ axioms env p) is (suc p) p (omega arith) (there_by p (slice_get env p) refl a) (with_itself p)

  other_grounded : (p : ℕ) → p < length env → is_assumption env p ≡ false → IsGrounded env (axioms env p) p
  other_grounded p lt not = grounded env (axioms env p) is (suc p) p (omega arith) lt (without_itself p not)

pub entries_are_grounded : EntriesAreGrounded
entries_are_grounded = record {
  before = λ (env : List Slot) (is : WfEnv env). uses_before env is;
  assumptions = λ (env : List Slot) (is : WfEnv env) (place : ℕ) (a : IsTrue (is_assumption env place)). assumption_grounded env is place a;
  others = λ (env : List Slot) (is : WfEnv env) (place : ℕ) (lt : place < length env) (not : is_assumption env place ≡ false). other_grounded env is place lt not;
}
