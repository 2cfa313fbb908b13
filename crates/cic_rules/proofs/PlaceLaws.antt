-- An environment with one more global.
use Rattle.std.specs.Ordering.{is_eq}
use Rattle.std.proofs.Common.{◌≡◌, ℕ, suc, ◌+◌, ◌^◌, ◌<◌, cond, Bool, true, false, List, [], ◌∷◌, ◌++◌, length, Option, Some, None, refl, sym, ap, ◌∙◌, arith, length-append}
use Rattle.std.specs.Prelude.{insert, if◌then◌else◌}
use Rattle.std.specs.Cmp.Lexicographic.{slice_cmp, nat_list_cmp_total}
use Rattle.std.specs.Ordering.{nat_cmp}
use Rattle.core_term.specs.declared.sorts.Sort.{Sort}
use Rattle.core_term.specs.Tree.{Tree, Sorted}
use Rattle.shared_map.specs.Entries.{look}
use Rattle.shared_map.proofs.EntriesLaws.{look-put, look-last, in_order-put}
use Rattle.cic_rules.specs.declared.decls.InductiveDecl.{InductiveDecl}
use Rattle.cic_rules.specs.declared.entries.Entry.{Entry}
use Rattle.cic_rules.specs.declared.entries.EntryKind.{EntryKind}
use Rattle.cic_rules.specs.declared.entries.EntryKind.TheVariants.{Assumed, Admitted, Defined, Inductive, Constructor, Eliminator}
use Rattle.cic_rules.specs.declared.env.Slot.{Slot}
use Rattle.cic_rules.specs.Names.{rank_of}
use Rattle.cic_rules.specs.Laws.{FoundPlacesAreThere}
use Rattle.cic_rules.specs.Environments.{numbered, place_in, is_there, own_slot, slotted, terms_of, Covers, IsFamilyIfAny, IsOwn, IsNew, IsSlotAt, AreSlots, IsEnvironment, MayEnter}
use Rattle.cic_rules.specs.declared.shapes.FamilyShape.{FamilyShape}
use Rattle.cic_rules.specs.Shapes.{shape_if_any, IsKept}
use Rattle.cic_rules.specs.Scopes.{UseOnly}
use Rattle.cic_rules.proofs.ShapeLaws.{shapes_more}
use Rattle.cic_rules.proofs.IndexLaws.{insert_rank}

numbered-last : (n : ℕ) (env : List Slot) (s : Slot) → numbered n (env ++ (s ∷ [])) ≡ numbered n env ++ ((s.entry.name, n + length env) ∷ [])
numbered-last n [] s = let none : n ≡ n + 0 = omega arith in ap (λ m. (s.entry.name, m) ∷ []) none
numbered-last n (e ∷ env) s =
    let at : suc n + length env ≡ n + suc (length env) = omega arith in
    ap (λ more. (e.entry.name, n) ∷ more) (numbered-last (suc n) env s ∙ ap (λ m. numbered (suc n) env ++ ((s.entry.name, m) ∷ [])) at)

slots-last : (n : ℕ) (env : List Slot) (s : Slot) → AreSlots n env → IsSlotAt (n + length env) s → AreSlots n (env ++ (s ∷ []))
slots-last n [] s all new = let none : n + 0 ≡ n = omega arith in (rw (← none) new, tt)
slots-last n (e ∷ env) s all new =
    let at : n + suc (length env) ≡ suc n + length env = omega arith in
    (all.0, slots-last (suc n) env s all.1 (rw (← at) new))

pub place_in-last : (env : List Slot) (s : Slot) (name : List ℕ) → place_in (env ++ (s ∷ [])) name ≡ look (slice_cmp nat_cmp) (numbered 0 env ++ ((s.entry.name, length env) ∷ [])) name
place_in-last env s name =
    let at : 0 + length env ≡ length env = omega arith in
    ap (λ es. look (slice_cmp nat_cmp) es name) (numbered-last 0 env s ∙ ap (λ m. numbered 0 env ++ ((s.entry.name, m) ∷ [])) at)

-- an environment with one more global
pub environment_more : (env : List Slot) (s : Slot) → IsEnvironment env → length env < 2 ^ 31 → IsSlotAt (length env) s → IsEnvironment (env ++ (s ∷ []))
environment_more env s old room slot =
    let at : 0 + length env ≡ length env = omega arith in
    record { short = omega (arith, room, length-append env (s ∷ [])); slots = slots-last 0 env s old.slots (rw at slot) }

-- a global of a new name at the end of an environment, and in its index by its rank
pub kept_more : (env : List Slot) (index : List (List ℕ × ℕ)) (shapes : List (Option FamilyShape)) (s : Slot) → IsKept env index shapes → length env < 2 ^ 31 → IsNew env s.entry.name → IsSlotAt (length env) s → IsKept (env ++ (s ∷ [])) (insert index (rank_of (slice_cmp nat_cmp) index s.entry.name) (s.entry.name, length env)) (shapes ++ (shape_if_any (length env) s.decl ∷ []))
kept_more env index shapes s old room new slot =
    let none : look (slice_cmp nat_cmp) index s.entry.name ≡ None = old.found s.entry.name ∙ new in
    let at : 0 + length env ≡ length env = omega arith in
    let made = insert_rank (slice_cmp nat_cmp) nat_list_cmp_total index (s.entry.name, length env) none in
    record {
      environment = environment_more env s old.environment room slot;
      order = rw made (in_order-put (slice_cmp nat_cmp) nat_list_cmp_total index (s.entry.name, length env) old.order);
      found = λ (name : List ℕ).
          ap (λ es. look (slice_cmp nat_cmp) es name) made
          ∙ look-put (slice_cmp nat_cmp) nat_list_cmp_total index s.entry.name (length env) name
          ∙ ap (λ found. cond (is_eq (slice_cmp nat_cmp name s.entry.name)) (Some (length env)) found) (old.found name)
          ∙ sym (place_in-last env s name ∙ look-last (slice_cmp nat_cmp) nat_list_cmp_total (numbered 0 env) s.entry.name (length env) new name);
      shapes = shapes_more env shapes s old.shapes;
    }

covers_own : (place : ℕ) (kind : EntryKind) (terms : List Tree) (used : List ℕ) → IsOwn kind → UseOnly used terms → Covers place kind None terms used
covers_own place Assumed terms used own h = h
covers_own place Admitted terms used own h = h
covers_own place (Defined body opaque) terms used own h = h
covers_own place (Inductive n) terms used own h = absurd own
covers_own place (Constructor of index) terms used own h = absurd own
covers_own place (Eliminator of sort) terms used own h = absurd own

family_own : (place : ℕ) (kind : EntryKind) (terms : List Tree) → IsOwn kind → IsFamilyIfAny place kind None terms
family_own place Assumed terms own = tt
family_own place Admitted terms own = tt
family_own place (Defined body opaque) terms own = tt
family_own place (Inductive n) terms own = absurd own
family_own place (Constructor of index) terms own = absurd own
family_own place (Eliminator of sort) terms own = absurd own

-- an entry that may be entered is a global at the next place
pub own_slot_is : (env : List Slot) (e : Entry) → MayEnter env e → IsSlotAt (length env) (own_slot e)
own_slot_is env e h = record { entry = h.entry; covers = covers_own (length env) e.kind (terms_of e) e.used h.own h.used; family = family_own (length env) e.kind (terms_of e) h.own }

-- as many globals as entries
pub length_slotted : (d : Option InductiveDecl) (entries : List Entry) → length (slotted d entries) ≡ length entries
length_slotted d [] = refl
length_slotted d (e ∷ es) = ap suc (length_slotted None es)

-- an assumption of a sort, which uses nothing, may be entered under a new name
pub may_assume : (env : List Slot) (e : Entry) (s : Sort) → IsNew env e.name → e.ty ≡ Sorted s → e.kind ≡ Assumed → e.used ≡ [] → MayEnter env e
may_assume env e s new ty kind used =
    record {
      new = new;
      own = rw kind tt;
      entry = record { scoped = rw (ty, kind) (tt, tt); names = record { ascending = rw used tt; before = rw used tt } };
      used = rw (ty, kind) (tt, tt);
    }

place_split : (b : Bool) (n count : ℕ) (more : Option ℕ) (place : ℕ) → (if b then Some n else more) ≡ Some place →
    (more ≡ Some place → place < suc n + count) → place < n + suc count
place_split true n count more place e rest = let same : n ≡ place = cc in omega (arith, same)
place_split false n count more place e rest = let below = rest e in omega (arith, below)

place_by : (n : ℕ) (env : List Slot) (name : List ℕ) (place : ℕ) → look (slice_cmp nat_cmp) (numbered n env) name ≡ Some place → place < n + length env
place_by n [] name place e = cc
place_by n (s ∷ ss) name place e = place_split (is_eq (slice_cmp nat_cmp name s.entry.name)) n (length ss) (look (slice_cmp nat_cmp) (numbered (suc n) ss) name) place e
    (place_by (suc n) ss name place)

-- a name that is found is that of a global
pub place_below : FoundPlacesAreThere
place_below env name place e = let below = place_by 0 env name place e in omega (arith, below)

-- a name that is not taken is new
pub not_there : (found : Option ℕ) → is_there found ≡ false → found ≡ None
not_there None e = refl
not_there (Some place) e = cc
