-- An inductive type that passed its test may be entered, with its constructors and eliminators.
use Rattle.std.proofs.Common.{◌≡◌, ℕ, suc, ◌+◌, ◌<◌, ◌≤◌, ◌==◌, nat_lt, cond, List, [], ◌∷◌, ◌++◌, length, Bool, true, false, ◌&&◌, Option, Some, None, Ok, Err, refl, sym, ap, ◌∙◌, subst, arith}
use Rattle.std.specs.Prelude.{if◌then◌else◌}
use Rattle.std.specs.declared.cmp.Ordering.{Ordering}
use Rattle.std.specs.declared.cmp.Ordering.TheVariants.{Less, Equal, Greater}
use Rattle.std.specs.Ordering.{is_eq, nat_cmp, ordering_then}
use Rattle.std.specs.Cmp.Lexicographic.{slice_cmp, nat_list_cmp_total}
use Rattle.std.proofs.lemmas.Bool.Decides.{nat_tests}
use Rattle.base_core.specs.declared.refusals.Stop.TheVariants.{Out}
use Rattle.base_core.specs.declared.refusals.Limit.TheVariants.{SizeLimit}
use Rattle.shared_map.proofs.EntriesLaws.{look-last}
use Rattle.core_term.specs.declared.sorts.Sort.{Sort}
use Rattle.core_term.specs.declared.sorts.Sort.TheVariants.{PropSort, SetSort, TypeSort}
use Rattle.term_spine.specs.Spine.{end_of_products}
use Rattle.cic_rules.specs.declared.decls.Ctor.{Ctor}
use Rattle.cic_rules.specs.declared.decls.InductiveDecl.{InductiveDecl}
use Rattle.cic_rules.specs.declared.entries.Entry.{Entry}
use Rattle.cic_rules.specs.declared.env.Slot.{Slot}
use Rattle.cic_rules.specs.declared.families.CheckedInductive.{CheckedInductive}
use Rattle.cic_rules.specs.Contexts.{products_over}
use Rattle.cic_rules.specs.Scopes.{AreNames}
use Rattle.cic_rules.specs.Environments.{numbered, place_in, is_there, is_taken, IsNew, AreNew, AreSlots, AreScopedCtors, slotted, entered}
use Rattle.cic_rules.specs.Eliminators.{same_name, has_name, eliminator_name, type_slot, ctor_entries, eliminator_entries, family_entries}
use Rattle.cic_rules.specs.EnterFamily.{sorts_shown, used_shown, MayEnterFamily}
use Rattle.cic_rules.specs.Infer.{union, sort_of_at}
use Rattle.cic_rules.specs.Inductive.{assumed_type, has_twice, ctor_names, names_of, any_taken, ALL_SORTS, permitted, are_props, open_params, rows_of, checked, check_family, check_inductive_at, sort_at_end, params_of, are_positive, rows_fit}
use Rattle.cic_rules.specs.Declare.{IsChecked, are_small, types_of}
use Rattle.cic_rules.specs.Runs.{Run, give, check_size, require, some_or}
use Rattle.cic_rules.specs.Eliminators.{type_of_decl}
use Rattle.cic_rules.specs.Laws.{Tells, IsCheckedIn, CheckedMayEnter}
use Rattle.cic_rules.proofs.TellsLaws.{tells_pure, tells_bind, tells_step, tells_forbid}
use Rattle.cic_rules.proofs.ScopeLaws.{scoped_more}
use Rattle.cic_rules.proofs.PlaceLaws.{place_in-last, not_there}
use Rattle.cic_rules.proofs.EliminatorScopes.{scoped_over, scoped_eliminator}
use Rattle.cic_rules.proofs.InductiveScopes.{scope_of_inductives}

-- ---- names

one_false : (b c : Bool) → (if b then true else c) ≡ false → b ≡ false
one_false true c e = cc
one_false false c e = refl

two_false : (b c : Bool) → (if b then true else c) ≡ false → c ≡ false
two_false true c e = cc
two_false false c e = e

both_false : (b c : Bool) → b ≡ false → c ≡ false → (if b then true else c) ≡ false
both_false true c e f = cc
both_false false c e f = f

same_by : (b c : Bool) (x y : ℕ) (r : Ordering) (p : Bool) → nat_lt x y ≡ b → (x == y) ≡ c → is_eq r ≡ p →
    is_eq (ordering_then (cond b Less (cond c Equal Greater)) r) ≡ (c && p)
same_by true true x y r p low same e = let none : ⊥ = grind (arith, nat_tests, low, same) in absurd none
same_by true false x y r p low same e = refl
same_by false true x y r p low same e = e
same_by false false x y r p low same e = refl

-- names that compare as equal are one
compared : (m n : List ℕ) → is_eq (slice_cmp nat_cmp m n) ≡ same_name m n
compared [] [] = refl
compared [] (y ∷ ys) = refl
compared (x ∷ xs) [] = refl
compared (x ∷ xs) (y ∷ ys) = same_by (nat_lt x y) (x == y) x y (slice_cmp nat_cmp xs ys) (same_name xs ys) refl refl (compared xs ys)

none_there : (found : Option ℕ) → found ≡ None → is_there found ≡ false
none_there found e = ap is_there e

if_none : (b : Bool) (place : ℕ) (found : Option ℕ) → b ≡ false → found ≡ None → cond b (Some place) found ≡ None
if_none true place found e f = cc
if_none false place found e f = f

-- a name that is not taken, and not that of the next global
new_last : (env : List Slot) (s : Slot) (n : List ℕ) → IsNew env s.entry.name → IsNew env n → same_name n s.entry.name ≡ false →
    IsNew (env ++ (s ∷ [])) n
new_last env s n new other apart =
    place_in-last env s n
    ∙ look-last (slice_cmp nat_cmp) nat_list_cmp_total (numbered 0 env) s.entry.name (length env) new n
    ∙ if_none (is_eq (slice_cmp nat_cmp n s.entry.name)) (length env) (place_in env n) (compared n s.entry.name ∙ apart) other

any_last : (env : List Slot) (s : Slot) (ns : List (List ℕ)) → IsNew env s.entry.name → has_name ns s.entry.name ≡ false → any_taken env ns ≡ false →
    any_taken (env ++ (s ∷ [])) ns ≡ false
any_last env s [] new apart free = refl
any_last env s (n ∷ ns) new apart free =
    let here = not_there (place_in env n) (one_false (is_taken env n) (any_taken env ns) free) in
    both_false (is_taken (env ++ (s ∷ [])) n) (any_taken (env ++ (s ∷ [])) ns)
    (none_there (place_in (env ++ (s ∷ [])) n) (new_last env s n new here (one_false (same_name n s.entry.name) (has_name ns s.entry.name) apart)))
    (any_last env s ns new (two_false (same_name n s.entry.name) (has_name ns s.entry.name) apart) (two_false (is_taken env n) (any_taken env ns) free))

slot_names : List Slot → List (List ℕ)
slot_names [] = []
slot_names (s ∷ ss) = s.entry.name ∷ slot_names ss

all_new : (env slots : List Slot) → has_twice (slot_names slots) ≡ false → any_taken env (slot_names slots) ≡ false → AreNew env slots
unfolding slot_names
all_new env [] twice free = tt
all_new env (s ∷ ss) twice free =
    let n = s.entry.name in
    let new = not_there (place_in env n) (one_false (is_taken env n) (any_taken env (slot_names ss)) free) in (
      new,
      all_new (env ++ (s ∷ [])) ss (two_false (has_name (slot_names ss) n) (has_twice (slot_names ss)) twice)
          (any_last env s (slot_names ss) new (one_false (has_name (slot_names ss) n) (has_twice (slot_names ss)) twice)
          (two_false (is_taken env n) (any_taken env (slot_names ss)) free)),
    )

entry_names : List Entry → List (List ℕ)
entry_names [] = []
entry_names (e ∷ es) = e.name ∷ entry_names es

slotted_names : (d : Option InductiveDecl) (es : List Entry) → slot_names (slotted d es) ≡ entry_names es
unfolding slot_names entry_names
slotted_names d [] = refl
slotted_names d (e ∷ es) = ap (λ ns. e.name ∷ ns) (slotted_names None es)

sort_names : InductiveDecl → List Sort → List (List ℕ)
sort_names d [] = []
sort_names d (s ∷ ss) = eliminator_name d s ∷ sort_names d ss

eliminator_names : (env : List Slot) (place : ℕ) (d : InductiveDecl) (ss : List Sort) → entry_names (eliminator_entries env place d ss) ≡ sort_names d ss
unfolding entry_names sort_names
eliminator_names env place d [] = refl
eliminator_names env place d (s ∷ ss) = ap (λ ns. eliminator_name d s ∷ ns) (eliminator_names env place d ss)

member_names : (place : ℕ) (d : InductiveDecl) (index : ℕ) (cs : List Ctor) (es : List Entry) →
    entry_names (ctor_entries place d index cs ++ es) ≡ ctor_names cs ++ entry_names es
unfolding entry_names
member_names place d index [] es = refl
member_names place d index (c ∷ cs) es = ap (λ ns. c.name ∷ ns) (member_names place d (suc index) cs es)

family_names : (env : List Slot) (d : InductiveDecl) (used : List ℕ) (ss : List Sort) →
    entry_names (family_entries env d used ss) ≡ d.name ∷ (ctor_names d.ctors ++ sort_names d ss)
unfolding entry_names
family_names env d used ss =
    ap (λ ns. d.name ∷ ns) (member_names (length env) d 0 d.ctors (eliminator_entries (env ++ (type_slot d used ∷ [])) (length env) d ss)
    ∙ ap (λ ns. ctor_names d.ctors ++ ns) (eliminator_names (env ++ (type_slot d used ∷ [])) (length env) d ss))

-- names without the last ones
name_prefix : (xs : List (List ℕ)) (n : List ℕ) (zs : List (List ℕ)) (m : List ℕ) → has_name (xs ++ (n ∷ zs)) m ≡ false → has_name (xs ++ (n ∷ [])) m ≡ false
name_prefix [] n zs m e = both_false (same_name n m) false (one_false (same_name n m) (has_name zs m) e) refl
name_prefix (x ∷ xs) n zs m e =
    both_false (same_name x m) (has_name (xs ++ (n ∷ [])) m) (one_false (same_name x m) (has_name (xs ++ (n ∷ zs)) m) e)
    (name_prefix xs n zs m (two_false (same_name x m) (has_name (xs ++ (n ∷ zs)) m) e))

twice_prefix : (xs : List (List ℕ)) (n : List ℕ) (zs : List (List ℕ)) → has_twice (xs ++ (n ∷ zs)) ≡ false → has_twice (xs ++ (n ∷ [])) ≡ false
twice_prefix [] n zs e = refl
twice_prefix (x ∷ xs) n zs e =
    both_false (has_name (xs ++ (n ∷ [])) x) (has_twice (xs ++ (n ∷ [])))
    (name_prefix xs n zs x (one_false (has_name (xs ++ (n ∷ zs)) x) (has_twice (xs ++ (n ∷ zs))) e))
    (twice_prefix xs n zs (two_false (has_name (xs ++ (n ∷ zs)) x) (has_twice (xs ++ (n ∷ zs))) e))

taken_prefix : (env : List Slot) (xs : List (List ℕ)) (n : List ℕ) (zs : List (List ℕ)) → any_taken env (xs ++ (n ∷ zs)) ≡ false →
    any_taken env (xs ++ (n ∷ [])) ≡ false
taken_prefix env [] n zs e = both_false (is_taken env n) false (one_false (is_taken env n) (any_taken env zs) e) refl
taken_prefix env (x ∷ xs) n zs e =
    both_false (is_taken env x) (any_taken env (xs ++ (n ∷ []))) (one_false (is_taken env x) (any_taken env (xs ++ (n ∷ zs))) e)
    (taken_prefix env xs n zs (two_false (is_taken env x) (any_taken env (xs ++ (n ∷ zs))) e))

-- ---- what the test tells of names and sorts

data IsPermitted (ss : List Sort) : Type 0 where
  AllThree : ss ≡ ALL_SORTS → IsPermitted ss
  PropAlone : ss ≡ PropSort ∷ [] → IsPermitted ss

by_props : (b : Bool) → IsPermitted (if b then ALL_SORTS else PropSort ∷ [])
by_props true = AllThree refl
by_props false = PropAlone refl

permitted_is : (s : Sort) (rows : List (List Sort)) → IsPermitted (permitted s rows)
permitted_is PropSort [] = AllThree refl
permitted_is PropSort (r ∷ []) = by_props (are_props r)
permitted_is PropSort (r ∷ q ∷ rs) = PropAlone refl
permitted_is SetSort rows = AllThree refl
permitted_is (TypeSort i) rows = AllThree refl

record IsTested (env : List Slot) (c : CheckedInductive) : Type 0 where
  twice : has_twice (names_of c.decl) ≡ false
  free : any_taken env (names_of c.decl) ≡ false
  sorts : IsPermitted c.sorts

any : {A : Type 0} (f : Run A) → Tells f (λ _. Unit {0})
any f = record { tells = λ left x e. tt }

family_sorts : (env : List Slot) (calls : ℕ) (d : InductiveDecl) (s : Sort) → Tells (check_family d env calls s) (λ c. (c.decl ≡ d) × IsPermitted c.sorts)
family_sorts env calls d s =
    tells_bind (any (open_params env calls d.params [] [])) (λ o h. tells_bind (any (sort_of_at env calls o.ctx d.arity)) (λ a h2.
    tells_step (check_size (type_of_decl d)) (tells_bind (any (give (entered env (assumed_type d)))) (λ inner h3.
    tells_bind (any (rows_of d inner (length env) calls o.ctx d.ctors)) (λ q h4.
    tells_step (require (are_positive (length env) (params_of d) d.ctors) 32) (tells_step (require (rows_fit s q.rows) 33)
    (tells_pure (checked d env s q.rows (union (union o.used a.used) q.used)) (refl, permitted_is s q.rows))))))))

tested : (env : List Slot) (calls : ℕ) (d : InductiveDecl) → Tells (check_inductive_at env calls d) (λ c. (c.decl ≡ d) × IsTested env c)
tested env calls d =
    tells_forbid (has_twice (names_of d)) 34 (λ twice. tells_forbid (any_taken env (names_of d)) 25 (λ free.
    tells_bind (any (some_or 30 (sort_at_end (end_of_products d.arity)))) (λ s h. record { tells = λ left c e. both c twice free ((family_sorts env calls d s).tells left c e) }))) where
      both : (c : CheckedInductive) → has_twice (names_of d) ≡ false → any_taken env (names_of d) ≡ false → (c.decl ≡ d) × IsPermitted c.sorts →
          (c.decl ≡ d) × IsTested env c
      both c twice free h = (
        h.0,
        record {
          twice = ap (λ x. has_twice (names_of x)) h.0 ∙ twice;
          free = ap (λ x. any_taken env (names_of x)) h.0 ∙ free;
          sorts = h.1;
        },
      )

-- what the test gives is of the declaration that was tested
pub checked_decl : (env : List Slot) (calls : ℕ) (d : InductiveDecl) → Tells (check_inductive_at env calls d) (λ c. (c.decl ≡ d) × IsChecked env c)
checked_decl env calls d =
    record {
      tells = λ left c e.
          let same = ((tested env calls d).tells left c e).0 in
          (same, record { calls = calls; units = left; given = ap (λ x. (check_inductive_at env calls x left).answer) same ∙ e });
    }

names_new : (env : List Slot) (c : CheckedInductive) → IsTested env c →
    (has_twice (c.decl.name ∷ (ctor_names c.decl.ctors ++ sort_names c.decl c.sorts)) ≡ false)
    × (any_taken env (c.decl.name ∷ (ctor_names c.decl.ctors ++ sort_names c.decl c.sorts)) ≡ false)
unfolding sort_names
names_new env c h = by h.sorts where
  by : IsPermitted c.sorts → (has_twice (c.decl.name ∷ (ctor_names c.decl.ctors ++ sort_names c.decl c.sorts)) ≡ false)
      × (any_taken env (c.decl.name ∷ (ctor_names c.decl.ctors ++ sort_names c.decl c.sorts)) ≡ false)
  by (AllThree e) = (
    ap (λ ss. has_twice (c.decl.name ∷ (ctor_names c.decl.ctors ++ sort_names c.decl ss))) e ∙ h.twice,
    ap (λ ss. any_taken env (c.decl.name ∷ (ctor_names c.decl.ctors ++ sort_names c.decl ss))) e ∙ h.free,
  )
  by (PropAlone e) = (
    ap (λ ss. has_twice (c.decl.name ∷ (ctor_names c.decl.ctors ++ sort_names c.decl ss))) e
        ∙ twice_prefix (c.decl.name ∷ ctor_names c.decl.ctors) (eliminator_name c.decl PropSort)
        (eliminator_name c.decl SetSort ∷ eliminator_name c.decl (TypeSort 1) ∷ []) h.twice,
    ap (λ ss. any_taken env (c.decl.name ∷ (ctor_names c.decl.ctors ++ sort_names c.decl ss))) e
        ∙ taken_prefix env (c.decl.name ∷ ctor_names c.decl.ctors) (eliminator_name c.decl PropSort)
        (eliminator_name c.decl SetSort ∷ eliminator_name c.decl (TypeSort 1) ∷ []) h.free,
  )

-- ---- the entries

shown_sorts : (env : List Slot) (place : ℕ) (d : InductiveDecl) (ss : List Sort) → sorts_shown (eliminator_entries env place d ss) ≡ ss
shown_sorts env place d [] = refl
shown_sorts env place d (s ∷ ss) = ap (λ more. s ∷ more) (shown_sorts env place d ss)

shown_behind : (place : ℕ) (d : InductiveDecl) (index : ℕ) (cs : List Ctor) (es : List Entry) → sorts_shown (ctor_entries place d index cs ++ es) ≡ sorts_shown es
shown_behind place d index [] es = refl
shown_behind place d index (c ∷ cs) es = shown_behind place d (suc index) cs es

family_shown : (env : List Slot) (d : InductiveDecl) (used : List ℕ) (ss : List Sort) →
    family_entries env d used ss ≡ family_entries env d (used_shown (family_entries env d used ss)) (sorts_shown (family_entries env d used ss))
family_shown env d used ss =
    ap (λ sorts. family_entries env d used sorts)
    (sym (shown_behind (length env) d 0 d.ctors (eliminator_entries (env ++ (type_slot d used ∷ [])) (length env) d ss)
    ∙ shown_sorts (env ++ (type_slot d used ∷ [])) (length env) d ss))

-- names of the type alone
own_name : (place k : ℕ) → place < k → AreNames k (place ∷ [])
own_name place k lt = record { ascending = (tt, tt); before = (lt, tt) }

module _ (env : List Slot) (c : CheckedInductive) (h : IsCheckedIn env c) where
  eliminator_slots : (k : ℕ) (ss : List Sort) → length env + 1 + length c.decl.ctors ≤ k →
      AreSlots k (slotted None (eliminator_entries (env ++ (type_slot c.decl c.used ∷ [])) (length env) c.decl ss))
  eliminator_slots k [] room = tt
  eliminator_slots k (s ∷ ss) room = (
    record {
      entry = record {
        scoped = (
          scoped_eliminator (env ++ (type_slot c.decl c.used ∷ [])) (length env) c.decl k s room
              (scoped_more 0 0 (length env) k (products_over c.decl.params c.decl.arity) (omega arith) (omega (arith, room)) h.arity)
              (wider (length c.decl.params) (suc (length env)) k c.decl.ctors (omega (arith, room)) h.ctors),
          tt,
        );
        names = own_name (length env) k (omega (arith, room));
      };
      covers = refl;
      family = tt;
    },
    eliminator_slots (suc k) ss (omega (arith, room)),
  ) where
    wider : (n m l : ℕ) (cs : List Ctor) → m ≤ l → AreScopedCtors n m cs → AreScopedCtors n l cs
    wider n m l [] le all = tt
    wider n m l (x ∷ xs) le all = (scoped_more n n m l x.ty (omega arith) le all.0, wider n m l xs le all.1)

  member_slots : (k index : ℕ) (cs : List Ctor) → length env < k → length env + 1 + length c.decl.ctors ≤ k + length cs →
      AreScopedCtors (length c.decl.params) (suc (length env)) cs →
      AreSlots k (slotted None (ctor_entries (length env) c.decl index cs
      ++ eliminator_entries (env ++ (type_slot c.decl c.used ∷ [])) (length env) c.decl c.sorts))
  member_slots k index [] lt room all = eliminator_slots k c.sorts (omega (arith, room))
  member_slots k index (x ∷ xs) lt room all =
      let at_end : length c.decl.params ≡ 0 + length c.decl.params = omega arith in (
        record {
          entry = record {
            scoped = (
              scoped_over 0 (length c.decl.params) k c.decl.params c.decl.arity x.ty at_end
                  (scoped_more 0 0 (length env) k (products_over c.decl.params c.decl.arity) (omega arith) (omega (arith, lt)) h.arity)
                  (scoped_more (length c.decl.params) (length c.decl.params) (suc (length env)) k x.ty (omega arith) lt all.0),
              tt,
            );
            names = own_name (length env) k lt;
          };
          covers = refl;
          family = tt;
        },
        member_slots (suc k) (suc index) xs (omega (arith, lt)) (omega (arith, room)) all.1,
      )

  family_slots : AreSlots (length env) (slotted (Some c.decl) (family_entries env c.decl c.used c.sorts))
  family_slots = (
    record {
      entry = record { scoped = (h.arity, tt); names = h.names };
      covers = h.uses;
      family = record { count = refl; ty = refl; ctors = h.ctors };
    },
    member_slots (suc (length env)) 0 c.decl.ctors (omega arith) (omega arith) h.ctors,
  )

if_small : (b : Bool) (x y : List Entry) → (if b then Ok x else Err (Out SizeLimit)) ≡ Ok y → x ≡ y
if_small true x y e = cc
if_small false x y e = cc

family_new : (env : List Slot) (c : CheckedInductive) → IsTested env c → AreNew env (slotted (Some c.decl) (family_entries env c.decl c.used c.sorts))
family_new env c h =
    let named = slotted_names (Some c.decl) (family_entries env c.decl c.used c.sorts) ∙ family_names env c.decl c.used c.sorts in
    let good = names_new env c h in
    all_new env (slotted (Some c.decl) (family_entries env c.decl c.used c.sorts)) (ap has_twice named ∙ good.0) (ap (any_taken env) named ∙ good.1)

pub checked_may_enter : CheckedMayEnter
checked_may_enter env is c given entries e =
    let made = if_small (are_small (types_of (family_entries env c.decl c.used c.sorts))) (family_entries env c.decl c.used c.sorts) entries e in
    subst (MayEnterFamily env c.decl) made (record {
      family = family_shown env c.decl c.used c.sorts;
      new = family_new env c ((tested env given.calls c.decl).tells given.units c given.given).1;
      slots = family_slots env c (scope_of_inductives env is c given);
    })
