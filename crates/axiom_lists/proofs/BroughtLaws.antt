-- What the entries bring that an entry uses are its axioms.
use Rattle.std.proofs.Common.{◌≡◌, ℕ, zero, suc, ◌+◌, ◌<◌, ◌≤◌, ◌==◌, List, [], ◌∷◌, ◌++◌, length, get_or, Bool, true, false, Some, None, refl, sym, ◌∙◌, ap, subst, arith, inl, inr}
use Rattle.std.specs.Prelude.{◌⊎◌, IsTrue, if◌then◌else◌, slice_get}
use Rattle.std.proofs.lemmas.Bool.Decides.{nat_tests}
use Rattle.term_spine.specs.Globals.{has, IsAscending}
use Rattle.term_spine.proofs.Places.{ascending_one}
use Rattle.cic_rules.specs.declared.env.Slot.{Slot}
use Rattle.cic_rules.specs.Scopes.{AreBefore}
use Rattle.cic_rules.specs.Environments.{IsEnvironment}
use Rattle.cic_rules.specs.Infer.{union}
use Rattle.cic_rules.specs.Grounded.{used_at, is_assumption, axioms, Reaches, Uses, UsesFurther}
use Rattle.cic_rules.specs.Laws.{UsesBefore}
use Rattle.cic_rules.proofs.AxiomLaws.{axioms_ascend}
use Rattle.cic_rules.proofs.ReachLaws.{InTwo, First, Second, merged_parts, entries_use_before, axioms_are_reached}
use Rattle.cic_rules.proofs.UniteLaws.{ascending_union}
use Rattle.cic_rules.proofs.UsedLaws.{union_first, union_second}
use Rattle.axiom_lists.specs.Lists.{axioms_before, own_axioms, brought_by, brought}

parts : (us vs : List ℕ) (q : ℕ) → IsTrue (has (union us vs) q) → InTwo q us vs
parts us vs q h = merged_parts q (length us + length vs) us vs h

same_test : (b c : Bool) → (b ≡ true → c ≡ true) → (c ≡ true → b ≡ true) → b ≡ c
same_test true c there back = sym (there refl)
same_test false true there back = back refl
same_test false false there back = refl

one_has : (p q : ℕ) → IsTrue (has (p ∷ []) q) → p ≡ q
one_has p q h =
    elim (p == q) as (λ b. (p == q) ≡ b → IsTrue (if b then true else false) → p ≡ q) [
      | true ↦ λ same _. grind (arith, nat_tests)
      | false ↦ λ same never. absurd (cc)
    ] refl h

last_one : {A : Type 0} (xs : List A) (x : A) → slice_get (xs ++ (x ∷ [])) (length xs) ≡ Some x
last_one [] x = refl
last_one (y ∷ ys) x = last_one ys x

still_there : {A : Type 0} (xs : List A) (x : A) (i : ℕ) → i < length xs → slice_get (xs ++ (x ∷ [])) i ≡ slice_get xs i
still_there [] x i lt = absurd (omega (arith, lt))
still_there (y ∷ ys) x zero lt = refl
still_there (y ∷ ys) x (suc i) lt = still_there ys x i (omega (arith, lt))

more_length : {A : Type 0} (xs : List A) (x : A) → length (xs ++ (x ∷ [])) ≡ suc (length xs)
more_length [] x = refl
more_length (y ∷ ys) x = ap suc (more_length ys x)

later : (p x : ℕ) (ps : List ℕ) → IsTrue (has ps x) → IsTrue (has (p ∷ ps) x)
later p x ps is = elim (p == x) as (λ b. IsTrue (if b then true else has ps x)) [ true ↦ refl | false ↦ is ]

has_first : (p : ℕ) (ps : List ℕ) → IsTrue (has (p ∷ ps) p)
has_first p ps = let same : (p == p) ≡ true = grind (arith, nat_tests) in ap (λ b. if b then true else has ps p) same

module _ (env : List Slot) (before : UsesBefore env) where
  as_many : (n : ℕ) → length (axioms_before env n) ≡ n
  as_many zero = refl
  as_many (suc n) = more_length (axioms_before env n) (axioms env n) ∙ ap suc (as_many n)

  listed_by : (n p : ℕ) → p < suc n → (p < n → slice_get (axioms_before env n) p ≡ Some (axioms env p)) → (p ≡ n) ⊎ (p < n) →
      slice_get (axioms_before env (suc n)) p ≡ Some (axioms env p)
  listed_by n p lt rest (inl same) =
      let at_end = last_one (axioms_before env n) (axioms env n) in
      let place : p ≡ length (axioms_before env n) = same ∙ sym (as_many n) in
      ap (λ k. slice_get (axioms_before env (suc n)) k) place ∙ at_end ∙ ap (λ k. Some (axioms env k)) (sym same)
  listed_by n p lt rest (inr less) =
      let within : p < length (axioms_before env n) = subst (λ k. p < k) (sym (as_many n)) less in
      still_there (axioms_before env n) (axioms env n) p within ∙ rest less

  one_of : (p n : ℕ) → p < suc n → (p ≡ n) ⊎ (p < n)
  one_of p n lt = grind (arith, lt)

  listed : (n p : ℕ) → p < n → slice_get (axioms_before env n) p ≡ Some (axioms env p)
  listed zero p lt = absurd (omega (arith, lt))
  listed (suc n) p lt = listed_by n p lt (listed n p) (one_of p n lt)

  -- an assumption that is this entry, or that it reaches
  abbrev Brings : ℕ → ℕ → Type 0
  Brings p q = IsTrue (is_assumption env q) × ((q ≡ p) ⊎ Reaches env p q)

  reached_there : (p q : ℕ) → IsTrue (has (axioms env p) q) → Brings p q
  reached_there p q h = let found = (axioms_are_reached env before p q).0 h in (found.0, inr found.1)

  module _ (n : ℕ) where
    own : (p : ℕ) → p < n → own_axioms (slice_get (axioms_before env n) p) ≡ axioms env p
    own p lt = ap own_axioms (listed n p lt)

    by_assumption : (b : Bool) (p q : ℕ) → is_assumption env p ≡ b →
        IsTrue (has (if b then union (p ∷ []) (axioms env p) else axioms env p) q) → Brings p q
    by_assumption true p q is h =
        elim (parts (p ∷ []) (axioms env p) q h) [
          | First one ↦ let same = one_has p q one in (subst (λ x. IsTrue (is_assumption env x)) same is, inl (sym same))
          | Second more ↦ reached_there p q more
        ]
    by_assumption false p q is h = reached_there p q h

    same_brought : (p : ℕ) → p < n →
        brought_by env (axioms_before env n) p ≡ (if is_assumption env p then union (p ∷ []) (axioms env p) else axioms env p)
    same_brought p lt = ap (λ a. if is_assumption env p then union (p ∷ []) a else a) (own p lt)

    brings : (p q : ℕ) → p < n → IsTrue (has (brought_by env (axioms_before env n) p) q) → Brings p q
    brings p q lt h = by_assumption (is_assumption env p) p q refl (subst (λ a. IsTrue (has a q)) (same_brought p lt) h)

    has_by : (b : Bool) (p q : ℕ) → is_assumption env p ≡ b → Brings p q →
        IsTrue (has (if b then union (p ∷ []) (axioms env p) else axioms env p) q)
    has_by true p q is (a, inl same) = union_first (p ∷ []) (axioms env p) q (subst (λ x. IsTrue (has (p ∷ []) x)) (sym same) (has_first p []))
    has_by true p q is (a, inr further) = union_second (p ∷ []) (axioms env p) q ((axioms_are_reached env before p q).1 (a, further))
    has_by false p q is (a, inl same) = absurd (let e : is_assumption env p ≡ true = subst (λ x. IsTrue (is_assumption env x)) same a in cc)
    has_by false p q is (a, inr further) = (axioms_are_reached env before p q).1 (a, further)

    is_brought : (p q : ℕ) → p < n → Brings p q → IsTrue (has (brought_by env (axioms_before env n) p) q)
    is_brought p q lt it = subst (λ a. IsTrue (has a q)) (sym (same_brought p lt)) (has_by (is_assumption env p) p q refl it)

    -- by all of some names that an entry uses
    through : (place p q : ℕ) → IsTrue (has (used_at env place) p) → (q ≡ p) ⊎ Reaches env p q → Reaches env place q
    through place p q used (inl same) = Uses (subst (λ x. IsTrue (has (used_at env place) x)) (sym same) used)
    through place p q used (inr further) = UsesFurther used further

    all_bring : (place : ℕ) (ps : List ℕ) (q : ℕ) → AreBefore n ps → ((p : ℕ) → IsTrue (has ps p) → IsTrue (has (used_at env place) p)) →
        IsTrue (has (brought env (axioms_before env n) ps) q) → IsTrue (is_assumption env q) × Reaches env place q
    all_bring place [] q lt uses h = absurd (cc)
    all_bring place (p ∷ ps) q lt uses h =
        elim (parts (brought_by env (axioms_before env n) p) (brought env (axioms_before env n) ps) q h) [
          | First one ↦
              let it = brings p q lt.0 one in
              (it.0, through place p q (uses p (has_first p ps)) it.1)
          | Second more ↦ all_bring place ps q lt.1 (λ x is. uses x (later p x ps is)) more
        ]

    brought_all : (ps : List ℕ) (p q : ℕ) → AreBefore n ps → IsTrue (has ps p) → Brings p q → IsTrue (has (brought env (axioms_before env n) ps) q)
    brought_all [] p q lt h it = absurd (cc)
    brought_all (x ∷ ps) p q lt h it =
        elim (x == p) as (λ b. (x == p) ≡ b → IsTrue (if b then true else has ps p) → IsTrue (has (brought env (axioms_before env n) (x ∷ ps)) q)) [
          | true ↦ λ test _.
              let same : p ≡ x = grind (arith, nat_tests) in
              union_first (brought_by env (axioms_before env n) x) (brought env (axioms_before env n) ps) q
              (is_brought x q lt.0 (subst (λ y. Brings y q) same it))
          | false ↦ λ test rest.
              union_second (brought_by env (axioms_before env n) x) (brought env (axioms_before env n) ps) q (brought_all ps p q lt.1 rest it)
        ] refl h

    ascending_by : (b : Bool) (p : ℕ) → IsAscending (if b then union (p ∷ []) (axioms env p) else axioms env p)
    ascending_by true p = ascending_union (p ∷ []) (axioms env p) (tt, tt) (axioms_ascend env p)
    ascending_by false p = axioms_ascend env p

    ascending : (ps : List ℕ) → AreBefore n ps → IsAscending (brought env (axioms_before env n) ps)
    ascending [] lt = tt
    ascending (p ∷ ps) lt =
        ascending_union (brought_by env (axioms_before env n) p) (brought env (axioms_before env n) ps)
        (subst IsAscending (sym (same_brought p lt.0)) (ascending_by (is_assumption env p) p)) (ascending ps lt.1)

  reaches_brought : (n q : ℕ) → IsTrue (is_assumption env q) → Reaches env n q → IsTrue (has (brought env (axioms_before env n) (used_at env n)) q)
  reaches_brought n q a (Uses used) = brought_all n (used_at env n) q q (before n) used (a, inl refl)
  reaches_brought n q a (UsesFurther {q = p} used further) = brought_all n (used_at env n) p q (before n) used (a, inr further)

  same_places : (n q : ℕ) → has (axioms env n) q ≡ has (brought env (axioms_before env n) (used_at env n)) q
  same_places n q =
      same_test (has (axioms env n) q) (has (brought env (axioms_before env n) (used_at env n)) q)
      (λ h. let found = (axioms_are_reached env before n q).0 h in reaches_brought n q found.0 found.1)
      (λ h. (axioms_are_reached env before n q).1 (all_bring n n (used_at env n) q (before n) (λ p is. is) h))

  all_axioms : (n : ℕ) → axioms env n ≡ brought env (axioms_before env n) (used_at env n)
  all_axioms n =
      ascending_one (axioms env n) (brought env (axioms_before env n) (used_at env n)) (axioms_ascend env n) (ascending n (used_at env n) (before n))
      (same_places n)

pub axioms_are_brought : (env : List Slot) (lists : List (List ℕ)) (used : List ℕ) (place : ℕ) → IsEnvironment env →
    lists ≡ axioms_before env place → used ≡ used_at env place → brought env lists used ≡ axioms env place
axioms_are_brought env lists used place is listed names = cc (all_axioms env (entries_use_before env is) place, listed, names)

-- the lists of all entries
beyond : {A : Type 0} (xs : List A) (i : ℕ) → length xs ≤ i → slice_get xs i ≡ None
beyond [] i le = refl
beyond (x ∷ xs) zero le = absurd (omega (arith, le))
beyond (x ∷ xs) (suc i) le = beyond xs i (omega (arith, le))

found_or : {A : Type 0} (xs : List A) (i : ℕ) (x other : A) → Some x ≡ slice_get xs i → get_or xs i other ≡ x
found_or [] i x other e = cc
found_or (y ∷ ys) zero x other e = cc
found_or (y ∷ ys) (suc i) x other e = found_or ys i x other e

module _ (env : List Slot) (is : IsEnvironment env) where
  pub as_many_lists : (lists : List (List ℕ)) → lists ≡ axioms_before env (length env) → length lists ≡ length env
  as_many_lists lists all = ap length all ∙ as_many env (entries_use_before env is) (length env)

  pub axioms_at : (lists : List (List ℕ)) (place : ℕ) → lists ≡ axioms_before env (length env) → place < length env →
      Some (axioms env place) ≡ slice_get lists place
  axioms_at lists place all within =
      let known = listed env (entries_use_before env is) (length env) place within in sym (ap (λ l. slice_get l place) all ∙ known)

  pub no_axioms : (place : ℕ) → length env ≤ place → axioms env place ≡ []
  no_axioms place past =
      let none : used_at env place ≡ [] = rw (beyond env place past) refl in
      all_axioms env (entries_use_before env is) place ∙ ap (λ us. brought env (axioms_before env place) us) none

  pub axioms_shown : (lists : List (List ℕ)) (place : ℕ) (own shown : List ℕ) → lists ≡ axioms_before env (length env) → place < length env →
      own ≡ get_or lists place own → shown ≡ own → shown ≡ axioms env place
  axioms_shown lists place own shown all within at_place same =
      same ∙ at_place ∙ found_or lists place (axioms env place) own (axioms_at lists place all within)
