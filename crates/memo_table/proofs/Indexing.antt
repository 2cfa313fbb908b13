-- The numbers by key, as entries come and go.
use Rattle.std.proofs.Common.{◌≡◌, ℕ, zero, suc, true, false, cond, List, [], ◌∷◌, take, slice_get, nat_eq, Some, None, Contains, refl, sym, ap, ◌∙◌, subst, inl, inr}
use Rattle.std.proofs.lemmas.Bool.{eqb-true, eq-eqb}
use Rattle.std.specs.List.{AllByRecursion, IsDistinct}
use Rattle.std.specs.Map.{lookup, keys_of}
use Rattle.std.specs.HashMap.{HashMap, get}
use Rattle.lru.proofs.Splits.{Contains-head, Contains-tail, Contains-cons, Contains-nil}
use Rattle.lru.proofs.CallerLemmas.{Contains-take, Contains-lookup}
use Rattle.memo_table.specs.declared.key.Key.{Key}
use Rattle.memo_table.specs.declared.slots.Entry.{Entry}
use Rattle.memo_table.specs.Entries.{entry_of, same_key, number_of}
use Rattle.memo_table.proofs.Keys.{key_same, key_refl, number_none, number_some, none_has, apart}

some_same : {X : Type 0} (x y : X) → Some x ≡ Some y → x ≡ y
some_same x y h = cc

module _ {X : Type 0} where
  -- a look-up that finds nothing at a number
  pub lookup_apart : (n : ℕ) (es : List (ℕ × X)) → lookup (nat_eq n) es ≡ None → (e : ℕ × X) → Contains es e → n ≡ e.0 → ⊥
  lookup_apart n [] h e c s = Contains-nil e c
  lookup_apart n (f ∷ es) h e c s = (elim (nat_eq n f.0) as (λ b. nat_eq n f.0 ≡ b → ⊥) [
    | true ↦ λ t. let bad = rw t at h in cc
    | false ↦ λ t. elim (Contains-cons f es e c) [
      | inl same ↦ let bad : true ≡ false = sym (eq-eqb n f.0 (s ∙ ap (λ x. x.0) (sym same))) ∙ t in cc
      | inr d ↦ lookup_apart n es (rw t at h) e d s
    ]
  ]) refl

  -- a number that none has
  pub lookup_fresh : (n : ℕ) (es : List (ℕ × X)) → ((e : ℕ × X) → Contains es e → n ≡ e.0 → ⊥) → lookup (nat_eq n) es ≡ None
  lookup_fresh n [] h = refl
  lookup_fresh n (e ∷ es) h = rw (apart _ (λ t. h e (Contains-head e es) (eqb-true n e.0 t)), lookup_fresh n es (λ f c. h f (Contains-tail e es f c)))

  pub after_head : (n : ℕ) (es : List (ℕ × X)) → AllByRecursion (λ y. nat_eq n y ≡ false) (keys_of es) → (e : ℕ × X) → Contains es e → n ≡ e.0 → ⊥
  after_head n [] h e c s = Contains-nil e c
  after_head n (f ∷ es) h e c s = elim (Contains-cons f es e c) [
    | inl same ↦ let bad : true ≡ false = sym (eq-eqb n f.0 (s ∙ ap (λ x. x.0) (sym same))) ∙ h.0 in cc
    | inr d ↦ after_head n es h.1 e d s
  ]

  -- no number stands twice: entries of the same number are the same
  pub one_of_number : (es : List (ℕ × X)) → IsDistinct nat_eq (keys_of es) → (e f : ℕ × X) → Contains es e → Contains es f → e.0 ≡ f.0 → e ≡ f
  unfolding IsDistinct
  one_of_number [] h e f c d s = absurd (Contains-nil e c)
  one_of_number (x ∷ es) h e f c d s = elim (Contains-cons x es e c) [
    | inl p ↦ elim (Contains-cons x es f d) [
      | inl q ↦ sym p ∙ q
      | inr q ↦ absurd (after_head x.0 es h.0 f q (ap (λ y. y.0) p ∙ s))
    ]
    | inr p ↦ elim (Contains-cons x es f d) [
      | inl q ↦ absurd (after_head x.0 es h.0 e p (ap (λ y. y.0) q ∙ sym s))
      | inr q ↦ one_of_number es h.1 e f p q s
    ]
  ]

  -- the numbers before a place are others than the one there
  pub before_apart : (es : List (ℕ × X)) → IsDistinct nat_eq (keys_of es) → (i : ℕ) (l : ℕ × X) → slice_get es i ≡ Some l
      → (e : ℕ × X) → Contains (take i es) e → e.0 ≡ l.0 → ⊥
  unfolding IsDistinct
  before_apart [] h i l g e c s = cc
  before_apart (x ∷ es) h zero l g e c s = Contains-nil e c
  before_apart (x ∷ es) h (suc i) l g e c s = elim (Contains-cons x (take i es) e c) [
    | inl p ↦ after_head x.0 es h.0 l (got es i l g) (ap (λ y. y.0) p ∙ s)
    | inr p ↦ before_apart es h.1 i l g e p s
  ]
    where
      got : (xs : List (ℕ × X)) (k : ℕ) (y : ℕ × X) → slice_get xs k ≡ Some y → Contains xs y
      got [] k y g = cc
      got (z ∷ xs) zero y g = subst (Contains (z ∷ xs)) (some_same z y g) (Contains-head z xs)
      got (z ∷ xs) (suc k) y g = Contains-tail z xs y (got xs k y g)

  pub slice_get-Contains : (xs : List (ℕ × X)) (k : ℕ) (y : ℕ × X) → slice_get xs k ≡ Some y → Contains xs y
  slice_get-Contains [] k y g = cc
  slice_get-Contains (z ∷ xs) zero y g = subst (Contains (z ∷ xs)) (some_same z y g) (Contains-head z xs)
  slice_get-Contains (z ∷ xs) (suc k) y g = Contains-tail z xs y (slice_get-Contains xs k y g)

module _ {M H : Type 0} where
  -- each entry is found by its key
  abbrev pub Listed : HashMap Key ℕ H → List (ℕ × Entry M) → Type 0
  Listed numbers es = (e : ℕ × Entry M) → Contains es e → get same_key numbers e.1.key ≡ Some e.0

  module _ (numbers : HashMap Key ℕ H) (es : List (ℕ × Entry M)) (listed : Listed numbers es) (key : Key) where
    -- an entry of a key has the number that is noted for it
    pub noted : (n : ℕ) → get same_key numbers key ≡ Some n → (e : ℕ × Entry M) → Contains es e → same_key key e.1.key ≡ true → e.0 ≡ n
    noted n g e c s = some_same e.0 n (sym (listed e c) ∙ ap (get same_key numbers) (sym (key_same key e.1.key s)) ∙ g)

    pub number_unknown : get same_key numbers key ≡ None → None ≡ number_of key es
    number_unknown g = number_none key es (λ e c s. let bad : Some e.0 ≡ None = sym (listed e c) ∙ ap (get same_key numbers) (sym (key_same key e.1.key s)) ∙ g in cc)

    pub number_gone : (n : ℕ) → get same_key numbers key ≡ Some n → lookup (nat_eq n) es ≡ None → None ≡ number_of key es
    number_gone n g l = number_none key es (λ e c s. lookup_apart n es l e c (sym (noted n g e c s)))

    held : (n : ℕ) (entry : Entry M) → lookup (nat_eq n) es ≡ Some entry → Contains es (n, entry)
    held n entry l = let was = Contains-lookup (nat_eq n) es entry l in
        subst (λ k. Contains es (k, entry)) (sym (eqb-true n was.0 was.2)) was.1

    pub number_held : (n : ℕ) (entry : Entry M) → get same_key numbers key ≡ Some n → lookup (nat_eq n) es ≡ Some entry
        → same_key entry.key key ≡ true → Some n ≡ number_of key es
    number_held n entry g l s = number_some key n es (noted n g) (n, entry) (held n entry l)
        (subst (λ k. same_key key k ≡ true) (sym (key_same entry.key key s)) (key_refl key))

    pub number_other : IsDistinct nat_eq (keys_of es) → (n : ℕ) (entry : Entry M) → get same_key numbers key ≡ Some n → lookup (nat_eq n) es ≡ Some entry
        → same_key entry.key key ≡ false → None ≡ number_of key es
    number_other d n entry g l s = number_none key es (λ e c t.
        let same : e ≡ (n, entry) = one_of_number es d e (n, entry) c (held n entry l) (noted n g e c t) in
        let bad : true ≡ false = sym (key_refl key) ∙ ap (λ k. same_key k key) (key_same key e.1.key t ∙ ap (λ x. x.1.key) same) ∙ s in cc)

  -- a key is noted, and another is forgotten
  module _ (old noting : HashMap Key ℕ H) (es : List (ℕ × Entry M)) (listed : Listed old es) (n : ℕ) (key : Key) (made : M)
      (notes : (q : Key) → get same_key noting q ≡ cond (same_key key q) (Some n) (get same_key old q))
      (absent : number_of key es ≡ None) where
    entry : Entry M
    entry = entry_of key made

    pub noting_listed : (i : ℕ) → Listed noting ((n, entry_of key made) ∷ take i es)
    noting_listed i e c = elim (Contains-cons (n, entry_of key made) (take i es) e c) [
      | inl same ↦ subst (λ x. get same_key noting x.1.key ≡ Some x.0) same (notes key ∙ rw (key_refl key) refl)
      | inr d ↦ let was = Contains-take i es e d in notes e.1.key ∙ rw (none_has key es absent e was) (listed e was)
    ]

    module _ (now : HashMap Key ℕ H) (gone : Key) (forgets : (q : Key) → get same_key now q ≡ cond (same_key gone q) None (get same_key noting q)) where
      still : (e : ℕ × Entry M) → same_key gone e.1.key ≡ false → get same_key noting e.1.key ≡ Some e.0 → get same_key now e.1.key ≡ Some e.0
      still e s g = forgets e.1.key ∙ rw s g

      -- the last entry was pushed out
      pub pushed_listed : IsDistinct nat_eq (keys_of es) → (i : ℕ) (l : ℕ × Entry M) → slice_get es i ≡ Some l → l.1.key ≡ gone
          → Listed now ((n, entry_of key made) ∷ take i es)
      pushed_listed d i l g k e c = still e (other e c) (noting_listed i e c)
        where
          there : Contains es l
          there = slice_get-Contains es i l g

          other : (e : ℕ × Entry M) → Contains ((n, entry_of key made) ∷ take i es) e → same_key gone e.1.key ≡ false
          other e c = apart _ (λ t. elim (Contains-cons (n, entry_of key made) (take i es) e c) [
            | inl same ↦
                let is : l.1.key ≡ key = k ∙ key_same gone e.1.key t ∙ ap (λ x. x.1.key) (sym same) in
                let bad : true ≡ false = sym (key_refl key) ∙ ap (same_key key) (sym is) ∙ none_has key es absent l there in cc
            | inr f ↦ before_apart es d i l g e f
                (some_same e.0 l.0 (sym (listed e (Contains-take i es e f)) ∙ ap (get same_key old) (sym (key_same gone e.1.key t)) ∙ ap (get same_key old) (sym k) ∙ listed l there))
          ])

      -- the new entry didn't come in
      pub refused_listed : gone ≡ key → Listed now es
      refused_listed k e c = let s = none_has key es absent e c in
          still e (subst (λ x. same_key x e.1.key ≡ false) (sym k) s) (notes e.1.key ∙ rw s (listed e c))

  -- the entry at a place was taken out, and those behind it
  pub taken_listed : (old now : HashMap Key ℕ H) (es : List (ℕ × Entry M)) → Listed old es → IsDistinct nat_eq (keys_of es)
      → (i : ℕ) (l : ℕ × Entry M) → slice_get es i ≡ Some l
      → ((q : Key) → get same_key now q ≡ cond (same_key l.1.key q) None (get same_key old q)) → Listed now (take i es)
  taken_listed old now es listed d i l g forgets e c =
      let was = Contains-take i es e c in
      let s : same_key l.1.key e.1.key ≡ false = apart _ (λ t. before_apart es d i l g e c
      (some_same e.0 l.0 (sym (listed e was) ∙ ap (get same_key old) (sym (key_same l.1.key e.1.key t)) ∙ listed l (slice_get-Contains es i l g)))) in
      forgets e.1.key ∙ rw s (listed e was)
