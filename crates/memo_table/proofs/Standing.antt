-- What a table's numbers stand for, from call to call.
use Rattle.std.proofs.Common.{◌≡◌, ℕ, ◌+◌, ◌-◌, ◌<◌, ◌≤◌, true, false, List, [], ◌∷◌, ◌++◌, take, fold, option_map, nat_eq, Some, None, Option, IsSome, Contains, refl, sym, ap, ◌∙◌, subst, inl, inr, arith}
use Rattle.std.proofs.lemmas.Bool.{eqb-true, eq-eqb}
use Rattle.std.specs.List.{list_any}
use Rattle.std.specs.Map.{lookup, lookup_entry}
use Rattle.lru.proofs.Splits.{Contains-head, Contains-tail, Contains-cons, cons_head, cons_tail, nil_ne_cut}
use Rattle.lru.proofs.CallerLemmas.{Contains-take, Contains-lookup, Contains-lookup_entry}
use Rattle.prover_iface.specs.Sentences.{Sentence}
use Rattle.prover_iface.specs.Meanings.{Meanings, state_behind}
use Rattle.memo_table.specs.declared.key.Key.{Key}
use Rattle.memo_table.specs.declared.slots.Entry.{Entry}
use Rattle.base_core.specs.declared.limits.TheConstants.{TABLE_LIMIT}
use Rattle.memo_table.specs.declared.table.Kept.{Kept}
use Rattle.memo_table.specs.Entries.{entry_of, same_key, number_of, made_of, touched}
use Rattle.memo_table.specs.Fits.{sentence_of, behind_key, extended, IsMade, IsRow}
use Rattle.memo_table.specs.Laws.{TouchedFits, TrimmedFits, KeptFits, NumberStands, NumberIsHeld, StateStands, EntryStands}
use Rattle.memo_table.proofs.Keys.{key_same, apart}
use Rattle.memo_table.proofs.Indexing.{lookup_apart}
use Rattle.memo_table.proofs.Counting.{Contains-touched, Contains-filtered}

some_same : {X : Type 0} (x y : X) → Some x ≡ Some y → x ≡ y
some_same x y h = cc

other : (prefix : ℕ → List Sentence) (n m : ℕ) (sentences : List Sentence) → m < n → extended prefix n sentences m ≡ prefix m
other prefix n m sentences less = rw (apart (nat_eq n m) (λ t. let same = eqb-true n m t in omega arith)) refl

same : (prefix : ℕ → List Sentence) (n : ℕ) (sentences : List Sentence) → extended prefix n sentences n ≡ sentences
same prefix n sentences = rw (eq-eqb n n refl) refl

fold_push : {A B : Type 0} (f : A → B → A) (a : A) (xs : List B) (x : B) → fold f a (xs ++ x ∷ []) ≡ f (fold f a xs) x
fold_push f a [] x = refl
fold_push f a (y ∷ xs) x = fold_push f (f a y) xs x

last_same : {X : Type 0} (xs ys : List X) (x y : X) → xs ++ x ∷ [] ≡ ys ++ y ∷ [] → (xs ≡ ys) × (x ≡ y)
last_same [] [] x y h = (refl, cons_head x y [] [] h)
last_same [] (b ∷ ys) x y h = absurd (nil_ne_cut ys y [] (cons_tail x b [] (ys ++ y ∷ []) h))
last_same (a ∷ xs) [] x y h = absurd (nil_ne_cut xs x [] (sym (cons_tail a y (xs ++ x ∷ []) [] h)))
last_same (a ∷ xs) (b ∷ ys) x y h =
    let on = last_same xs ys x y (cons_tail a b (xs ++ x ∷ []) (ys ++ y ∷ []) h) in
    (ap (λ c. c ∷ xs) (cons_head a b (xs ++ x ∷ []) (ys ++ y ∷ []) h) ∙ ap (λ l. b ∷ l) on.0, on.1)

-- an entry that a key finds
record IsFound {M : Type 0} (key : Key) (es : List (ℕ × Entry M)) (n : ℕ) : Type 0 where
  entry : ℕ × Entry M
  there : Contains es entry
  number : entry.0 ≡ n
  keyed : key ≡ entry.1.key

found : {M : Type 0} (key : Key) (es : List (ℕ × Entry M)) (n : ℕ) → number_of key es ≡ Some n → IsFound key es n
found key [] n h = cc
found key (e ∷ es) n h = (elim (same_key key e.1.key) as (λ b. same_key key e.1.key ≡ b → IsFound key (e ∷ es) n) [
  | true ↦ λ t. record { entry = e; there = Contains-head e es; number = some_same e.0 n (rw t at h); keyed = key_same key e.1.key t }
  | false ↦ λ t. let on = found key es n (rw t at h) in
      record { entry = on.entry; there = Contains-tail e es on.entry on.there; number = on.number; keyed = on.keyed }
]) refl

-- the entry that a number finds
record IsHeld {M : Type 0} (es : List (ℕ × Entry M)) (n : ℕ) (made : M) : Type 0 where
  entry : Entry M
  there : Contains es (n, entry)
  made_is : entry.made ≡ made

holds : {M : Type 0} (es : List (ℕ × Entry M)) (n : ℕ) (made : M) → made_of n es ≡ Some made → IsHeld es n made
holds {M} es n made h = by (lookup (nat_eq n) es) refl h
  where
    by : (o : Option (Entry M)) → lookup (nat_eq n) es ≡ o → option_map (λ e. e.made) o ≡ Some made → IsHeld es n made
    by None l h = cc
    by (Some x) l h = let was = Contains-lookup (nat_eq n) es x l in record {
      entry = x;
      there = subst (λ k. Contains es (k, x)) (sym (eqb-true n was.0 was.2)) was.1;
      made_is = some_same x.made made h;
    }

module _ {S M : Type 0} (meaning : S → M) (means : Meanings M) where
  pub touched_fits : TouchedFits meaning means
  touched_fits prefix t key f = record { zero = f.zero; root = f.root; rows = λ e c. f.rows e (Contains-touched key t.rows e c) }

  pub trimmed_fits : TrimmedFits meaning means
  trimmed_fits prefix t hold f = record { zero = f.zero; root = f.root; rows = λ e c. f.rows e (Contains-filtered (λ x. list_any (nat_eq x.0) hold) t.rows e c) }

  pub kept_fits : KeptFits meaning means
  kept_fits prefix t key made f given value = record {
    zero = other prefix (t.given + 1) 0 (behind_key prefix key) (omega arith) ∙ f.zero;
    root = f.root;
    rows = λ e c. elim (Contains-cons (t.given + 1, entry_of key made) (take (TABLE_LIMIT - 1) t.rows) e c) [
      | inl is ↦ subst (IsRow meaning means now (t.given + 1)) is new_row
      | inr d ↦ still e (f.rows e (Contains-take (TABLE_LIMIT - 1) t.rows e d))
    ];
  }
    where
      now : ℕ → List Sentence
      now = extended prefix (t.given + 1) (behind_key prefix key)

      stays : (m : ℕ) → m ≤ t.given → prefix m ≡ extended prefix (t.given + 1) (behind_key prefix key) m
      stays m less = sym (other prefix (t.given + 1) m (behind_key prefix key) (omega arith))

      new_row : IsRow meaning means (extended prefix (t.given + 1) (behind_key prefix key)) (t.given + 1) (t.given + 1, entry_of key made)
      new_row = record {
        some = omega arith;
        known = omega arith;
        earlier = omega arith;
        links = same prefix (t.given + 1) (behind_key prefix key) ∙ ap (λ l. l ++ sentence_of key ∷ []) (stays key.from given);
        value = subst (λ l. IsMade meaning means (state_behind means l) (sentence_of key) made) (stays key.from given) value;
      }

      still : (e : ℕ × Entry (Kept S)) → IsRow meaning means prefix t.given e → IsRow meaning means (extended prefix (t.given + 1) (behind_key prefix key)) (t.given + 1) e
      still e r = let known = r.known in let earlier = r.earlier in let from : e.1.key.from ≤ t.given = omega arith in record {
        some = r.some;
        known = omega arith;
        earlier = r.earlier;
        links = sym (stays e.0 known) ∙ r.links ∙ ap (λ l. l ++ sentence_of e.1.key ∷ []) (stays e.1.key.from from);
        value = subst (λ l. IsMade meaning means (state_behind means l) (sentence_of e.1.key) e.1.made) (stays e.1.key.from from) r.value;
      }

  pub number_stands : NumberStands meaning means
  number_stands prefix t key n f h = let on = found key t.rows n h in let r = f.rows on.entry on.there in (
    subst (λ m. 0 < m) on.number r.some,
    subst (λ m. m ≤ t.given) on.number r.known,
    ap prefix (sym on.number) ∙ r.links ∙ ap (behind_key prefix) (sym on.keyed),
  )

  pub state_stands : StateStands meaning means
  state_stands prefix t n made f h = let on = holds t.rows n made h in let r = f.rows (n, on.entry) on.there in
      ap (λ k. meaning k.state) (sym on.made_is) ∙ r.value.state_is
      ∙ sym (fold_push means.after means.first (prefix on.entry.key.from) (sentence_of on.entry.key)) ∙ ap (state_behind means) (sym r.links)

  pub entry_stands : EntryStands meaning means
  entry_stands prefix t key n made f is m = let on = holds t.rows n made m in let r = f.rows (n, on.entry) on.there in
      let parts = last_same (prefix on.entry.key.from) (prefix key.from) (sentence_of on.entry.key) (sentence_of key) (sym r.links ∙ is) in
      subst (λ l. IsMade meaning means (state_behind means l) (sentence_of key) made) parts.0
      (subst (λ s. IsMade meaning means (state_behind means (prefix on.entry.key.from)) s made) parts.1
      (subst (IsMade meaning means (state_behind means (prefix on.entry.key.from)) (sentence_of on.entry.key)) on.made_is r.value))

pub number_is_held : {S : Type 0} → NumberIsHeld S
number_is_held {S} t key n h = (by (lookup (nat_eq n) t.rows) refl, front (lookup_entry (nat_eq n) t.rows) refl)
  where
    held : lookup (nat_eq n) t.rows ≡ None → ⊥
    held l = let on = found key t.rows n h in lookup_apart n t.rows l on.entry on.there (sym on.number)

    by : (o : Option (Entry (Kept S))) → lookup (nat_eq n) t.rows ≡ o → IsSome (option_map (λ e. e.made) o)
    by None l = absurd (held l)
    by (Some x) l = refl

    none_too : (es : List (ℕ × Entry (Kept S))) → lookup_entry (nat_eq n) es ≡ None → lookup (nat_eq n) es ≡ None
    none_too [] l = refl
    none_too (e ∷ es) l = (elim (nat_eq n e.0) as (λ b. nat_eq n e.0 ≡ b → lookup (nat_eq n) (e ∷ es) ≡ None) [
      | true ↦ λ t. let bad = rw t at l in cc
      | false ↦ λ t. rw t (none_too es (rw t at l))
    ]) refl

    front : (o : Option (ℕ × Entry (Kept S))) → lookup_entry (nat_eq n) t.rows ≡ o → IsSome (made_of n (touched key t.rows))
    front None l = absurd (held (none_too t.rows l))
    front (Some e) l = let is = (Contains-lookup_entry (nat_eq n) t.rows e l).1 in rw (h, l, is) refl
