-- Entries that are turned over, each once.
use Rattle.std.proofs.Common.{◌≡◌, ℕ, ◌+◌, ◌-◌, ◌<◌, Bool, true, false, cond, List, [], ◌∷◌, ◌++◌, length, take, slice_get, option_map, nat_eq, Some, refl, sym, ap, ◌∙◌, subst, arith, append-nil}
use Rattle.std.proofs.lemmas.Bool.{eqb-true, eq-eqb}
use Rattle.std.specs.List.{IsDistinct, list_any}
use Rattle.std.specs.Map.{lookup_entry, remove_entry, keys_of}
use Rattle.lru.specs.LruCache.{promoted, last_entry}
use Rattle.lru.proofs.Splits.{Contains-middle, cut_last, last_from}
use Rattle.memo_table.specs.declared.slots.Entry.{Entry}
use Rattle.memo_table.specs.Entries.{trimmed, IsTurn}
use Rattle.memo_table.proofs.Keys.{apart}
use Rattle.memo_table.proofs.Indexing.{after_head}

assoc : {X : Type 0} (xs ys zs : List X) → (xs ++ ys) ++ zs ≡ xs ++ (ys ++ zs)
assoc [] ys zs = refl
assoc (x ∷ xs) ys zs = ap (λ l. x ∷ l) (assoc xs ys zs)

module _ {X : Type 0} where
  pub take_front : (es : List (ℕ × X)) (e : ℕ × X) → take (length (es ++ e ∷ []) - 1) (es ++ e ∷ []) ≡ es
  take_front es e = rw (length_push es) (front es)
    where
      length_push : (xs : List (ℕ × X)) → length (xs ++ e ∷ []) - 1 ≡ length xs
      length_push [] = refl
      length_push (x ∷ xs) = let on = plus xs in omega arith
        where
          plus : (ys : List (ℕ × X)) → length (ys ++ e ∷ []) ≡ length ys + 1
          plus [] = refl
          plus (y ∷ ys) = let on = plus ys in omega arith

      front : (xs : List (ℕ × X)) → take (length xs) (xs ++ e ∷ []) ≡ xs
      front [] = refl
      front (x ∷ xs) = ap (λ l. x ∷ l) (front xs)

  pub get_last : (es : List (ℕ × X)) (e : ℕ × X) → last_entry (es ++ e ∷ []) ≡ Some e
  get_last es e = rw (length_push es) (there es)
    where
      plus : (ys : List (ℕ × X)) → length (ys ++ e ∷ []) ≡ length ys + 1
      plus [] = refl
      plus (y ∷ ys) = let on = plus ys in omega arith

      length_push : (xs : List (ℕ × X)) → length (xs ++ e ∷ []) - 1 ≡ length xs
      length_push xs = let on = plus xs in omega arith

      there : (xs : List (ℕ × X)) → slice_get (xs ++ e ∷ []) (length xs) ≡ Some e
      there [] = refl
      there (x ∷ xs) = there xs

  found_last : (es : List (ℕ × X)) (e : ℕ × X) → IsDistinct nat_eq (keys_of (es ++ e ∷ []))
      → (lookup_entry (nat_eq e.0) (es ++ e ∷ []) ≡ Some e) × (remove_entry (nat_eq e.0) (es ++ e ∷ []) ≡ es)
  unfolding IsDistinct
  found_last [] e d = let same = eq-eqb e.0 e.0 refl in (rw same refl, rw same refl)
  found_last (x ∷ es) e d =
      let other : nat_eq e.0 x.0 ≡ false = apart _ (λ t. after_head x.0 (es ++ e ∷ []) d.0 e (Contains-middle es e []) (sym (eqb-true e.0 x.0 t))) in
      let on = found_last es e d.1 in
      (rw other on.0, rw other (ap (λ l. x ∷ l) on.1))

  pub promoted_last : (es : List (ℕ × X)) (e : ℕ × X) → IsDistinct nat_eq (keys_of (es ++ e ∷ [])) → promoted (nat_eq e.0) (es ++ e ∷ []) ≡ e ∷ es
  promoted_last es e d = let on = found_last es e d in rw (on.0, on.1) refl

module _ {M : Type 0} (hold : List ℕ) (now next : List (ℕ × Entry M)) (n : ℕ) (es : List (ℕ × Entry M)) (e : ℕ × Entry M) (is : now ≡ es ++ e ∷ []) where
  some_same : (k : ℕ) → Some n ≡ Some k → n ≡ k
  some_same k h = cc

  number_is : Some n ≡ option_map (λ x. x.0) (last_entry now) → n ≡ e.0
  number_is h = some_same e.0 (h ∙ ap (λ l. option_map (λ x. x.0) (last_entry l)) is ∙ ap (option_map (λ x. x.0)) (get_last es e))

  -- the last entry's number is in the list
  pub turn_kept : IsDistinct nat_eq (keys_of now) → Some n ≡ option_map (λ x. x.0) (last_entry now) → next ≡ promoted (nat_eq n) now
      → list_any (nat_eq n) hold ≡ true → next ≡ cond (list_any (nat_eq e.0) hold) (e ∷ es) es
  turn_kept d h goes k = let same = number_is h in
      let held : list_any (nat_eq e.0) hold ≡ true = subst (λ m. list_any (nat_eq m) hold ≡ true) same k in
      goes ∙ ap (λ m. promoted (nat_eq m) now) same ∙ ap (promoted (nat_eq e.0)) is ∙ promoted_last es e (subst (λ l. IsDistinct nat_eq (keys_of l)) is d) ∙ sym (ap (λ b. cond b (e ∷ es) es) held)

  -- it is not
  pub turn_left : Some n ≡ option_map (λ x. x.0) (last_entry now) → next ≡ take (length now - 1) now
      → list_any (nat_eq n) hold ≡ false → next ≡ cond (list_any (nat_eq e.0) hold) (e ∷ es) es
  turn_left h goes k =
      let held : list_any (nat_eq e.0) hold ≡ false = subst (λ m. list_any (nat_eq m) hold ≡ false) (number_is h) k in
      goes ∙ ap (λ l. take (length l - 1) l) is ∙ take_front es e ∙ sym (ap (λ b. cond b (e ∷ es) es) held)

module _ {M : Type 0} (hold : List ℕ) where
  -- so many entries of the old list were turned over
  pub record IsTrimming (old now : List (ℕ × Entry M)) (turns : ℕ) : Type 0 where
    pub front : List (ℕ × Entry M)
    pub back : List (ℕ × Entry M)
    pub parts : old ≡ front ++ back
    pub count : length back ≡ turns
    pub is : now ≡ trimmed hold back ++ front

  pub trimming_starts : (old : List (ℕ × Entry M)) → IsTrimming old old 0
  trimming_starts old = record { front = old; back = []; parts = sym (append-nil old); count = refl; is = refl }

  lengths : (xs ys : List (ℕ × Entry M)) → length (xs ++ ys) ≡ length xs + length ys
  lengths [] ys = omega arith
  lengths (x ∷ xs) ys = let on = lengths xs ys in omega arith

  turned : (x : ℕ × Entry M) (back us now : List (ℕ × Entry M)) (b : Bool) → list_any (nat_eq x.0) hold ≡ b
      → now ≡ cond b (x ∷ (trimmed hold back ++ us)) (trimmed hold back ++ us) → now ≡ trimmed hold (x ∷ back) ++ us
  turned x back us now true e h = rw e h
  turned x back us now false e h = rw e h

  pub trimming_goes : (old now next : List (ℕ × Entry M)) (turns : ℕ) → IsTrimming old now turns → turns < length old → IsTurn hold now next → IsTrimming old next (turns + 1)
  trimming_goes old now next turns t less turn = by t.front t.back t.parts t.count t.is
    where
      by : (front back : List (ℕ × Entry M)) → old ≡ front ++ back → length back ≡ turns → now ≡ trimmed hold back ++ front → IsTrimming old next (turns + 1)
      by [] back parts count is = absurd (let same : length old ≡ turns = ap length parts ∙ count in omega arith)
      by (a ∷ xs) back parts count is =
          let cut = cut_last a xs in let us = cut.0 in let x = last_from a xs in
          let before : now ≡ (trimmed hold back ++ us) ++ x ∷ [] = is ∙ ap (λ l. trimmed hold back ++ l) cut.1 ∙ sym (assoc (trimmed hold back) us (x ∷ [])) in
          record {
            front = us;
            back = x ∷ back;
            parts = parts ∙ ap (λ l. l ++ back) cut.1 ∙ assoc us (x ∷ []) back;
            count = omega arith;
            is = turned x back us next (list_any (nat_eq x.0) hold) refl (turn (trimmed hold back ++ us) x before);
          }

  pub trimming_ends : (old now : List (ℕ × Entry M)) → IsTrimming old now (length old) → now ≡ trimmed hold old
  trimming_ends old now t = by t.front t.parts t.is
    where
      by : (front : List (ℕ × Entry M)) → old ≡ front ++ t.back → now ≡ trimmed hold t.back ++ front → now ≡ trimmed hold old
      by [] parts is = is ∙ append-nil (trimmed hold t.back) ∙ ap (trimmed hold) (sym parts)
      by (a ∷ xs) parts is = absurd (let sum = ap length parts ∙ lengths (a ∷ xs) t.back in let count = t.count in omega arith)
