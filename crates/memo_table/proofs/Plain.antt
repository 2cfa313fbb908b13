-- Entries without what came of them.
use Rattle.std.proofs.Common.{◌≡◌, ℕ, ◌-◌, Bool, true, false, cond, List, [], ◌∷◌, take, zero, suc, option_map, nat_eq, Some, None, Option, refl, sym, ap, ◌∙◌}
use Rattle.std.specs.Option.{option_map_or}
use Rattle.std.specs.List.{list_any}
use Rattle.std.specs.Map.{lookup_entry, remove_entry}
use Rattle.lru.specs.LruCache.{promoted}
use Rattle.memo_table.specs.declared.key.Key.{Key}
use Rattle.memo_table.specs.declared.slots.Entry.{Entry}
use Rattle.memo_table.specs.Entries.{same_key, number_of, touched, trimmed, plain, plain_entries}
use Rattle.memo_table.specs.Laws.{PlainNumber, PlainTouched, PlainEntered, PlainTrimmed}

cond_map : {X Y : Type 0} (f : X → Y) (b : Bool) (x y : X) → cond b (f x) (f y) ≡ f (cond b x y)
cond_map f true x y = refl
cond_map f false x y = refl

module _ {M : Type 0} where
  number_plain : (key : Key) (es : List (ℕ × Entry M)) → number_of key (plain_entries es) ≡ number_of key es
  number_plain key [] = refl
  number_plain key (e ∷ es) = ap (cond (same_key key e.1.key) (Some e.0)) (number_plain key es)

  find_plain : (n : ℕ) (es : List (ℕ × Entry M)) → lookup_entry (nat_eq n) (plain_entries es) ≡ option_map plain (lookup_entry (nat_eq n) es)
  find_plain n [] = refl
  find_plain n (e ∷ es) = ap (cond (nat_eq n e.0) (Some (plain e))) (find_plain n es) ∙ cond_map (option_map plain) (nat_eq n e.0) (Some e) (lookup_entry (nat_eq n) es)

  remove_plain : (n : ℕ) (es : List (ℕ × Entry M)) → remove_entry (nat_eq n) (plain_entries es) ≡ plain_entries (remove_entry (nat_eq n) es)
  remove_plain n [] = refl
  remove_plain n (e ∷ es) = ap (λ l. cond (nat_eq n e.0) (plain_entries es) (plain e ∷ l)) (remove_plain n es) ∙ cond_map plain_entries (nat_eq n e.0) es (e ∷ remove_entry (nat_eq n) es)

  promoted_plain : (n : ℕ) (es : List (ℕ × Entry M)) → plain_entries (promoted (nat_eq n) es) ≡ promoted (nat_eq n) (plain_entries es)
  promoted_plain n es = by (lookup_entry (nat_eq n) es) refl
    where
      front : Option (ℕ × Entry (Unit {0})) → List (ℕ × Entry (Unit {0}))
      front o = option_map_or (λ e. e ∷ remove_entry (nat_eq n) (plain_entries es)) o (plain_entries es)

      by : (o : Option (ℕ × Entry M)) → lookup_entry (nat_eq n) es ≡ o
          → plain_entries (option_map_or (λ e. e ∷ remove_entry (nat_eq n) es) o es) ≡ promoted (nat_eq n) (plain_entries es)
      by None h = let none : lookup_entry (nat_eq n) (plain_entries es) ≡ None = find_plain n es ∙ ap (option_map plain) h in rw none refl
      by (Some e) h = let some : lookup_entry (nat_eq n) (plain_entries es) ≡ Some (plain e) = find_plain n es ∙ ap (option_map plain) h in
          rw some (ap (λ l. plain e ∷ l) (sym (remove_plain n es)))

  take_plain : (n : ℕ) (es : List (ℕ × Entry M)) → plain_entries (take n es) ≡ take n (plain_entries es)
  take_plain zero es = refl
  take_plain (suc n) [] = refl
  take_plain (suc n) (e ∷ es) = ap (λ l. plain e ∷ l) (take_plain n es)

  trim_plain : (hold : List ℕ) (es : List (ℕ × Entry M)) → plain_entries (trimmed hold es) ≡ trimmed hold (plain_entries es)
  trim_plain hold [] = refl
  trim_plain hold (e ∷ es) =
      sym (cond_map plain_entries (list_any (nat_eq e.0) hold) (e ∷ trimmed hold es) (trimmed hold es)) ∙ ap (λ l. cond (list_any (nat_eq e.0) hold) (plain e ∷ l) l) (trim_plain hold es)

module _ (S : Type 0) where
  pub plain_number : PlainNumber S
  plain_number = number_plain

  pub plain_touched : PlainTouched S
  plain_touched key rows = by (number_of key rows) refl
    where
      by : (o : Option ℕ) → number_of key rows ≡ o → plain_entries (option_map_or (λ n. promoted (nat_eq n) rows) o rows) ≡ touched key (plain_entries rows)
      by None h = let none : number_of key (plain_entries rows) ≡ None = number_plain key rows ∙ h in rw none refl
      by (Some n) h = let some : number_of key (plain_entries rows) ≡ Some n = number_plain key rows ∙ h in rw some (promoted_plain n rows)

  pub plain_entered : PlainEntered S
  plain_entered limit n key made rows = ap (λ l. (n, record { key = key; made = tt }) ∷ l) (take_plain (limit - 1) rows)

  pub plain_trimmed : PlainTrimmed S
  plain_trimmed = trim_plain
