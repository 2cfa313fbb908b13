-- The numbers of entries, as entries come and go.
use Rattle.std.proofs.Common.{◌≡◌, ℕ, ◌+◌, ◌-◌, Bool, true, false, List, [], ◌∷◌, take, filter, nat_eq, Some, None, Option, Contains, refl, ap, subst, inl, inr, arith}
use Rattle.std.specs.Option.{option_map_or}
use Rattle.std.specs.List.{list_any}
use Rattle.std.specs.Map.{lookup}
use Rattle.lru.specs.LruCache.{promoted}
use Rattle.lru.proofs.Splits.{Contains-head, Contains-tail, Contains-cons}
use Rattle.lru.proofs.CallerLemmas.{Contains-take, Contains-promoted}
use Rattle.memo_table.specs.declared.key.Key.{Key}
use Rattle.memo_table.specs.declared.slots.Entry.{Entry}
use Rattle.memo_table.specs.declared.table.Kept.{Kept}
use Rattle.memo_table.specs.Entries.{number_of, made_of, touched, entered, trimmed}
use Rattle.memo_table.specs.Table.{IsCounted}
use Rattle.memo_table.proofs.Indexing.{lookup_fresh}

module _ {M : Type 0} where
  -- what is there afterwards was there before
  pub Contains-touched : (key : Key) (es : List (ℕ × Entry M)) (e : ℕ × Entry M) → Contains (touched key es) e → Contains es e
  Contains-touched key es e = by (number_of key es)
    where
      by : (o : Option ℕ) → Contains (option_map_or (λ number. promoted (nat_eq number) es) o es) e → Contains es e
      by None c = c
      by (Some n) c = Contains-promoted (nat_eq n) es e c

  pub Contains-filtered : (p : ℕ × Entry M → Bool) (es : List (ℕ × Entry M)) (e : ℕ × Entry M) → Contains (filter p es) e → Contains es e
  Contains-filtered p [] e c = c
  Contains-filtered p (x ∷ es) e c = (elim (p x) as (λ b. p x ≡ b → Contains (x ∷ es) e) [
    | true ↦ λ t. elim (Contains-cons x (filter p es) e (rw t at c)) [
      | inl same ↦ subst (Contains (x ∷ es)) same (Contains-head x es)
      | inr d ↦ Contains-tail x es e (Contains-filtered p es e d)
    ]
    | false ↦ λ t. Contains-tail x es e (Contains-filtered p es e (rw t at c))
  ]) refl

module _ {S : Type 0} (given : ℕ) (rows : List (ℕ × Entry (Kept S))) (counted : IsCounted given rows) where
  pub counted_touched : (key : Key) (next : List (ℕ × Entry (Kept S))) → next ≡ touched key rows → IsCounted given next
  counted_touched key next is = record {
    some = λ e c. counted.some e (Contains-touched key rows e (subst (λ l. Contains l e) is c));
    most = λ e c. counted.most e (Contains-touched key rows e (subst (λ l. Contains l e) is c));
  }

  pub counted_trimmed : (hold : List ℕ) (next : List (ℕ × Entry (Kept S))) → next ≡ trimmed hold rows → IsCounted given next
  counted_trimmed hold next is = record {
    some = λ e c. counted.some e (Contains-filtered (λ x. list_any (nat_eq x.0) hold) rows e (subst (λ l. Contains l e) is c));
    most = λ e c. counted.most e (Contains-filtered (λ x. list_any (nat_eq x.0) hold) rows e (subst (λ l. Contains l e) is c));
  }

  pub counted_entered : (n : ℕ) → n ≡ given + 1 → (limit : ℕ) (x : Entry (Kept S)) (next : List (ℕ × Entry (Kept S))) → next ≡ entered limit (n, x) rows → IsCounted n next
  counted_entered n up limit x next is = record {
    some = λ e c. elim (Contains-cons (n, x) (take (limit - 1) rows) e (subst (λ l. Contains l e) is c)) [
      | inl same ↦ let k : n ≡ e.0 = ap (λ y. y.0) same in omega arith
      | inr d ↦ counted.some e (Contains-take (limit - 1) rows e d)
    ];
    most = λ e c. elim (Contains-cons (n, x) (take (limit - 1) rows) e (subst (λ l. Contains l e) is c)) [
      | inl same ↦ let k : n ≡ e.0 = ap (λ y. y.0) same in omega arith
      | inr d ↦ let was = counted.most e (Contains-take (limit - 1) rows e d) in omega arith
    ];
  }

  pub next_fresh : (n : ℕ) → n ≡ given + 1 → lookup (nat_eq n) rows ≡ None
  next_fresh n is = lookup_fresh n rows (λ e c s. let was = counted.most e c in omega arith)

  pub none_at_start : (n : ℕ) → n ≡ 0 → made_of n rows ≡ None
  none_at_start n is = let none : lookup (nat_eq n) rows ≡ None = lookup_fresh n rows (λ e c s. let was = counted.some e c in omega arith) in rw none refl
