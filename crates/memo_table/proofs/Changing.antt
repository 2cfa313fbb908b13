-- What each change of the cache leaves of the index.
use Rattle.std.proofs.Common.{◌≡◌, ℕ, ◌-◌, Bool, true, false, cond, List, [], ◌∷◌, length, take, slice_get, nat_eq, Some, None, Option, refl, sym, ap, ◌∙◌, subst}
use Rattle.std.specs.List.{IsDistinct}
use Rattle.std.specs.Map.{lookup, lookup_entry, keys_of}
use Rattle.std.specs.HashMap.{HashMap, get}
use Rattle.lru.specs.LruCache.{LruCache, lru_cache, put_entries, displaced, promoted, last_entry}
use Rattle.lru.proofs.CallerLemmas.{Contains-take, Contains-promoted}
use Rattle.memo_table.specs.declared.key.Key.{Key}
use Rattle.memo_table.specs.declared.slots.Entry.{Entry}
use Rattle.base_core.specs.declared.limits.TheConstants.{TABLE_LIMIT}
use Rattle.memo_table.specs.Entries.{entry_of, same_key, number_of, entered}
use Rattle.memo_table.specs.Index.{IsIndexed}
use Rattle.memo_table.proofs.Indexing.{Listed, noting_listed, pushed_listed, refused_listed, taken_listed}

no_entry : {X : Type 0} (n : ℕ) (es : List (ℕ × X)) → lookup (nat_eq n) es ≡ None → lookup_entry (nat_eq n) es ≡ None
no_entry n [] h = refl
no_entry n (e ∷ es) h = (elim (nat_eq n e.0) as (λ b. nat_eq n e.0 ≡ b → lookup_entry (nat_eq n) (e ∷ es) ≡ None) [
  | true ↦ λ t. let bad = rw t at h in cc
  | false ↦ λ t. rw t (no_entry n es (rw t at h))
]) refl

put_new : {X : Type 0} (c : LruCache ℕ X) (n : ℕ) (v : X) → lookup (nat_eq n) c.entries ≡ None → put_entries nat_eq c n v ≡ (n, v) ∷ take (c.cap - 1) c.entries
put_new c n v h = rw (no_entry n c.entries h) refl

pushed_out : {X : Type 0} (c : LruCache ℕ X) (n : ℕ) (v : X) (o : Option (ℕ × X)) → lookup (nat_eq n) c.entries ≡ None
    → o ≡ displaced nat_eq c n v → slice_get c.entries (c.cap - 1) ≡ o
pushed_out c n v o h e = let plain : displaced nat_eq c n v ≡ slice_get c.entries (c.cap - 1) = rw h refl in sym plain ∙ sym e

module _ {M H : Type 0} (cache next : LruCache ℕ (Entry M)) (old : HashMap Key ℕ H) (indexed : IsIndexed cache old) where
  -- an entry of a new number and a new key
  module _ (n : ℕ) (key : Key) (made : M) (new_number : lookup (nat_eq n) cache.entries ≡ None) (new_key : number_of key cache.entries ≡ None)
      (noting : HashMap Key ℕ H) (notes : (q : Key) → get same_key noting q ≡ cond (same_key key q) (Some n) (get same_key old q)) where
    module _ (put : next ≡ lru_cache (put_entries nat_eq cache n (entry_of key made)) cache.cap) where
      came : next.entries ≡ (n, entry_of key made) ∷ take (cache.cap - 1) cache.entries
      came = ap (λ c. c.entries) put ∙ put_new cache n (entry_of key made) new_number

      pub put_entered : next.entries ≡ entered TABLE_LIMIT (n, entry_of key made) cache.entries
      put_entered = came ∙ ap (λ c. (n, entry_of key made) ∷ take (c - 1) cache.entries) indexed.limit

      pub put_indexed : IsIndexed next noting
      put_indexed = record {
        limit = ap (λ c. c.cap) put ∙ indexed.limit;
        listed = subst (Listed noting) (sym came) (noting_listed old noting cache.entries indexed.listed n key made notes new_key (cache.cap - 1));
      }

      pub pushed_indexed : IsDistinct nat_eq (keys_of cache.entries) → (l : ℕ × Entry M) → Some l ≡ displaced nat_eq cache n (entry_of key made)
          → (now : HashMap Key ℕ H) → ((q : Key) → get same_key now q ≡ cond (same_key l.1.key q) None (get same_key noting q)) → IsIndexed next now
      pushed_indexed d l out now forgets = record {
        limit = ap (λ c. c.cap) put ∙ indexed.limit;
        listed = subst (Listed now) (sym came) (pushed_listed old noting cache.entries indexed.listed n key made notes new_key now l.1.key forgets d (cache.cap - 1) l
            (pushed_out cache n (entry_of key made) (Some l) new_number out) refl);
      }

    pub refused_indexed : next ≡ cache → (now : HashMap Key ℕ H) (gone : Key) → gone ≡ key
        → ((q : Key) → get same_key now q ≡ cond (same_key gone q) None (get same_key noting q)) → IsIndexed next now
    refused_indexed same now gone is forgets = record {
      limit = ap (λ c. c.cap) same ∙ indexed.limit;
      listed = subst (Listed now) (sym (ap (λ c. c.entries) same)) (refused_listed old noting cache.entries indexed.listed n key made notes new_key now gone forgets is);
    }

  pub promoted_indexed : (test : ℕ → Bool) → next ≡ lru_cache (promoted test cache.entries) cache.cap → IsIndexed next old
  promoted_indexed test goes = record {
    limit = ap (λ c. c.cap) goes ∙ indexed.limit;
    listed = subst (Listed old) (sym (ap (λ c. c.entries) goes)) (λ e c. indexed.listed e (Contains-promoted test cache.entries e c));
  }

  -- the last one is taken out
  module _ (goes : next ≡ lru_cache (take (length cache.entries - 1) cache.entries) cache.cap) where
    pub taken_indexed : IsDistinct nat_eq (keys_of cache.entries) → (l : ℕ × Entry M) → Some l ≡ last_entry cache.entries
        → (now : HashMap Key ℕ H) → ((q : Key) → get same_key now q ≡ cond (same_key l.1.key q) None (get same_key old q)) → IsIndexed next now
    taken_indexed d l is now forgets = record {
      limit = ap (λ c. c.cap) goes ∙ indexed.limit;
      listed = subst (Listed now) (sym (ap (λ c. c.entries) goes)) (taken_listed old now cache.entries indexed.listed d (length cache.entries - 1) l (sym is) forgets);
    }

    pub empty_indexed : IsIndexed next old
    empty_indexed = record {
      limit = ap (λ c. c.cap) goes ∙ indexed.limit;
      listed = subst (Listed old) (sym (ap (λ c. c.entries) goes)) (λ e c. indexed.listed e (Contains-take (length cache.entries - 1) cache.entries e c));
    }
