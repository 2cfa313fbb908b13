-- How the numbers by key stand to the entries by number.
use Rattle.std.specs.Prelude.{◌≡◌, ℕ, Some, Contains}
use Rattle.std.specs.HashMap.{HashMap, get}
use Rattle.lru.specs.LruCache.{LruCache}
use Rattle.memo_table.specs.declared.key.Key.{Key}
use Rattle.memo_table.specs.declared.slots.Entry.{Entry}
use Rattle.base_core.specs.declared.limits.TheConstants.{TABLE_LIMIT}
use Rattle.memo_table.specs.Entries.{same_key}

-- each entry is found by its key
pub record IsIndexed {M H : Type 0} (cache : LruCache ℕ (Entry M)) (numbers : HashMap Key ℕ H) : Type 0 where
  pub limit : cache.cap ≡ TABLE_LIMIT
  pub listed : (e : ℕ × Entry M) → Contains cache.entries e → get same_key numbers e.1.key ≡ Some e.0
