-- What a contract sees of the table.
use Rattle.std.specs.Prelude.{ℕ, ◌+◌, ◌<◌, ◌≤◌, List, Contains}
use Rattle.memo_table.specs.declared.key.Key.{Key}
use Rattle.memo_table.specs.declared.slots.Entry.{Entry}
use Rattle.base_core.specs.declared.limits.TheConstants.{TABLE_LIMIT}
use Rattle.memo_table.specs.declared.table.Kept.{Kept}
use Rattle.memo_table.specs.Entries.{entry_of, entered}

-- the first state, how many numbers were given, and the entries, the most recently used first
pub record Table (S : Type 0) : Type 0 where
  pub root : S
  pub given : ℕ
  pub rows : List (ℕ × Entry (Kept S))

module _ {S : Type 0} where
  abbrev pub table : S → ℕ → List (ℕ × Entry (Kept S)) → Table S
  table root given rows = record { root = root; given = given; rows = rows }

  abbrev pub with_rows : Table S → List (ℕ × Entry (Kept S)) → Table S
  with_rows t rows = table t.root t.given rows

  -- with an entry of the next number, which goes first
  abbrev pub with_kept : Table S → Key → Kept S → Table S
  with_kept t key made = table t.root (t.given + 1) (entered TABLE_LIMIT (t.given + 1, entry_of key made) t.rows)

  -- each number was given
  pub record IsCounted (given : ℕ) (rows : List (ℕ × Entry (Kept S))) : Type 0 where
    pub some : (e : ℕ × Entry (Kept S)) → Contains rows e → 0 < e.0
    pub most : (e : ℕ × Entry (Kept S)) → Contains rows e → e.0 ≤ given
