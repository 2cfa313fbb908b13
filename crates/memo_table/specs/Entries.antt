-- Entries in order, the most recently used first. Each is a number, and what stands for it.
use Rattle.std.specs.Prelude.{◌≡◌, ℕ, ◌-◌, ◌==◌, Bool, ◌&&◌, Option, Some, None, List, [], ◌∷◌, ◌++◌, take, map, filter, nat_eq, option_map, cond, bytes_eq}
use Rattle.std.specs.Option.{option_map_or}
use Rattle.std.specs.List.{list_any}
use Rattle.std.specs.Map.{lookup}
use Rattle.base_core.specs.contracts.kind.KindPartialEq.TheImpl as kinds
use Rattle.lru.specs.LruCache.{promoted}
use Rattle.memo_table.specs.declared.key.Key.{Key}
use Rattle.memo_table.specs.declared.slots.Entry.{Entry}

-- whether two keys are the same
abbrev pub same_key : Key → Key → Bool
same_key k e = (k.from == e.from) && (kinds.ghosts.eq k.kind e.kind && bytes_eq k.text e.text)

module _ {M : Type 0} where
  abbrev pub entry_of : Key → M → Entry M
  entry_of key made = record { key = key; made = made }

  -- the number of the first entry with the key
  abbrev pub number_of : Key → List (ℕ × Entry M) → Option ℕ
  number_of key [] = None
  number_of key (e ∷ es) = cond (same_key key e.1.key) (Some e.0) (number_of key es)

  -- what the entry of the number holds
  abbrev pub made_of : ℕ → List (ℕ × Entry M) → Option M
  made_of number es = option_map (λ e. e.made) (lookup (nat_eq number) es)

  -- the entry that the key finds goes first
  abbrev pub touched : Key → List (ℕ × Entry M) → List (ℕ × Entry M)
  touched key es = option_map_or (λ number. promoted (nat_eq number) es) (number_of key es) es

  -- the new entry goes first, and where there are too many the last is dropped
  abbrev pub entered : ℕ → ℕ × Entry M → List (ℕ × Entry M) → List (ℕ × Entry M)
  entered limit e es = e ∷ take (limit - 1) es

  -- the entries whose number is in the list
  abbrev pub trimmed : List ℕ → List (ℕ × Entry M) → List (ℕ × Entry M)
  trimmed hold es = filter (λ e. list_any (nat_eq e.0) hold) es

  -- the entries without what came of them
  abbrev pub plain : ℕ × Entry M → ℕ × Entry (Unit {0})
  plain e = (e.0, record { key = e.1.key; made = tt })

  abbrev pub plain_entries : List (ℕ × Entry M) → List (ℕ × Entry (Unit {0}))
  plain_entries es = map plain es

  -- a turn: the last entry goes first where its number is in the list, and else it is dropped
  abbrev pub IsTurn : List ℕ → List (ℕ × Entry M) → List (ℕ × Entry M) → Type 0
  IsTurn hold before after =
      (es : List (ℕ × Entry M)) (e : ℕ × Entry M) → before ≡ es ++ e ∷ [] → after ≡ cond (list_any (nat_eq e.0) hold) (e ∷ es) es
