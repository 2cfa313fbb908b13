-- What the numbers of a table stand for, and what its entries hold of them.
use Rattle.std.specs.Prelude.{◌≡◌, ℕ, ◌<◌, ◌≤◌, List, [], ◌∷◌, ◌++◌, cond, nat_eq, Contains}
use Rattle.prover_iface.specs.Sentences.{Sentence, sentence}
use Rattle.prover_iface.specs.Meanings.{Meanings, state_behind}
use Rattle.memo_table.specs.declared.key.Key.{Key}
use Rattle.memo_table.specs.declared.slots.Entry.{Entry}
use Rattle.memo_table.specs.declared.table.Kept.{Kept}
use Rattle.memo_table.specs.Table.{Table}

-- the sentence of a key
abbrev pub sentence_of : Key → Sentence
sentence_of key = sentence key.kind key.text

-- the sentences that a key stands for, where each number stands for some
abbrev pub behind_key : (ℕ → List Sentence) → Key → List Sentence
behind_key prefix key = prefix key.from ++ sentence_of key ∷ []

-- one number more stands for sentences
abbrev pub extended : (ℕ → List Sentence) → ℕ → List Sentence → ℕ → List Sentence
extended prefix n sentences m = cond (nat_eq n m) sentences (prefix m)

module _ {S M : Type 0} (meaning : S → M) (means : Meanings M) where
  -- what the prover makes of a sentence in a state
  pub record IsMade (before : M) (s : Sentence) (made : Kept S) : Type 0 where
    pub before_is : meaning made.before ≡ before
    pub state_is : meaning made.state ≡ means.after before s
    pub diags_is : made.diags ≡ means.diagnosed before s
    pub cost_is : made.cost ≡ means.cost before s

  -- an entry's number stands for its sentence behind those of the number that it was reached from
  pub record IsRow (prefix : ℕ → List Sentence) (given : ℕ) (e : ℕ × Entry (Kept S)) : Type 0 where
    pub some : 0 < e.0
    pub known : e.0 ≤ given
    pub earlier : e.1.key.from < e.0
    pub links : prefix e.0 ≡ behind_key prefix e.1.key
    pub value : IsMade (state_behind means (prefix e.1.key.from)) (sentence_of e.1.key) e.1.made

  -- the numbers of the table stand for these sentences
  pub record Fits (prefix : ℕ → List Sentence) (t : Table S) : Type 0 where
    pub zero : prefix 0 ≡ []
    pub root : meaning t.root ≡ means.first
    pub rows : (e : ℕ × Entry (Kept S)) → Contains t.rows e → IsRow prefix t.given e
