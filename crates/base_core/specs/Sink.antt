-- What a sink was given, where it tells.
use Rattle.std.specs.Prelude.{◌≡◌, ℕ, ◌<◌, ◌≤◌, Option, None, Some, List, ◌++◌, length, take}
use Rattle.base_core.specs.declared.sinks.Put.{Put}
use Rattle.base_core.specs.declared.sinks.Put.TheVariants.{Took, Failed}

-- a told list, and then these
abbrev pub appended : {A : Type 0} → Option (List A) → List A → Option (List A)
appended None more = None
appended (Some told) more = Some (told ++ more)

-- of a piece some first bytes were taken, at least one; or the sink failed and took none
abbrev pub TakesFrom : Put → List ℕ → Option (List ℕ) → Option (List ℕ) → Type 0
TakesFrom (Took n) piece old new = (0 < n) × (n ≤ length piece) × (new ≡ appended old (take n piece))
TakesFrom Failed piece old new = new ≡ old

-- what was written is some first part of the bytes
pub record Begins (old new : Option (List ℕ)) (bytes : List ℕ) : Type 0 where
  pub begun : List ℕ
  pub left : List ℕ
  pub parts : bytes ≡ begun ++ left
  pub grown : new ≡ appended old begun

-- where none failed the count of faults stays
abbrev pub IsCalmPut : Put → ℕ → ℕ → Type 0
IsCalmPut (Took n) old new = new ≡ old
IsCalmPut Failed old new = Unit {0}
