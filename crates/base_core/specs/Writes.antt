-- Calls that write.
use Rattle.std.specs.Prelude.{◌≡◌, ℕ, ◌≤◌, Option, Result, Ok, Err, List, MatchResult}
use Rattle.std.specs.Result.{IsErrOf}
use Rattle.base_core.specs.Faults.{Rose}
use Rattle.base_core.specs.Sink.{appended, Begins}
use Rattle.base_core.specs.declared.writing.Halt.{Halt}
use Rattle.base_core.specs.declared.writing.Halt.TheVariants.{NoMem, SinkFailed}

-- where no put failed the count of faults stays
abbrev pub IsCalmWrite : {T : Type 0} → Result T Halt → ℕ → ℕ → Type 0
IsCalmWrite (Ok x) old new = new ≡ old
IsCalmWrite (Err NoMem) old new = new ≡ old
IsCalmWrite (Err SinkFailed) old new = Unit {0}

-- all of the bytes at Ok, else some of the first; and the sink is said to have failed exactly where it
-- counts a fault more
pub record Writes {D T : Type 0} (written : D → Option (List ℕ)) (faults : D → ℕ) (old new : D) (result : Result T Halt) (bytes : List ℕ) : Type 0 where
  pub told : MatchResult result (λ _. written new ≡ appended (written old) bytes) (λ _. Begins (written old) (written new) bytes)
  pub later : faults old ≤ faults new
  pub failed : IsErrOf result SinkFailed → Rose (faults old) (faults new)
  pub calm : IsCalmWrite result (faults old) (faults new)
