-- What a link gave, where it tells.
use Rattle.std.specs.Prelude.{◌≡◌, ℕ, ◌<◌, ◌≤◌, ◌⊎◌, Bool, false, Option, None, Some, List, [], ◌∷◌, ◌++◌, length, take}
use Rattle.base_core.specs.Sink.{appended}
use Rattle.base_core.specs.declared.link.Taken.{Taken}
use Rattle.base_core.specs.declared.link.Taken.TheVariants.{Got, Idle, End, Failed}

-- what a poll saw: bytes, nothing yet, the end, or a failure
pub data Seen : Type 0 where
  Bytes : List ℕ → Seen
  Nothing : Seen
  Ended : Seen
  Fault : Seen

-- one poll: whether it might wait, and what it saw
pub record Poll : Type 0 where
  pub waits : Bool
  pub seen : Seen

abbrev pub poll : Bool → Seen → Poll
poll waits seen = record { waits = waits; seen = seen }

-- the told polls, and then this one
abbrev pub polled : Option (List Poll) → Poll → Option (List Poll)
polled told one = appended told (one ∷ [])

-- an answer with what the buffer then holds: at least one byte and no more than fit; nothing yet, only
-- where the poll might not wait; the end. Each is told; a failure may be missing
abbrev pub TakenFrom : Taken → Bool → List ℕ → Option (List Poll) → Option (List Poll) → Type 0
TakenFrom (Got n) waits buffer old new = (0 < n) × (n ≤ length buffer) × (new ≡ polled old (poll waits (Bytes (take n buffer))))
TakenFrom Idle waits buffer old new = (waits ≡ false) × (new ≡ polled old (poll waits Nothing))
TakenFrom End waits buffer old new = new ≡ polled old (poll waits Ended)
TakenFrom Failed waits buffer old new = (new ≡ old) ⊎ (new ≡ polled old (poll waits Fault))

-- where none failed the count of faults stays
abbrev pub IsCalmPoll : Taken → ℕ → ℕ → Type 0
IsCalmPoll (Got n) old new = new ≡ old
IsCalmPoll Idle old new = new ≡ old
IsCalmPoll End old new = new ≡ old
IsCalmPoll Failed old new = Unit {0}
