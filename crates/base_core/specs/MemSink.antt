-- What a sink in memory holds.
use Rattle.std.specs.Prelude.{◌≡◌, ◌==◌, ℕ, ◌+◌, ◌-◌, ◌≤◌, ◌⊎◌, min, Bool, true, false, List, length}
use Rattle.std.specs.List.{list_any}
use Rattle.base_core.specs.declared.mem_sink.MemSink.{MemSink}
use Rattle.base_core.specs.declared.sinks.Put.{Put}
use Rattle.base_core.specs.declared.sinks.Put.TheVariants.{Took, Failed}

-- the bytes it was given
abbrev pub sink_bytes : MemSink → List ℕ
sink_bytes s = s.bytes.items

-- for how many bytes it has room in all
abbrev pub sink_room : MemSink → ℕ
sink_room s = s.room

-- how many bytes it takes at most at each call
abbrev pub sink_most : MemSink → ℕ
sink_most s = s.most

-- the calls at which it fails
abbrev pub sink_fails : MemSink → List ℕ
sink_fails s = s.fails

-- how often it was called
abbrev pub sink_calls : MemSink → ℕ
sink_calls s = s.calls

-- how often it has failed
abbrev pub sink_faults : MemSink → ℕ
sink_faults s = s.faults

-- a call is among the listed
abbrev pub is_listed : ℕ → List ℕ → Bool
is_listed call fails = list_any (λ listed. listed == call) fails

-- one call more, which leaves the limits and the list
pub record IsCalled (old new : MemSink) : Type 0 where
  pub calls : sink_calls new ≡ min (sink_calls old + 1) 4294967295
  pub room : sink_room new ≡ sink_room old
  pub most : sink_most new ≡ sink_most old
  pub fails : sink_fails new ≡ sink_fails old

-- how many of so many bytes fit
abbrev pub taken_of : MemSink → ℕ → ℕ
taken_of s offered = min (min offered (sink_room s - length (sink_bytes s))) (sink_most s)

-- what becomes of so many bytes that are offered: all that fits is taken; it fails at a listed call and
-- where the room is full
abbrev pub Puts : Put → ℕ → MemSink → MemSink → Type 0
Puts (Took n) offered old new =
    IsCalled old new × (is_listed (sink_calls new) (sink_fails old) ≡ false) × (n ≡ taken_of old offered) × (sink_faults new ≡ sink_faults old)
Puts Failed offered old new =
    IsCalled old new × ((is_listed (sink_calls new) (sink_fails old) ≡ true) ⊎ (sink_room old ≤ length (sink_bytes old)))
