-- What a link in memory gives.
use Rattle.std.specs.Prelude.{◌≡◌, ℕ, ◌+◌, ◌-◌, ◌^◌, ◌<◌, ◌≤◌, min, Bool, List, [], ◌∷◌, ◌++◌, length, map}
use Rattle.base_core.specs.declared.link.Taken.{Taken}
use Rattle.base_core.specs.declared.link.Taken.TheVariants as taken
use Rattle.base_core.specs.declared.script_link.Item.{Item}
use Rattle.base_core.specs.declared.script_link.ScriptLink.{ScriptLink}
use Rattle.base_core.specs.Link.{Seen, Bytes, Nothing, Ended, Fault, Poll, poll}
use Rattle.base_core.specs.Items.{next_of, left_from, poll_of}

-- the items in order
abbrev pub link_items : ScriptLink → List Item
link_items s = s.items

-- the items that are left
abbrev pub link_left : ScriptLink → List Item
link_left s = left_from s.items s.place.at s.place.used

-- the polls so far
abbrev pub link_polls : ScriptLink → List Poll
link_polls s = map (poll_of s.items) s.notes.items

-- for how many polls it has room in all
abbrev pub link_room : ScriptLink → ℕ
link_room s = s.room

-- how often it has failed
abbrev pub link_faults : ScriptLink → ℕ
link_faults s = s.faults

-- the answer of a poll that saw this
abbrev pub answer_of : Seen → Taken
answer_of (Bytes bytes) = taken.Got (length bytes)
answer_of Nothing = taken.Idle
answer_of Ended = taken.End
answer_of Fault = taken.Failed

-- one failure more, up to the end of the count's type
abbrev pub one_more : ℕ → ℕ
one_more faults = min (faults + 1) (2 ^ 64 - 1)

-- the failures behind a poll that saw this
abbrev pub faults_after : Seen → ℕ → ℕ
faults_after (Bytes bytes) faults = faults
faults_after Nothing faults = faults
faults_after Ended faults = faults
faults_after Fault faults = one_more faults

-- a poll gives what is next, and is noted
pub record Gives (waits : Bool) (asked : ℕ) (answer : Taken) (old new : ScriptLink) : Type 0 where
  pub answers : answer ≡ answer_of (next_of (link_left old) waits asked).seen
  pub left : link_left new ≡ (next_of (link_left old) waits asked).left
  pub polls : link_polls new ≡ link_polls old ++ poll waits (next_of (link_left old) waits asked).seen ∷ []
  pub faults : link_faults new ≡ faults_after (next_of (link_left old) waits asked).seen (link_faults old)

-- a poll that can't be noted fails, and gives nothing
pub record Refuses (answer : Taken) (old new : ScriptLink) : Type 0 where
  pub answers : answer ≡ taken.Failed
  pub left : link_left new ≡ link_left old
  pub polls : link_polls new ≡ link_polls old
  pub faults : link_faults new ≡ one_more (link_faults old)

-- a poll: it gives what is next while there is room to note it
pub record Polls (waits : Bool) (asked : ℕ) (answer : Taken) (old new : ScriptLink) : Type 0 where
  pub room : link_room new ≡ link_room old
  pub given : length (link_polls old) < link_room old → Gives waits asked answer old new
  pub full : link_room old ≤ length (link_polls old) → Refuses answer old new
