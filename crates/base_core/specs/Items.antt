-- What a link gives of a list of items.
use Rattle.std.specs.Prelude.{◌≡◌, ℕ, ◌+◌, ◌-◌, ◌<◌, ◌≤◌, Bool, true, false, List, [], ◌∷◌, length, take, drop, get_or}
use Rattle.base_core.specs.declared.script_link.Item.{Item}
use Rattle.base_core.specs.declared.script_link.Item.TheVariants as item
use Rattle.base_core.specs.declared.script_link.Given.{Given}
use Rattle.base_core.specs.declared.script_link.Given.TheVariants as given
use Rattle.base_core.specs.declared.script_link.ScriptAt.{ScriptAt}
use Rattle.base_core.specs.declared.script_link.PollRecord.{PollRecord}
use Rattle.base_core.specs.Link.{Seen, Bytes, Nothing, Ended, Fault, Poll, poll}

-- what a poll sees, and the items that are then left
pub record Next : Type 0 where
  pub seen : Seen
  pub left : List Item

-- what a poll that asks for so many bytes sees of the items that are left: of the first bytes as many as it asks
-- for; one without bytes is passed over, and a poll that waits passes over a while without bytes; behind the last
-- item is the end
abbrev pub next_of : List Item → Bool → ℕ → Next
next_of [] waits asked = record { seen = Ended; left = [] }
next_of (item.Piece [] ∷ items) waits asked = next_of items waits asked
next_of (item.Piece (byte ∷ bytes) ∷ items) waits asked = record { seen = Bytes (take asked (byte ∷ bytes)); left = item.Piece (drop asked (byte ∷ bytes)) ∷ items }
next_of (item.Idle ∷ items) true asked = next_of items true asked
next_of (item.Idle ∷ items) false asked = record { seen = Nothing; left = items }
next_of (item.Fail ∷ items) waits asked = record { seen = Fault; left = items }

-- the bytes of an item
abbrev pub item_bytes : Item → List ℕ
item_bytes (item.Piece bytes) = bytes
item_bytes item.Idle = []
item_bytes item.Fail = []

-- the bytes of the item at a place
abbrev pub piece_at : List Item → ℕ → List ℕ
piece_at items at = item_bytes (get_or items at item.Idle)

-- the items without so many bytes of the first
abbrev pub without_bytes : ℕ → List Item → List Item
without_bytes used [] = []
without_bytes used (item.Piece bytes ∷ items) = item.Piece (drop used bytes) ∷ items
without_bytes used (item.Idle ∷ items) = item.Idle ∷ items
without_bytes used (item.Fail ∷ items) = item.Fail ∷ items

-- the items that are left from a place on, where so many bytes of the one there are used up
abbrev pub left_from : List Item → ℕ → ℕ → List Item
left_from items at used = without_bytes used (drop at items)

-- what was given, of these items
abbrev pub seen_of : List Item → Given → Seen
seen_of items (given.Got at from to) = Bytes (take (to - from) (drop from (piece_at items at)))
seen_of items given.Idle = Nothing
seen_of items given.Fail = Fault
seen_of items given.End = Ended

-- what was given, and the items that are left behind it
abbrev pub next_by : List Item → Given × ScriptAt → Next
next_by items g = record { seen = seen_of items g.0; left = left_from items g.1.at g.1.used }

-- a poll that was given this
abbrev pub poll_by : List Item → Bool → Given → Poll
poll_by items waits g = poll waits (seen_of items g)

-- what a poll for at most `room` bytes may be given: bytes of one item, at least one; nothing only where it
-- does not wait
abbrev pub IsGiven : List Item → Bool → ℕ → Given → Type 0
IsGiven items wait room (given.Got at from to) = (at < length items) × (from < to) × (to ≤ from + room) × (to ≤ length (piece_at items at))
IsGiven items wait room given.Idle = wait ≡ false
IsGiven items wait room given.Fail = Unit {0}
IsGiven items wait room given.End = Unit {0}

-- a poll as it is noted
abbrev pub poll_of : List Item → PollRecord → Poll
poll_of items note = poll_by items note.wait note.given
