-- Lines end with each `\r\n`, each `\n`, and each `\r` that no `\n` follows (LSP 3.17, "Text documents").
use Rattle.std.specs.Prelude.{◌==◌, ℕ, ◌+◌, ◌||◌, ◌&&◌, Bool, false, not, List, [], ◌∷◌, if◌then◌else◌}

-- these bytes begin with a line feed
abbrev pub begins_with_feed : List ℕ → Bool
begins_with_feed [] = false
begins_with_feed (b ∷ rest) = b == 10

-- an end mark ends with this byte, by what follows it
abbrev pub ends_line : ℕ → List ℕ → Bool
ends_line b rest = b == 10 || (b == 13 && not (begins_with_feed rest))

-- the offsets at which end marks end, where the bytes begin at an offset
abbrev pub line_ends : ℕ → List ℕ → List ℕ
line_ends at [] = []
line_ends at (b ∷ rest) = if ends_line b rest then (at + 1) ∷ line_ends (at + 1) rest else line_ends (at + 1) rest

-- the byte belongs to an end mark
abbrev pub is_line_break : ℕ → Bool
is_line_break b = b == 10 || b == 13

-- the line with which these bytes begin, its end mark excluded
abbrev pub content : List ℕ → List ℕ
content [] = []
content (b ∷ rest) = if is_line_break b then [] else b ∷ content rest
