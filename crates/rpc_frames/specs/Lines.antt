-- The lines of a header part, each ended by CR LF.
use Rattle.std.specs.Prelude.{ℕ, Bool, not, ◌==◌, ◌&&◌, ◌||◌, List, [], ◌∷◌, ◌++◌, if◌then◌else◌}

-- bytes, line by line
pub data Lines : Type 0 where
  -- a line's text, the bytes after its end, and their lines
  Line : List ℕ → List ℕ → Lines → Lines
  -- the bytes of a line whose end hasn't come yet
  Open : List ℕ → Lines
  -- a CR or LF that is part of no line's end comes next
  Stray : Lines

-- CR or LF, which no text of a line holds
abbrev pub is_mark : ℕ → Bool
is_mark b = (b == 13) || (b == 10)

-- a byte that a line's text may hold
abbrev pub is_text : ℕ → Bool
is_text b = not (is_mark b)

-- the lines, with these bytes before the first one's
abbrev pub onto : List ℕ → Lines → Lines
onto front (Line text rest more) = Line (front ++ text) rest more
onto front (Open text) = Open (front ++ text)
onto front Stray = Stray

-- the lines of the bytes, up to the first CR or LF that is out of place
unfoldable pub lines : List ℕ → Lines
lines [] = Open []
lines (b ∷ []) = if b == 10 then Stray else Open (b ∷ [])
lines (b ∷ c ∷ bytes) =
    if is_text b then onto (b ∷ []) (lines (c ∷ bytes))
    else (if (b == 13) && (c == 10) then Line [] bytes (lines bytes) else Stray)
