-- Positions: a line, and units from its start (LSP 3.17, "Position").
use Rattle.std.specs.Prelude.{ℕ, ◌+◌, ◌-◌, ◌==◌, ◌||◌, ◌∷◌, [], suc, nat_le, nat_lt, List, length, drop, sum_by, count_by, slice_index, slice_range, if◌then◌else◌}
use Rattle.base_core.specs.declared.places.Position.{Position}
use Rattle.utf16_doc.specs.declared.encoding.Encoding.{Encoding}
use Rattle.utf16_doc.specs.Lines.{line_ends, content}
use Rattle.utf16_doc.specs.Units.{units_of}

-- the line of an offset: how many end marks end at or before it
abbrev pub line_at : List ℕ → ℕ → ℕ
line_at text offset = count_by (λ end. nat_le end offset) (line_ends 0 text)

-- where a line starts: the first at 0, each other at the end of an end mark
abbrev pub line_start : List ℕ → ℕ → ℕ
line_start text line = slice_index (0 ∷ line_ends 0 text) line

-- the position of an offset
abbrev pub position_at : Encoding → List ℕ → ℕ → Position
position_at encoding text offset = record {
  line = line_at text offset;
  character = sum_by (units_of encoding) (slice_range text (line_start text (line_at text offset)) offset);
}

-- how many bytes there are in the longest run of whole characters from the first on that has at most so many units
abbrev pub run_length : Encoding → ℕ → List ℕ → ℕ
run_length encoding most [] = 0
run_length encoding most (b ∷ rest) = if nat_le (units_of encoding b) most then suc (run_length encoding (most - units_of encoding b) rest) else 0

-- the offset of a position: the text's end where there is no such line, and else behind the longest run of whole
-- characters of the line that has at most so many units
abbrev pub offset_at : Encoding → List ℕ → Position → ℕ
offset_at encoding text at =
    if nat_lt (length (line_ends 0 text)) at.line then length text
    else line_start text at.line + run_length encoding at.character (content (drop (line_start text at.line) text))
