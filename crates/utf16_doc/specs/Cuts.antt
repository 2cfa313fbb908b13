-- A text cut into lines, each its content and the mark that ends it, and the offset of a position in them.
use Rattle.std.specs.Prelude.{◌≡◌, ℕ, zero, suc, ◌+◌, ◌<◌, ◌≤◌, ◌⊎◌, List, [], ◌∷◌, ◌++◌, false, length, take, sum_by}
use Rattle.std.specs.Str.{IsCharBoundary}
use Rattle.base_core.specs.declared.places.Position.{Position}
use Rattle.utf16_doc.specs.declared.encoding.Encoding.{Encoding}
use Rattle.utf16_doc.specs.Lines.{begins_with_feed, is_line_break}
use Rattle.utf16_doc.specs.Units.{units_of}
use Rattle.utf16_doc.specs.Positions.{run_length, offset_at}

-- the last line has no end mark
pub data Cut : Type 0 where
  Last : (content : List ℕ) → Cut
  Line : (content mark : List ℕ) (others : Cut) → Cut

abbrev pub text_of : Cut → List ℕ
text_of (Last content) = content
text_of (Line content mark others) = content ++ (mark ++ text_of others)

-- no byte of an end mark
abbrev pub HasNoBreak : List ℕ → Type 0
HasNoBreak [] = Unit {0}
HasNoBreak (b ∷ rest) = (is_line_break b ≡ false) × HasNoBreak rest

-- `\r\n`, `\n`, or a `\r` that no `\n` follows
abbrev pub IsEndMark : List ℕ → List ℕ → Type 0
IsEndMark mark after = (mark ≡ 13 ∷ 10 ∷ []) ⊎ ((mark ≡ 10 ∷ []) ⊎ ((mark ≡ 13 ∷ []) × (begins_with_feed after ≡ false)))

abbrev pub AreLines : Cut → Type 0
AreLines (Last content) = HasNoBreak content
AreLines (Line content mark others) = HasNoBreak content × IsEndMark mark (text_of others) × AreLines others

-- behind a run in its line, or the text's end where there is no such line
abbrev pub offset_by : Encoding → Cut → ℕ → ℕ → ℕ
offset_by encoding (Last content) zero character = run_length encoding character content
offset_by encoding (Last content) (suc line) character = length content
offset_by encoding (Line content mark others) zero character = run_length encoding character content
offset_by encoding (Line content mark others) (suc line) character = length content + (length mark + offset_by encoding others line character)

-- so many bytes have at most so many units, and more bytes have more
pub record IsRun (encoding : Encoding) (most : ℕ) (content : List ℕ) (n : ℕ) : Type 0 where
  pub within : n ≤ length content
  pub fits : sum_by (units_of encoding) (take n content) ≤ most
  pub longest : (m : ℕ) → n < m → m ≤ length content → most < sum_by (units_of encoding) (take m content)

abbrev pub OffsetsByLines : Type 0
OffsetsByLines =
    (encoding : Encoding) (cut : Cut) (at : Position) → AreLines cut
    → offset_at encoding (text_of cut) at ≡ offset_by encoding cut at.line at.character

abbrev pub RunsAreLongest : Type 0
RunsAreLongest = (encoding : Encoding) (most : ℕ) (content : List ℕ) → IsRun encoding most content (run_length encoding most content)

abbrev pub RunsEndCharacters : Type 0
RunsEndCharacters = (encoding : Encoding) (most : ℕ) (content : List ℕ) → IsCharBoundary content (run_length encoding most content)
