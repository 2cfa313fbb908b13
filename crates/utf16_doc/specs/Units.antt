-- Units: what the characters of a line are counted in, by the bytes of UTF-8 (LSP 3.17, "PositionEncodingKind").
use Rattle.std.specs.Prelude.{◌≡◌, ℕ, ◌+◌, ◌*◌, ◌/◌, ◌<◌, nat_lt, List, length, take, sum_by, slice_index, if◌then◌else◌}
use Rattle.utf16_doc.specs.declared.encoding.Encoding.{Encoding}
use Rattle.utf16_doc.specs.declared.encoding.Encoding.TheVariants.{Utf8, Utf16}

-- the units of a character, counted at its first byte, so that a byte behind the first counts none
abbrev pub units_of : Encoding → ℕ → ℕ
-- its bytes
units_of Utf8 b = if nat_lt b 128 then 1 else if nat_lt b 192 then 0 else if nat_lt b 224 then 2 else if nat_lt b 240 then 3 else 4
-- two for a character of four bytes, and one for each other
units_of Utf16 b = if nat_lt b 128 then 1 else if nat_lt b 192 then 0 else if nat_lt b 240 then 1 else 2

-- the units of the characters that begin before an offset
abbrev pub units_before : Encoding → List ℕ → ℕ → ℕ
units_before encoding text offset = sum_by (units_of encoding) (take offset text)

-- a number for each block of 256 bytes, and one for the rest: the units before it
pub record AreCheckpoints (encoding : Encoding) (text checkpoints : List ℕ) : Type 0 where
  pub count : length checkpoints ≡ length text / 256 + 1
  pub units : (k : ℕ) → k < length checkpoints → slice_index checkpoints k ≡ units_before encoding text (k * 256)
