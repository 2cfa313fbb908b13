-- Members of a message: each is there and well typed, or there is none.
use Rattle.std.specs.Prelude.{ℕ, ℤ, pos, negsuc, ◌&&◌, int_le, nat_le, if◌then◌else◌, List, codes, Option, None, Some, option_and_then}
use Rattle.serde_json.specs.Data.{Data}
use Rattle.serde_json.specs.Find.{get, as_str, as_number, as_i64, as_u64}
use Rattle.base_core.specs.declared.places.Position.{Position}
use Rattle.base_core.specs.declared.places.Range.{Range}

-- a number in the range of LSP's integers (LSP 3.17, "Base Types")
abbrev pub as_integer : ℤ → Option ℤ
as_integer z = if int_le (negsuc 2147483647) z && int_le z (pos 2147483647) then Some z else None

-- a number in the range of LSP's unsigned integers
abbrev pub as_uinteger : ℕ → Option ℕ
as_uinteger n = if nat_le n 2147483647 then Some n else None

-- the value is an integer: a number with a point or an exponent is none, and neither is `-0`
abbrev pub integer_of : Data → Option ℤ
integer_of d = option_and_then as_integer (option_and_then as_i64 (as_number d))

-- the same of an unsigned integer
abbrev pub uinteger_of : Data → Option ℕ
uinteger_of d = option_and_then as_uinteger (option_and_then as_u64 (as_number d))

-- the text that is a member of an object by this name
abbrev pub text_at : List ℕ → Data → Option (List ℕ)
text_at name d = option_and_then as_str (get name d)

-- the integer, in the same way
abbrev pub integer_at : List ℕ → Data → Option ℤ
integer_at name d = option_and_then integer_of (get name d)

-- the unsigned integer
abbrev pub uinteger_at : List ℕ → Data → Option ℕ
uinteger_at name d = option_and_then uinteger_of (get name d)

-- a position of these two numbers
abbrev pub position_from : Option ℕ → Option ℕ → Option Position
position_from (Some line) (Some character) = Some (record { line = line; character = character })
position_from _ _ = None

-- a position is an object with a line and a character
abbrev pub position_of : Data → Option Position
position_of d = position_from (uinteger_at (codes "line") d) (uinteger_at (codes "character") d)

-- the position that is a member
abbrev pub position_at : List ℕ → Data → Option Position
position_at name d = option_and_then position_of (get name d)

-- a range from one position to another
abbrev pub range_from : Option Position → Option Position → Option Range
range_from (Some first) (Some last) = Some (record { from_pos = first; to_pos = last })
range_from _ _ = None

-- a range is an object with a start and an end
abbrev pub range_of : Data → Option Range
range_of d = range_from (position_at (codes "start") d) (position_at (codes "end") d)

-- a member of a message's `params`; there is none where these are missing or no object
abbrev pub param : List ℕ → Data → Option Data
param name message = option_and_then (get name) (get (codes "params") message)

-- a text of the document that a message speaks of
abbrev pub document_text : List ℕ → Data → Option (List ℕ)
document_text name message = option_and_then (text_at name) (param (codes "textDocument") message)

-- the version of that document
abbrev pub document_version : Data → Option ℤ
document_version message = option_and_then (integer_at (codes "version")) (param (codes "textDocument") message)
