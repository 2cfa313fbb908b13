-- Header lines, and the length that one of them gives.
use Rattle.std.specs.Prelude.{ℕ, ◌+◌, ◌*◌, ◌-◌, Bool, ◌==◌, nat_le, Option, None, Some, Result, Ok, Err, List, [], ◌∷◌, take, drop, map, codes, if◌then◌else◌}
use Rattle.std.specs.Char.{is_ascii_digit, to_ascii_lowercase}
use Rattle.std.specs.List.{prefix_len, position, list_all}
use Rattle.std.specs.Str.{bytes_eq}
use Rattle.rpc_frames.specs.declared.faults.FrameFault.{FrameFault}
use Rattle.rpc_frames.specs.declared.faults.FrameFault.TheVariants.{BadHeader, TooLong}

abbrev pub is_space : ℕ → Bool
is_space b = b == 32

abbrev pub is_colon : ℕ → Bool
is_colon b = b == 58

-- the number that decimal digits spell, after those of n
abbrev pub number_after : ℕ → List ℕ → ℕ
number_after n [] = n
number_after n (digit ∷ digits) = number_after (10 * n + (digit - 48)) digits

-- the length that digits spell, where there are some and nothing but spaces follows them
abbrev pub digits_length : List ℕ → List ℕ → Result ℕ FrameFault
digits_length [] tail = Err BadHeader
digits_length (digit ∷ digits) tail =
    let number = number_after 0 (digit ∷ digits) in
    if list_all is_space tail then (if nat_le number 4194304 then Ok number else Err TooLong) else Err BadHeader

-- digits at the front, and what follows them
abbrev pub trimmed_length : List ℕ → Result ℕ FrameFault
trimmed_length value = let count = prefix_len is_ascii_digit value in digits_length (take count value) (drop count value)

-- the length that a value gives: digits, with spaces before and after, for at most 4,194,304
abbrev pub value_length : List ℕ → Result ℕ FrameFault
value_length value = trimmed_length (drop (prefix_len is_space value) value)

-- a name is compared without regard to case
abbrev pub is_length_name : List ℕ → Bool
is_length_name name = bytes_eq (map to_ascii_lowercase name) (map to_ascii_lowercase (codes "content-length"))

-- a length is given once
abbrev pub told_once : Option ℕ → Result ℕ FrameFault → Result (Option ℕ) FrameFault
told_once (Some earlier) given = Err BadHeader
told_once None (Ok n) = Ok (Some n)
told_once None (Err fault) = Err fault

-- the length known after a header line with a name and a value, from the length known before it
abbrev pub field_length : Option ℕ → List ℕ → List ℕ → Result (Option ℕ) FrameFault
field_length told [] value = Err BadHeader
field_length told (b ∷ name) value = if is_length_name (b ∷ name) then told_once told (value_length value) else Ok told

-- the same where the name ends at this place
abbrev pub field_at : Option ℕ → List ℕ → Option ℕ → Result (Option ℕ) FrameFault
field_at told text None = Err BadHeader
field_at told text (Some at) = field_length told (take at text) (drop (at + 1) text)

-- the same of a header line's text, whose name ends at the first colon
abbrev pub line_length : Option ℕ → List ℕ → Result (Option ℕ) FrameFault
line_length told text = field_at told text (position is_colon text)
