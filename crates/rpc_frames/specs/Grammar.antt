-- The grammar of frames, as a relation between bytes and what they spell.
use Rattle.std.specs.Prelude.{◌≡◌, ℕ, ◌+◌, ◌<◌, ◌≤◌, Bool, true, false, not, ◌==◌, ◌&&◌, Option, None, Some, Ok, Err, List, [], ◌∷◌, ◌++◌, length, map}
use Rattle.std.specs.List.{list_all, filter, flat_map, AllByRecursion}
use Rattle.rpc_frames.specs.Lines.{is_text}
use Rattle.rpc_frames.specs.declared.faults.FrameFault.{FrameFault}
use Rattle.rpc_frames.specs.declared.faults.FrameFault.TheVariants.{NoLength, BadHeader}
use Rattle.rpc_frames.specs.Fields.{is_colon, is_length_name, value_length, line_length}

-- a header line: a name and a value
pub record HeaderLine : Type 0 where
  pub name : List ℕ
  pub value : List ℕ

-- a byte that a name may hold: no CR, LF or colon
abbrev pub is_name : ℕ → Bool
is_name b = is_text b && not (is_colon b)

-- a name of at least one byte, and a value of any bytes but CR and LF
pub record IsHeaderLine (line : HeaderLine) : Type 0 where
  pub some : 0 < length line.name
  pub name : list_all is_name line.name ≡ true
  pub value : list_all is_text line.value ≡ true

abbrev pub line_text : HeaderLine → List ℕ
line_text line = line.name ++ 58 ∷ line.value

-- a name, a colon, a value, and CR LF
abbrev pub spelled : HeaderLine → List ℕ
spelled line = line_text line ++ 13 ∷ 10 ∷ []

-- the values of the lines that give a length
abbrev pub length_values : List HeaderLine → List (List ℕ)
length_values lines = map (λ line. line.value) (filter (λ line. is_length_name line.name) lines)

-- no line gives a length, or one does, and it is this
abbrev pub Tells : List HeaderLine → Option ℕ → Type 0
Tells lines None = length_values lines ≡ []
Tells lines (Some n) = (value : List ℕ) × (length_values lines ≡ value ∷ []) × (value_length value ≡ Ok n)

-- the bytes are header lines that tell this length or none
pub record AreHeaderLines (bytes : List ℕ) (told : Option ℕ) : Type 0 where
  pub lines : List HeaderLine
  pub each : AllByRecursion IsHeaderLine lines
  pub parts : bytes ≡ flat_map spelled lines
  pub tells : Tells lines told

-- the bytes begin with a frame of this body, and the rest follows it
pub record BeginsWithFrame (bytes body rest : List ℕ) : Type 0 where
  pub head : List ℕ
  pub lines : AreHeaderLines head (Some (length body))
  pub within : length head + 2 ≤ 4096
  pub parts : bytes ≡ head ++ 13 ∷ 10 ∷ (body ++ rest)

-- a line whose end hasn't come, or the end of a line that isn't empty
abbrev pub IsUnended : List ℕ → List ℕ → Type 0
IsUnended text [] = Unit {0}
IsUnended text (b ∷ []) = b ≡ 13
IsUnended text (b ∷ c ∷ []) = (b ≡ 13) × (c ≡ 10) × (0 < length text)
IsUnended text (b ∷ c ∷ d ∷ more) = ⊥

-- after header lines of this size that told a length or none, the last byte of a text and this tail shows the fault
pub data Shows (fault : FrameFault) (told : Option ℕ) (size : ℕ) (text tail : List ℕ) : Type 0 where
  -- the empty line comes, and no length was told
  Untold : fault ≡ NoLength → told ≡ None → text ≡ [] → tail ≡ 13 ∷ 10 ∷ [] → size + 2 ≤ 4096 → Shows fault told size text tail
  -- the line feed ends a line that is no header line or gives no good length
  BadLine : line_length told text ≡ Err fault → 0 < length text → tail ≡ 13 ∷ 10 ∷ [] → size + length text + 2 < 4096 → Shows fault told size text tail
  -- a line feed is out of place
  LineFeed : fault ≡ BadHeader → tail ≡ 10 ∷ [] → size + length text + 1 ≤ 4096 → Shows fault told size text tail
  -- a carriage return is, as the byte after it shows
  Return : fault ≡ BadHeader → (b : ℕ) → (b == 10) ≡ false → tail ≡ 13 ∷ b ∷ [] → size + length text + 2 ≤ 4096 → Shows fault told size text tail
  -- the 4096th byte comes in a line's text, as its CR, or as the LF of a line that isn't empty
  Overlong : fault ≡ BadHeader → size < 4096 → size + length text + length tail ≡ 4096 → IsUnended text tail → Shows fault told size text tail

-- the bytes begin with header lines and then one byte after another up to the one that shows the fault
pub record BeginsWithFault (bytes : List ℕ) (fault : FrameFault) : Type 0 where
  pub head : List ℕ
  pub told : Option ℕ
  pub text : List ℕ
  pub tail : List ℕ
  pub rest : List ℕ
  pub lines : AreHeaderLines head told
  pub all_text : list_all is_text text ≡ true
  pub parts : bytes ≡ head ++ (text ++ (tail ++ rest))
  pub shows : Shows fault told (length head) text tail
