-- The frames of a stream of bytes: header lines, an empty line, and a body of the told length.
use Rattle.std.specs.Prelude.{ℕ, ◌+◌, ◌-◌, zero, suc, nat_le, nat_lt, Option, None, Some, Result, Ok, Err, List, [], ◌∷◌, ◌++◌, length, take, drop, codes, if◌then◌else◌}
use Rattle.std.specs.Fmt.{decimal}
use Rattle.rpc_frames.specs.declared.faults.FrameFault.{FrameFault}
use Rattle.rpc_frames.specs.declared.faults.FrameFault.TheVariants.{NoLength, BadHeader}
use Rattle.rpc_frames.specs.Lines.{Lines, Line, Open, Stray, lines}
use Rattle.rpc_frames.specs.Fields.{line_length}

-- a header part: whole, with its length and the bytes after it; less than one; or a fault
pub data Header : Type 0 where
  Whole : ℕ → List ℕ → Header
  Short : Header
  Faulty : FrameFault → Header

-- an empty line ends the header part, which has told a length
abbrev pub ended_header : Option ℕ → List ℕ → Header
ended_header None rest = Faulty NoLength
ended_header (Some told) rest = Whole told rest

-- what follows a header line, unless it shows a fault
abbrev pub after_line : Result (Option ℕ) FrameFault → (Option ℕ → Header) → Header
after_line (Ok told) rest = rest told
after_line (Err fault) rest = Faulty fault

-- the header part whose first `taken` bytes told this length or none, and that goes on with these lines;
-- its empty line ends within 4096 bytes
abbrev pub header_of : ℕ → Option ℕ → Lines → Header
header_of taken told (Line [] rest more) = if nat_le (taken + 2) 4096 then ended_header told rest else Faulty BadHeader
header_of taken told (Line (b ∷ text) rest more) =
    let next = taken + length (b ∷ text) + 2 in
    if nat_lt next 4096 then after_line (line_length told (b ∷ text)) (λ known. header_of next known more) else Faulty BadHeader
header_of taken told (Open text) = if nat_lt (taken + length text) 4096 then Short else Faulty BadHeader
header_of taken told Stray = Faulty BadHeader

-- the header part at the front of the bytes
abbrev pub header : List ℕ → Header
header bytes = header_of 0 None (lines bytes)

-- the front of the bytes: a frame's body, and the bytes after the frame; less than a frame; or a fault
pub data Front : Type 0 where
  Frame : List ℕ → List ℕ → Front
  Partial : Front
  Broken : FrameFault → Front

-- the body is the told number of bytes after the header part
abbrev pub front_of : Header → Front
front_of (Whole told rest) = if nat_le told (length rest) then Frame (take told rest) (drop told rest) else Partial
front_of Short = Partial
front_of (Faulty fault) = Broken fault

unfoldable pub front : List ℕ → Front
front bytes = front_of (header bytes)

-- how a stream ends: in less than a frame, or in a fault
pub data End : Type 0 where
  Rest : List ℕ → End
  Fault : FrameFault → End

-- the bodies of a stream, and its end
pub record Stream : Type 0 where
  pub bodies : List (List ℕ)
  pub end : End

abbrev pub ended : End → Stream
ended end = record { bodies = []; end = end }

-- a body, and then the rest of the stream
abbrev pub with_body : List ℕ → Stream → Stream
with_body body stream = record { bodies = body ∷ stream.bodies; end = stream.end }

-- the stream that these bytes with this front are, where `rest` gives that of the bytes after a frame
abbrev pub stream_of : Front → List ℕ → (List ℕ → Stream) → Stream
stream_of (Frame body bytes) all rest = with_body body (rest bytes)
stream_of Partial all rest = ended (Rest all)
stream_of (Broken fault) all rest = ended (Fault fault)

-- the frames of the bytes, of which the first `skip` belong to a frame before
unfoldable pub frames_after : ℕ → List ℕ → Stream
frames_after skip [] = ended (Rest [])
frames_after zero (b ∷ bytes) = stream_of (front (b ∷ bytes)) (b ∷ bytes) (λ rest. frames_after (length bytes - length rest) bytes)
frames_after (suc skip) (b ∷ bytes) = frames_after skip bytes

-- the frames of the bytes
abbrev pub frames : List ℕ → Stream
frames bytes = frames_after 0 bytes

-- the bodies of a stream, and then those of another
abbrev pub with_bodies : List (List ℕ) → Stream → Stream
with_bodies bodies stream = record { bodies = bodies ++ stream.bodies; end = stream.end }

-- a stream that ended so, and goes on with more bytes
abbrev pub end_goes_on : End → List ℕ → Stream
end_goes_on (Rest bytes) more = frames (bytes ++ more)
end_goes_on (Fault fault) more = ended (Fault fault)

abbrev pub goes_on : Stream → List ℕ → Stream
goes_on stream more = with_bodies stream.bodies (end_goes_on stream.end more)

-- the stream after each piece in turn
abbrev pub after_pieces : Stream → List (List ℕ) → Stream
after_pieces stream [] = stream
after_pieces stream (piece ∷ pieces) = after_pieces (goes_on stream piece) pieces

-- the one spelling of a frame
abbrev pub framed : List ℕ → List ℕ
framed body = codes "Content-Length: " ++ decimal (length body) ++ (13 ∷ 10 ∷ 13 ∷ 10 ∷ []) ++ body
