-- Frames one after another, and in pieces.
use Rattle.std.proofs.Common.{◌≡◌, ℕ, ◌-◌, ◌<◌, ◌≤◌, zero, suc, List, [], ◌∷◌, ◌++◌, length, drop, refl, sym, ◌∙◌, ap, subst, append_assoc, append-nil, arith, length-append}
use Rattle.std.specs.List.{concat}
use Rattle.std.proofs.lemmas.List.{drop_at}
use Rattle.rpc_frames.specs.declared.faults.FrameFault.{FrameFault}
use Rattle.rpc_frames.specs.Lines.{lines}
use Rattle.rpc_frames.specs.Frames.{Front, Frame, Partial, Broken, front, Stream, Rest, Fault, ended, with_body, stream_of, frames_after, frames, with_bodies, end_goes_on, goes_on, after_pieces}
use Rattle.rpc_frames.proofs.GrowLemmas.{IsAfter, FrontGrows, front_grows}

pub front_none : front [] ≡ Partial
unfolding front lines
front_none = refl

frames_skipped : (k : ℕ) (bytes : List ℕ) → frames_after k bytes ≡ frames (drop k bytes)
unfolding frames_after
frames_skipped zero bytes = refl
frames_skipped (suc k) [] = refl
frames_skipped (suc k) (b ∷ bytes) = frames_skipped k bytes

frames_step : (b : ℕ) (bytes : List ℕ) → frames (b ∷ bytes) ≡ stream_of (front (b ∷ bytes)) (b ∷ bytes) (λ rest. frames (drop (length bytes - length rest) bytes))
unfolding frames_after
frames_step b bytes = by (front (b ∷ bytes)) where
  by : (f : Front) → stream_of f (b ∷ bytes) (λ rest. frames_after (length bytes - length rest) bytes) ≡ stream_of f (b ∷ bytes) (λ rest. frames (drop (length bytes - length rest) bytes))
  by (Frame body rest) = ap (with_body body) (frames_skipped (length bytes - length rest) bytes)
  by Partial = refl
  by (Broken fault) = refl

pub frames_none : frames [] ≡ ended (Rest [])
unfolding frames_after
frames_none = refl

-- what follows a frame is shorter than the bytes it was read from
pub after_frame : (bytes body rest : List ℕ) → front bytes ≡ Frame body rest → IsAfter bytes rest
after_frame bytes body rest e = let g = front_grows bytes [] in (subst (λ f. FrontGrows bytes f [] (front (bytes ++ []))) e g).1

after_drop : (b : ℕ) (bytes rest : List ℕ) → IsAfter (b ∷ bytes) rest → drop (length bytes - length rest) bytes ≡ rest
after_drop b bytes rest after = by after.before after.parts after.some where
  by : (before : List ℕ) → b ∷ bytes ≡ before ++ rest → 0 < length before → drop (length bytes - length rest) bytes ≡ rest
  by [] e h = absurd (omega arith)
  by (c ∷ before) e h =
      let same : bytes ≡ before ++ rest = cc in
      let size : length bytes - length rest ≡ length before = omega (arith, ap length same, length-append before rest) in
      ap (λ n. drop n bytes) size ∙ ap (drop (length before)) same ∙ drop_at before rest (length before) refl

-- a frame's body is the first of the stream, and the bytes after the frame give the others
pub frames_frame : (bytes body rest : List ℕ) → front bytes ≡ Frame body rest → frames bytes ≡ with_body body (frames rest)
frames_frame [] body rest e = absurd (never (sym front_none ∙ e)) where
  never : Partial ≡ Frame body rest → ⊥
  never h = cc
frames_frame (b ∷ bytes) body rest e =
    frames_step b bytes ∙ ap (λ f. stream_of f (b ∷ bytes) (λ r. frames (drop (length bytes - length r) bytes))) e
    ∙ ap (λ d. with_body body (frames d)) (after_drop b bytes rest (after_frame (b ∷ bytes) body rest e))

pub frames_partial : (bytes : List ℕ) → front bytes ≡ Partial → frames bytes ≡ ended (Rest bytes)
frames_partial [] e = frames_none
frames_partial (b ∷ bytes) e = frames_step b bytes ∙ ap (λ f. stream_of f (b ∷ bytes) (λ r. frames (drop (length bytes - length r) bytes))) e

pub frames_broken : (bytes : List ℕ) (fault : FrameFault) → front bytes ≡ Broken fault → frames bytes ≡ ended (Fault fault)
frames_broken [] fault e = absurd (never (sym front_none ∙ e)) where
  never : Partial ≡ Broken fault → ⊥
  never h = cc
frames_broken (b ∷ bytes) fault e = frames_step b bytes ∙ ap (λ f. stream_of f (b ∷ bytes) (λ r. frames (drop (length bytes - length r) bytes))) e

frame_more : (bytes more body rest : List ℕ) → front bytes ≡ Frame body rest → front (bytes ++ more) ≡ Frame body (rest ++ more)
frame_more bytes more body rest e = (subst (λ f. FrontGrows bytes f more (front (bytes ++ more))) e (front_grows bytes more)).0

-- a fault stays the same whatever follows
pub broken_more : (bytes more : List ℕ) (fault : FrameFault) → front bytes ≡ Broken fault → front (bytes ++ more) ≡ Broken fault
broken_more bytes more fault e = subst (λ f. FrontGrows bytes f more (front (bytes ++ more))) e (front_grows bytes more)

go_on_within : (k : ℕ) (bytes more : List ℕ) → length bytes ≤ k → frames (bytes ++ more) ≡ goes_on (frames bytes) more
go_on_within zero bytes more h = none bytes h where
  none : (bytes : List ℕ) → length bytes ≤ 0 → frames (bytes ++ more) ≡ goes_on (frames bytes) more
  none [] h = ap (λ s. goes_on s more) (sym frames_none)
  none (b ∷ bytes) h = absurd (omega arith)
go_on_within (suc k) bytes more h = by (front bytes) refl (λ rest l. go_on_within k rest more l) where
  by : (f : Front) → front bytes ≡ f → ((rest : List ℕ) → length rest ≤ k → frames (rest ++ more) ≡ goes_on (frames rest) more) → frames (bytes ++ more) ≡ goes_on (frames bytes) more
  by (Frame body rest) e go =
      let after = after_frame bytes body rest e in
      let shorter : length rest ≤ k = omega (arith, h, after.some, ap length after.parts, length-append after.before rest) in
      frames_frame (bytes ++ more) body (rest ++ more) (frame_more bytes more body rest e) ∙ ap (with_body body) (go rest shorter)
      ∙ ap (λ s. goes_on s more) (sym (frames_frame bytes body rest e))
  by Partial e go = ap (λ s. goes_on s more) (sym (frames_partial bytes e))
  by (Broken fault) e go = frames_broken (bytes ++ more) fault (broken_more bytes more fault e) ∙ ap (λ s. goes_on s more) (sym (frames_broken bytes fault e))

-- the stream of bytes that go on is what they gave, and then what the rest gives with the bytes after it
pub frames_go_on : (bytes more : List ℕ) → frames (bytes ++ more) ≡ goes_on (frames bytes) more
frames_go_on bytes more = go_on_within (length bytes) bytes more (omega arith)

-- the bodies that were given and those of the bytes still held are those of all bytes fed, also after the next piece
pub held_more : (given : List (List ℕ)) (held fed piece : List ℕ) → with_bodies given (frames held) ≡ frames fed → with_bodies given (frames (held ++ piece)) ≡ frames (fed ++ piece)
held_more given held fed piece e =
    ap (with_bodies given) (frames_go_on held piece)
    ∙ moved (frames held) ∙ ap (λ s. goes_on s piece) e ∙ sym (frames_go_on fed piece) where
      moved : (s : Stream) → with_bodies given (goes_on s piece) ≡ goes_on (with_bodies given s) piece
      moved s = ap (λ bodies. record { bodies = bodies; end = (end_goes_on s.end piece).end }) (sym (append_assoc given s.bodies (end_goes_on s.end piece).bodies))

pieces_from : (bytes : List ℕ) (pieces : List (List ℕ)) → after_pieces (frames bytes) pieces ≡ frames (bytes ++ concat pieces)
pieces_from bytes [] = ap frames (sym (append-nil bytes))
pieces_from bytes (piece ∷ pieces) =
    ap (λ s. after_pieces s pieces) (sym (frames_go_on bytes piece)) ∙ pieces_from (bytes ++ piece) pieces ∙ ap frames (append_assoc bytes piece (concat pieces))

-- however bytes are cut, the stream is that of the whole
pub frames_pieces : (pieces : List (List ℕ)) → after_pieces (frames []) pieces ≡ frames (concat pieces)
frames_pieces pieces = pieces_from [] pieces
