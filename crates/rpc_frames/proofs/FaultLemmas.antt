-- Faults at the front of the bytes, and the bytes that show them.
use Rattle.std.proofs.Common.{◌≡◌, ℕ, ◌+◌, ◌-◌, ◌<◌, ◌≤◌, ◌==◌, ◌&&◌, ◌⊎◌, nat_lt, nat_le, Bool, true, false, cond, Option, Some, None, Result, Ok, Err, List, [], ◌∷◌, ◌++◌, length, take, drop, inl, inr, refl, sym, ◌∙◌, ap, subst, append_assoc, append-nil, arith, length-append}
use Rattle.std.specs.List.{list_all, flat_map}
use Rattle.std.proofs.lemmas.Bool.{and_parts, and_from, and_right, cases_Bool, cases_lt, lt-ltb, le-ltb, le-leb, ltb-true, ltb-false, leb-true, leb-false, eqb-true, not-false, or_cases}
use Rattle.std.proofs.lemmas.List.{take-append-drop, length-take-le}
use Rattle.std.proofs.lemmas.List.Folds.{list_all-append}
use Rattle.rpc_frames.specs.declared.faults.FrameFault.{FrameFault}
use Rattle.rpc_frames.specs.declared.faults.FrameFault.TheVariants.{BadHeader, NoLength}
use Rattle.rpc_frames.specs.Lines.{Lines, Line, Open, Stray, is_text, onto, lines}
use Rattle.rpc_frames.specs.Fields.{line_length}
use Rattle.rpc_frames.specs.Frames.{Header, Whole, Short, Faulty, ended_header, after_line, header_of, header, Frame, Partial, Broken, front_of, front}
use Rattle.rpc_frames.specs.Grammar.{IsUnended, Shows, Untold, BadLine, LineFeed, Return, Overlong, BeginsWithFault, HeaderLine, Tells, spelled}
use Rattle.rpc_frames.proofs.LineLemmas.{lines_cons, lines_marked, lines_single, lines_none, lines_text}
use Rattle.rpc_frames.proofs.GrowLemmas.{Reaches, reaches_none, reaches_one, lf_stray, header_full}
use Rattle.rpc_frames.proofs.StageLemmas.{front_faulty}
use Rattle.rpc_frames.proofs.GrammarLemmas.{Cut, lines_cut, Stops, parsed, lines_read, line_end, TellsOn}

reaches_text : (text : List ℕ) (n : ℕ) (ls : Lines) → Reaches n ls → Reaches (length text + n) (onto text ls)
reaches_text text n (Line t rest later) h = omega (arith, length-append text t)
reaches_text text n (Open t) h = omega (arith, length-append text t)
reaches_text text n Stray h = tt

-- what shows a fault gives it
stray_read : (told : Option ℕ) (size : ℕ) (text more : List ℕ) → list_all is_text text ≡ true → lines more ≡ Stray → header_of size told (lines (text ++ more)) ≡ Faulty BadHeader
stray_read told size text more all e = ap (header_of size told) (lines_text text more all ∙ ap (onto text) e)

ended_read : (told : Option ℕ) (size : ℕ) (text rest : List ℕ) → list_all is_text text ≡ true → header_of size told (lines (text ++ 13 ∷ 10 ∷ rest)) ≡ header_of size told (Line text rest (lines rest))
ended_read told size text rest all = ap (header_of size told) (lines_text text (13 ∷ 10 ∷ rest) all ∙ ap (onto text) (line_end rest) ∙ ap (λ t. Line t rest (lines rest)) (append-nil text))

bad_line : (told : Option ℕ) (size : ℕ) (text rest : List ℕ) (fault : FrameFault) → 0 < length text → line_length told text ≡ Err fault → size + length text + 2 < 4096 → header_of size told (Line text rest (lines rest)) ≡ Faulty fault
bad_line told size [] rest fault some e h = absurd (omega arith)
bad_line told size (b ∷ text) rest fault some e h =
    ap (λ t. cond t (after_line (line_length told (b ∷ text)) (λ k. header_of (size + length (b ∷ text) + 2) k (lines rest))) (Faulty BadHeader)) (lt-ltb (size + length (b ∷ text) + 2) 4096 h)
    ∙ ap (λ r. after_line r (λ k. header_of (size + length (b ∷ text) + 2) k (lines rest))) e

long_line : (told : Option ℕ) (size : ℕ) (text rest : List ℕ) → 0 < length text → 4096 ≤ size + length text + 2 → header_of size told (Line text rest (lines rest)) ≡ Faulty BadHeader
long_line told size [] rest some h = absurd (omega arith)
long_line told size (b ∷ text) rest some h =
    ap (λ t. cond t (after_line (line_length told (b ∷ text)) (λ k. header_of (size + length (b ∷ text) + 2) k (lines rest))) (Faulty BadHeader)) (le-ltb (size + length (b ∷ text) + 2) 4096 h)

overlong : (told : Option ℕ) (size : ℕ) (text tail rest : List ℕ) → list_all is_text text ≡ true → IsUnended text tail → size + length text + length tail ≡ 4096 → header_of size told (lines (text ++ (tail ++ rest))) ≡ Faulty BadHeader
overlong told size text [] rest all u e =
    header_full (length text + 0) size told (lines (text ++ rest)) (subst (Reaches (length text + 0)) (sym (lines_text text rest all)) (reaches_text text 0 (lines rest) (reaches_none (lines rest)))) (omega arith)
overlong told size text (b ∷ []) rest all u e =
    ap (λ c. header_of size told (lines (text ++ c ∷ rest))) u
    ∙ header_full (length text + 1) size told (lines (text ++ 13 ∷ rest)) (subst (Reaches (length text + 1)) (sym (lines_text text (13 ∷ rest) all)) (reaches_text text 1 (lines (13 ∷ rest)) (reaches_one 13 rest refl))) (omega arith)
overlong told size text (b ∷ c ∷ []) rest all u e =
    ap (λ x. header_of size told (lines (text ++ x ∷ c ∷ rest))) u.0 ∙ ap (λ x. header_of size told (lines (text ++ 13 ∷ x ∷ rest))) u.1
    ∙ ended_read told size text rest all ∙ long_line told size text rest u.2 (omega arith)
overlong told size text (b ∷ c ∷ d ∷ more) rest all u e = absurd u

untold : (told : Option ℕ) (size : ℕ) (rest : List ℕ) → told ≡ None → size + 2 ≤ 4096 → header_of size told (Line [] rest (lines rest)) ≡ Faulty NoLength
untold told size rest e h = ap (λ t. cond t (ended_header told rest) (Faulty BadHeader)) (le-leb (size + 2) 4096 h) ∙ ap (λ o. ended_header o rest) e

shown : (fault : FrameFault) (told : Option ℕ) (size : ℕ) (text tail rest : List ℕ) → list_all is_text text ≡ true → Shows fault told size text tail → header_of size told (lines (text ++ (tail ++ rest))) ≡ Faulty fault
shown fault told size text tail rest all (Untold f t x e h) =
    ap (λ d. header_of size told (lines (text ++ (d ++ rest)))) e ∙ ended_read told size text rest all ∙ ap (λ d. header_of size told (Line d rest (lines rest))) x ∙ untold told size rest t h ∙ ap Faulty (sym f)
shown fault told size text tail rest all (BadLine l some e h) =
    ap (λ d. header_of size told (lines (text ++ (d ++ rest)))) e ∙ ended_read told size text rest all ∙ bad_line told size text rest fault some l h
shown fault told size text tail rest all (LineFeed f e h) =
    ap (λ d. header_of size told (lines (text ++ (d ++ rest)))) e ∙ stray_read told size text (10 ∷ rest) all (lf_stray 10 rest refl) ∙ ap Faulty (sym f)
shown fault told size text tail rest all (Return f b n e h) =
    ap (λ d. header_of size told (lines (text ++ (d ++ rest)))) e
    ∙ stray_read told size text (13 ∷ b ∷ rest) all (lines_marked 13 b rest refl ∙ ap (λ t. cond t (Line [] rest (lines rest)) Stray) (and_right (13 == 13) (b == 10) n)) ∙ ap Faulty (sym f)
shown fault told size text tail rest all (Overlong f s e u) = overlong told size text tail rest all u e ∙ ap Faulty (sym f)

below : (fault : FrameFault) (told : Option ℕ) (size : ℕ) (text tail : List ℕ) → Shows fault told size text tail → size < 4096
below fault told size text tail (Untold f t x e h) = omega arith
below fault told size text tail (BadLine l some e h) = omega arith
below fault told size text tail (LineFeed f e h) = omega arith
below fault told size text tail (Return f b n e h) = omega arith
below fault told size text tail (Overlong f s e u) = s

on : (told : Option ℕ) (all : List HeaderLine) → Tells all told → TellsOn None all told
on told all t = t

-- bytes that show a fault have it
pub shown_fault : (bytes : List ℕ) (fault : FrameFault) → BeginsWithFault bytes fault → front bytes ≡ Broken fault
shown_fault bytes fault is =
    front_faulty bytes fault (ap header spelled_so
    ∙ lines_read is.lines.lines 0 None is.told (is.text ++ (is.tail ++ is.rest)) is.lines.each (on is.told is.lines.lines is.lines.tells) (omega (arith, size, below fault is.told (length is.head) is.text is.tail is.shows))
    ∙ ap (λ n. header_of n is.told (lines (is.text ++ (is.tail ++ is.rest)))) (omega (arith, size))
    ∙ shown fault is.told (length is.head) is.text is.tail is.rest is.all_text is.shows) where
      size : length is.head ≡ length (flat_map spelled is.lines.lines)
      size = ap length is.lines.parts

      spelled_so : bytes ≡ flat_map spelled is.lines.lines ++ (is.text ++ (is.tail ++ is.rest))
      spelled_so = is.parts ∙ ap (λ d. d ++ (is.text ++ (is.tail ++ is.rest))) is.lines.parts

-- the first line, where its end doesn't come
abbrev FirstLine : List ℕ → Lines → Type 0
FirstLine bytes (Line text rest later) = Unit {0}
FirstLine bytes (Open all) = (all ≡ bytes) × (text : List ℕ) × (list_all is_text text ≡ true) × ((bytes ≡ text) ⊎ (bytes ≡ text ++ 13 ∷ []))
FirstLine bytes Stray = (text : List ℕ) × (list_all is_text text ≡ true) × (rest : List ℕ) × ((bytes ≡ text ++ 10 ∷ rest) ⊎ ((b : ℕ) × ((b == 10) ≡ false) × (bytes ≡ text ++ 13 ∷ b ∷ rest)))

first_onto : (b : ℕ) (bytes : List ℕ) (ls : Lines) → is_text b ≡ true → FirstLine bytes ls → FirstLine (b ∷ bytes) (onto (b ∷ []) ls)
first_onto b bytes (Line text rest later) e f = tt
first_onto b bytes (Open all) e f = (
  ap (λ d. b ∷ d) f.0,
  b ∷ f.1,
  and_from (is_text b) (list_all is_text f.1) e f.2,
  elim f.3 [
    | inl h ↦ inl (ap (λ d. b ∷ d) h)
    | inr h ↦ inr (ap (λ d. b ∷ d) h)
  ],
)
first_onto b bytes Stray e f = (
  b ∷ f.0,
  and_from (is_text b) (list_all is_text f.0) e f.1,
  f.2,
  elim f.3 [
    | inl h ↦ inl (ap (λ d. b ∷ d) h)
    | inr h ↦ inr (h.0, h.1, ap (λ d. b ∷ d) h.2)
  ],
)

marked : (b : ℕ) → is_text b ≡ false → (b ≡ 13) ⊎ (b ≡ 10)
marked b e = elim (or_cases (b == 13) (b == 10) (not-false _ e)) [ inl h ↦ inl (eqb-true b 13 h) | inr h ↦ inr (eqb-true b 10 h) ]

first_single : (b : ℕ) → FirstLine (b ∷ []) (lines (b ∷ []))
first_single b = elim (cases_Bool (is_text b)) [
  | inl t ↦ subst (FirstLine (b ∷ [])) (sym (lines_cons b [] t)) (first_onto b [] (lines []) t (subst (FirstLine []) (sym lines_none) (refl, [], refl, inl refl)))
  | inr t ↦ elim (marked b t) [
    | inl c ↦ subst (FirstLine (b ∷ [])) (sym (lines_single b ∙ ap (λ x. cond (x == 10) Stray (Open (b ∷ []))) c)) (refl, [], refl, inr (ap (λ x. x ∷ []) c))
    | inr l ↦ subst (FirstLine (b ∷ [])) (sym (lines_single b ∙ ap (λ x. cond (x == 10) Stray (Open (b ∷ []))) l)) ([], refl, [], inl (ap (λ x. x ∷ []) l))
  ]
]

first_pair : (b c : ℕ) (bytes : List ℕ) (t : Bool) → (b ≡ 13) ⊎ (b ≡ 10) → ((b == 13) && (c == 10)) ≡ t → FirstLine (b ∷ c ∷ bytes) (cond t (Line [] bytes (lines bytes)) Stray)
first_pair b c bytes true m e = tt
first_pair b c bytes false m e = elim m [
  | inl cr ↦ ([], refl, bytes, inr (c, ap (λ x. (x == 13) && (c == 10)) (sym cr) ∙ e, ap (λ x. x ∷ c ∷ bytes) cr))
  | inr lf ↦ ([], refl, c ∷ bytes, inl (ap (λ x. x ∷ c ∷ bytes) lf))
]

first_line : (bytes : List ℕ) → FirstLine bytes (lines bytes)
first_line [] = subst (FirstLine []) (sym lines_none) (refl, [], refl, inl refl)
first_line (b ∷ []) = first_single b
first_line (b ∷ c ∷ bytes) =
    let one = first_line (c ∷ bytes) in
    elim (cases_Bool (is_text b)) [
      | inl t ↦ subst (FirstLine (b ∷ c ∷ bytes)) (sym (lines_cons b (c ∷ bytes) t)) (first_onto b (c ∷ bytes) (lines (c ∷ bytes)) t one)
      | inr t ↦ subst (FirstLine (b ∷ c ∷ bytes)) (sym (lines_marked b c bytes t)) (first_pair b c bytes ((b == 13) && (c == 10)) (marked b t) refl)
    ]

-- the part that shows a fault
record Showing (fault : FrameFault) (told : Option ℕ) (size : ℕ) (bytes : List ℕ) : Type 0 where
  text : List ℕ
  tail : List ℕ
  rest : List ℕ
  all_text : list_all is_text text ≡ true
  parts : bytes ≡ text ++ (tail ++ rest)
  shows : Shows fault told size text tail

-- the 4096th byte comes in a text
in_text : (fault : FrameFault) (told : Option ℕ) (size : ℕ) (text more bytes : List ℕ) → fault ≡ BadHeader → list_all is_text text ≡ true → bytes ≡ text ++ more → size < 4096 → 4096 ≤ size + length text → Showing fault told size bytes
in_text fault told size text more bytes f all e s h =
    let k : ℕ = 4096 - size in
    let halves = take-append-drop k text in
    record {
      text = take k text;
      tail = [];
      rest = drop k text ++ more;
      all_text = (and_parts (list_all is_text (take k text)) (list_all is_text (drop k text)) (sym (list_all-append is_text (take k text) (drop k text)) ∙ ap (list_all is_text) halves ∙ all)).0;
      parts = e ∙ ap (λ d. d ++ more) (sym halves) ∙ append_assoc (take k text) (drop k text) more;
      shows = Overlong f s (omega (arith, length-take-le k text (omega arith))) tt;
    }

-- or as the CR after it
at_cr : (fault : FrameFault) (told : Option ℕ) (size : ℕ) (text more bytes : List ℕ) → fault ≡ BadHeader → list_all is_text text ≡ true → bytes ≡ text ++ 13 ∷ more → size < 4096 → 4096 ≤ size + length text + 1 → Showing fault told size bytes
at_cr fault told size text more bytes f all e s h = elim (cases_lt (size + length text) 4096) [
  | inl l ↦ record { text = text; tail = 13 ∷ []; rest = more; all_text = all; parts = e; shows = Overlong f s (omega arith) refl }
  | inr g ↦ in_text fault told size text (13 ∷ more) bytes f all e s g
]

-- or as the LF of a line
at_lf : (fault : FrameFault) (told : Option ℕ) (size : ℕ) (text more bytes : List ℕ) → fault ≡ BadHeader → list_all is_text text ≡ true → bytes ≡ text ++ 13 ∷ 10 ∷ more → 0 < length text → size < 4096 → 4096 ≤ size + length text + 2 → Showing fault told size bytes
at_lf fault told size text more bytes f all e some s h = elim (cases_lt (size + length text + 1) 4096) [
  | inl l ↦ record { text = text; tail = 13 ∷ 10 ∷ []; rest = more; all_text = all; parts = e; shows = Overlong f s (omega arith) (refl, refl, some) }
  | inr g ↦ at_cr fault told size text (10 ∷ more) bytes f all e s g
]

faulty_same : (a b : FrameFault) → Faulty a ≡ Faulty b → a ≡ b
faulty_same a b h = cc

stray_shows : (fault : FrameFault) (told : Option ℕ) (size : ℕ) (bytes : List ℕ) → fault ≡ BadHeader → size < 4096 → FirstLine bytes Stray → Showing fault told size bytes
stray_shows fault told size bytes f s line = elim line.3 [
  | inl lf ↦ elim (cases_lt (size + length line.0) 4096) [
    | inl l ↦ record { text = line.0; tail = 10 ∷ []; rest = line.2; all_text = line.1; parts = lf; shows = LineFeed f refl (omega arith) }
    | inr g ↦ in_text fault told size line.0 (10 ∷ line.2) bytes f line.1 lf s g
  ]
  | inr cr ↦ elim (cases_lt (size + length line.0 + 1) 4096) [
    | inl l ↦ record { text = line.0; tail = 13 ∷ cr.0 ∷ []; rest = line.2; all_text = line.1; parts = cr.2; shows = Return f cr.0 cr.1 refl (omega arith) }
    | inr g ↦ at_cr fault told size line.0 (cr.0 ∷ line.2) bytes f line.1 cr.2 s g
  ]
]

open_shows : (fault : FrameFault) (told : Option ℕ) (size : ℕ) (all bytes : List ℕ) → fault ≡ BadHeader → size < 4096 → 4096 ≤ size + length all → FirstLine bytes (Open all) → Showing fault told size bytes
open_shows fault told size all bytes f s h line = elim line.3 [
  | inl t ↦ in_text fault told size line.1 [] bytes f line.2 (t ∙ sym (append-nil line.1)) s (omega (arith, ap length line.0, ap length t))
  | inr t ↦ at_cr fault told size line.1 [] bytes f line.2 t s (omega (arith, ap length line.0, ap length t, length-append line.1 (13 ∷ [])))
]

abbrev answered : Option ℕ → Result (Option ℕ) FrameFault
answered known = Ok known

both_kinds : (o : Option ℕ) (f : FrameFault) → answered o ≡ Err f → ⊥
both_kinds o f x = cc

line_shows : (fault : FrameFault) (told : Option ℕ) (size : ℕ) (b : ℕ) (text rest later_bytes bytes : List ℕ) (later : Lines) → list_all is_text (b ∷ text) ≡ true → bytes ≡ (b ∷ text) ++ 13 ∷ 10 ∷ rest → size < 4096 →
    Stops told size (Line (b ∷ text) rest later) → header_of size told (Line (b ∷ text) rest later) ≡ Faulty fault → Showing fault told size bytes
line_shows fault told size b text rest later_bytes bytes later all e s stops h = by (nat_lt (size + length (b ∷ text) + 2) 4096) refl (line_length told (b ∷ text)) refl h stops where
  next : ℕ
  next = size + length (b ∷ text) + 2

  by : (t : Bool) → nat_lt next 4096 ≡ t → (r : Result (Option ℕ) FrameFault) → line_length told (b ∷ text) ≡ r → cond t (after_line r (λ k. header_of next k later)) (Faulty BadHeader) ≡ Faulty fault →
      Stops told size (Line (b ∷ text) rest later) → Showing fault told size bytes
  by false i r k g st = at_lf fault told size (b ∷ text) rest bytes (faulty_same fault BadHeader (sym g)) all e (omega arith) s (ltb-false next 4096 i)
  by true i (Err other) k g st = record {
    text = b ∷ text;
    tail = 13 ∷ 10 ∷ [];
    rest = rest;
    all_text = all;
    parts = e;
    shows = BadLine (k ∙ ap (λ f. Err f) (faulty_same other fault g)) (omega arith) refl (ltb-true next 4096 i);
  }
  by true i (Ok known) k g st = absurd (elim st [
    | inl big ↦ too_big big (ltb-true next 4096 i)
    | inr wrong ↦ both_kinds known wrong.0 (sym k ∙ wrong.2)
  ]) where
    too_big : 4096 ≤ next → next < 4096 → ⊥
    too_big x y = omega arith

untold_shows : (fault : FrameFault) (told : Option ℕ) (size : ℕ) (rest bytes : List ℕ) → bytes ≡ 13 ∷ 10 ∷ rest → size < 4096 → cond (nat_le (size + 2) 4096) (ended_header told rest) (Faulty BadHeader) ≡ Faulty fault → Showing fault told size bytes
untold_shows fault told size rest bytes e s h = by (nat_le (size + 2) 4096) refl told refl h where
  never : (n : ℕ) → Whole n rest ≡ Faulty fault → ⊥
  never n x = cc

  by : (t : Bool) → nat_le (size + 2) 4096 ≡ t → (o : Option ℕ) → told ≡ o → cond t (ended_header o rest) (Faulty BadHeader) ≡ Faulty fault → Showing fault told size bytes
  by true i None n g = record { text = []; tail = 13 ∷ 10 ∷ []; rest = rest; all_text = refl; parts = e; shows = Untold (faulty_same fault NoLength (sym g)) n refl refl (leb-true (size + 2) 4096 i) }
  by true i (Some n) o g = absurd (never n g)
  by false i o n g = at_cr fault told size [] (10 ∷ rest) bytes (faulty_same fault BadHeader (sym g)) refl e s (omega (arith, leb-false (size + 2) 4096 i))

lines_show : (ls : Lines) (fault : FrameFault) (told : Option ℕ) (size : ℕ) (bytes : List ℕ) → size < 4096 → Cut bytes ls → FirstLine bytes ls → Stops told size ls → header_of size told ls ≡ Faulty fault → Showing fault told size bytes
lines_show (Line [] rest later) fault told size bytes s cut line stops h = untold_shows fault told size rest bytes cut.1 s h
lines_show (Line (b ∷ text) rest later) fault told size bytes s cut line stops h = line_shows fault told size b text rest [] bytes later cut.0 cut.1 s stops h
lines_show (Open all) fault told size bytes s cut line stops h = by (nat_lt (size + length all) 4096) refl h where
  never : Short ≡ Faulty fault → ⊥
  never x = cc

  by : (t : Bool) → nat_lt (size + length all) 4096 ≡ t → cond t Short (Faulty BadHeader) ≡ Faulty fault → Showing fault told size bytes
  by true i g = absurd (never g)
  by false i g = open_shows fault told size all bytes (faulty_same fault BadHeader (sym g)) s (ltb-false (size + length all) 4096 i) line
lines_show Stray fault told size bytes s cut line stops h = stray_shows fault told size bytes (faulty_same fault BadHeader (sym h)) s line

faulty_front : (h : Header) (fault : FrameFault) → front_of h ≡ Broken fault → h ≡ Faulty fault
faulty_front Short fault e = absurd (never e) where
  never : Partial ≡ Broken fault → ⊥
  never x = cc
faulty_front (Faulty other) fault e = ap Faulty (same e) where
  same : Broken other ≡ Broken fault → other ≡ fault
  same x = cc
faulty_front (Whole told rest) fault e = absurd (by (nat_le told (length rest)) e) where
  by : (t : Bool) → cond t (Frame (take told rest) (drop told rest)) Partial ≡ Broken fault → ⊥
  by true x = cc
  by false x = cc

-- bytes that have a fault show it
pub fault_shown : (bytes : List ℕ) (fault : FrameFault) → front bytes ≡ Broken fault → BeginsWithFault bytes fault
unfolding front
fault_shown bytes fault e =
    let p = parsed bytes in
    let h : header_of (length p.head) p.told (lines p.rest) ≡ Faulty fault = sym p.same ∙ faulty_front (header bytes) fault e in
    let found = lines_show (lines p.rest) fault p.told (length p.head) p.rest p.below (lines_cut p.rest) (first_line p.rest) p.stops h in
    record {
      head = p.head;
      told = p.told;
      text = found.text;
      tail = found.tail;
      rest = found.rest;
      lines = p.are;
      all_text = found.all_text;
      parts = p.parts ∙ ap (λ d. p.head ++ d) found.parts;
      shows = found.shows;
    }
