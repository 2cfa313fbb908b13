-- The front of the bytes and the grammar of frames.
use Rattle.std.proofs.Common.{◌≡◌, ℕ, ◌+◌, ◌<◌, ◌≤◌, ◌==◌, ◌&&◌, suc, not, nat_lt, nat_le, Bool, true, false, cond, Option, Some, None, Result, Ok, Err, List, [], ◌∷◌, ◌++◌, length, take, drop, ◌⊎◌, map, get_or, inl, inr, refl, sym, ◌∙◌, ap, subst, append_assoc, append-nil, arith, length-append}
use Rattle.std.specs.List.{list_all, prefix_len, filter, flat_map, AllByRecursion}
use Rattle.std.proofs.lemmas.Bool.{and_parts, and_from, cases_Bool, lt-ltb, le-ltb, ltb-false, le-leb, ltb-true, leb-true, eqb-true, not-false}
use Rattle.std.proofs.lemmas.List.{drop_more, drop-drop, take-append-drop, length-take-le}
use Rattle.std.proofs.Math.Seq.{take-append_seam, drop-append_seam}
use Rattle.std.proofs.lemmas.List.Folds.{list_all-append}
use Rattle.std.proofs.lemmas.List.Sums.{prefix_len_stops}
use Rattle.rpc_frames.specs.declared.faults.FrameFault.{FrameFault}
use Rattle.rpc_frames.specs.declared.faults.FrameFault.TheVariants.{BadHeader, NoLength}
use Rattle.rpc_frames.specs.Lines.{Lines, Line, Open, Stray, is_text, onto, lines}
use Rattle.rpc_frames.specs.Fields.{is_colon, is_length_name, value_length, told_once, field_length, field_at, line_length}
use Rattle.rpc_frames.specs.Frames.{Header, Whole, Short, Faulty, ended_header, after_line, header_of, header, Frame, Partial, Broken, front_of, front}
use Rattle.rpc_frames.specs.Grammar.{HeaderLine, is_name, IsHeaderLine, line_text, spelled, length_values, Tells, AreHeaderLines, BeginsWithFrame}
use Rattle.rpc_frames.proofs.LineLemmas.{lines_cons, lines_marked, lines_single, lines_none, lines_text}
use Rattle.rpc_frames.proofs.ScanLemmas.{front_passes}
use Rattle.rpc_frames.proofs.StageLemmas.{front_whole}

-- lines are texts with CR LF behind them
abbrev pub Cut : List ℕ → Lines → Type 0
Cut bytes (Line text rest later) = (list_all is_text text ≡ true) × (bytes ≡ text ++ 13 ∷ 10 ∷ rest) × (later ≡ lines rest) × Cut rest later
Cut bytes (Open text) = Unit {0}
Cut bytes Stray = Unit {0}

cut_onto : (b : ℕ) (bytes : List ℕ) (ls : Lines) → is_text b ≡ true → Cut bytes ls → Cut (b ∷ bytes) (onto (b ∷ []) ls)
cut_onto b bytes (Line text rest later) e c = (and_from (is_text b) (list_all is_text text) e c.0, ap (λ d. b ∷ d) c.1, c.2, c.3)
cut_onto b bytes (Open text) e c = tt
cut_onto b bytes Stray e c = tt

cut_single : (b : ℕ) (t : Bool) → Cut (b ∷ []) (cond t Stray (Open (b ∷ [])))
cut_single b true = tt
cut_single b false = tt

cut_pair : (b c : ℕ) (bytes : List ℕ) (t : Bool) → ((b == 13) && (c == 10)) ≡ t → Cut bytes (lines bytes) → Cut (b ∷ c ∷ bytes) (cond t (Line [] bytes (lines bytes)) Stray)
cut_pair b c bytes true e cut =
    let both = and_parts (b == 13) (c == 10) e in
    let cr : b ≡ 13 = eqb-true b 13 both.0 in
    let lf : c ≡ 10 = eqb-true c 10 both.1 in
    (refl, cc, refl, cut)
cut_pair b c bytes false e cut = tt

pub lines_cut : (bytes : List ℕ) → Cut bytes (lines bytes)
lines_cut [] = subst (Cut []) (sym lines_none) tt
lines_cut (b ∷ []) = subst (Cut (b ∷ [])) (sym (lines_single b)) (cut_single b (b == 10))
lines_cut (b ∷ c ∷ bytes) =
    let one = lines_cut (c ∷ bytes) in
    let two = lines_cut bytes in
    elim (cases_Bool (is_text b)) [
      | inl h ↦ subst (Cut (b ∷ c ∷ bytes)) (sym (lines_cons b (c ∷ bytes) h)) (cut_onto b (c ∷ bytes) (lines (c ∷ bytes)) h one)
      | inr h ↦ subst (Cut (b ∷ c ∷ bytes)) (sym (lines_marked b c bytes h)) (cut_pair b c bytes ((b == 13) && (c == 10)) refl two)
    ]

-- the values of lines
kept : Bool → HeaderLine → List HeaderLine → List (List ℕ)
kept t line lines = map (λ (l : HeaderLine). l.value) (cond t (line ∷ filter (λ l. is_length_name l.name) lines) (filter (λ l. is_length_name l.name) lines))

length_values-append : (a b : List HeaderLine) → length_values (a ++ b) ≡ length_values a ++ length_values b
length_values-append [] b = refl
length_values-append (line ∷ a) b = by (is_length_name line.name) (length_values-append a b) where
  by : (t : Bool) → length_values (a ++ b) ≡ length_values a ++ length_values b →
      map (λ (l : HeaderLine). l.value) (cond t (line ∷ filter (λ l. is_length_name l.name) (a ++ b)) (filter (λ l. is_length_name l.name) (a ++ b)))
      ≡ map (λ (l : HeaderLine). l.value) (cond t (line ∷ filter (λ l. is_length_name l.name) a) (filter (λ l. is_length_name l.name) a)) ++ length_values b
  by true e = ap (λ d. line.value ∷ d) e
  by false e = e

values_one : (line : HeaderLine) (t : Bool) → is_length_name line.name ≡ t → length_values (line ∷ []) ≡ cond t (line.value ∷ []) []
values_one line true e = ap (λ t. map (λ (l : HeaderLine). l.value) (cond t (line ∷ []) [])) e
values_one line false e = ap (λ t. map (λ (l : HeaderLine). l.value) (cond t (line ∷ []) [])) e

abbrev good : Option ℕ → Result (Option ℕ) FrameFault
good told = Ok told

abbrev bad : FrameFault → Result (Option ℕ) FrameFault
bad fault = Err fault

good_same : (a b : Option ℕ) → good a ≡ good b → a ≡ b
good_same a b h = cc

bad_good : (fault : FrameFault) (b : Option ℕ) → bad fault ≡ good b → ⊥
bad_good fault b h = cc

-- one line more
tells_once : (lines : List HeaderLine) (line : HeaderLine) (told known : Option ℕ) (given : Result ℕ FrameFault) → Tells lines told → length_values (line ∷ []) ≡ line.value ∷ [] → value_length line.value ≡ given → told_once told given ≡ Ok known → Tells (lines ++ line ∷ []) known
tells_once lines line (Some n) known given t v g e = absurd (bad_good BadHeader known e)
tells_once lines line None known (Err fault) t v g e = absurd (bad_good fault known e)
tells_once lines line None known (Ok n) t v g e =
    let some : Some n ≡ known = good_same (Some n) known e in
    subst (Tells (lines ++ line ∷ [])) some (line.value, length_values-append lines (line ∷ []) ∙ ap (λ d. d ++ length_values (line ∷ [])) t ∙ v, g)

tells_same : (lines : List HeaderLine) (line : HeaderLine) (told : Option ℕ) → Tells lines told → length_values (line ∷ []) ≡ [] → Tells (lines ++ line ∷ []) told
tells_same lines line None t v = length_values-append lines (line ∷ []) ∙ ap (λ d. d ++ length_values (line ∷ [])) t ∙ v
tells_same lines line (Some n) t v = (t.0, length_values-append lines (line ∷ []) ∙ ap (λ d. d ++ length_values (line ∷ [])) t.1 ∙ ap (λ d. t.0 ∷ d) v, t.2)

tells_more : (lines : List HeaderLine) (line : HeaderLine) (told known : Option ℕ) → Tells lines told → field_length told line.name line.value ≡ Ok known → (0 < length line.name) × Tells (lines ++ line ∷ []) known
tells_more lines line told known t e = named line.name refl e where
  by : (s : Bool) → is_length_name line.name ≡ s → cond s (told_once told (value_length line.value)) (Ok told) ≡ Ok known → Tells (lines ++ line ∷ []) known
  by true i h = tells_once lines line told known (value_length line.value) t (values_one line true i) refl h
  by false i h = subst (Tells (lines ++ line ∷ [])) (good_same told known h) (tells_same lines line told t (values_one line false i))

  named : (name : List ℕ) → line.name ≡ name → field_length told name line.value ≡ Ok known → (0 < length line.name) × Tells (lines ++ line ∷ []) known
  named [] i h = absurd (bad_good BadHeader known h)
  named (b ∷ name) i h = (
    subst (λ (n : List ℕ). 0 < length n) (sym i) (omega arith),
    by (is_length_name line.name) refl (ap (λ n. cond (is_length_name n) (told_once told (value_length line.value)) (Ok told)) i ∙ h),
  )

no_colon : ℕ → Bool
no_colon b = not (is_colon b)

all_both : (p q : ℕ → Bool) (xs : List ℕ) → list_all p xs ≡ true → list_all q xs ≡ true → list_all (λ b. p b && q b) xs ≡ true
all_both p q [] a b = refl
all_both p q (x ∷ xs) a b =
    let one = and_parts (p x) (list_all p xs) a in
    let two = and_parts (q x) (list_all q xs) b in
    and_from (p x && q x) _ (and_from (p x) (q x) one.0 two.0) (all_both p q xs one.1 two.1)

-- a header line that was read
pub record ReadLine (told known : Option ℕ) (text : List ℕ) : Type 0 where
  pub line : HeaderLine
  pub parts : text ≡ line_text line
  pub name : list_all is_name line.name ≡ true
  pub value : list_all is_text line.value ≡ true
  pub gives : field_length told line.name line.value ≡ Ok known

line_parts : (text : List ℕ) (at : ℕ) → at ≡ prefix_len (λ b. not (is_colon b)) text → at < length text → text ≡ take at text ++ 58 ∷ drop (at + 1) text
line_parts text at e h =
    let stop : not (is_colon (get_or text at 0)) ≡ false = subst (λ n. not (is_colon (get_or text n 0)) ≡ false) (sym e) (prefix_len_stops (λ b. not (is_colon b)) text 0 (subst (λ n. n < length text) e h)) in
    let colon : get_or text at 0 ≡ 58 = eqb-true (get_or text at 0) 58 (not-false _ stop) in
    sym (take-append-drop at text) ∙ ap (λ d. take at text ++ d) (drop_more text at 0 h ∙ ap (λ b. b ∷ drop (at + 1) text) colon)

read_line : (told known : Option ℕ) (text : List ℕ) → list_all is_text text ≡ true → line_length told text ≡ Ok known → ReadLine told known text
read_line told known text all e = by (nat_lt at (length text)) refl e where
  at : ℕ
  at = prefix_len (λ b. not (is_colon b)) text

  by : (t : Bool) → nat_lt at (length text) ≡ t → field_at told text (cond t (Some at) None) ≡ Ok known → ReadLine told known text
  by false i h = absurd (bad_good BadHeader known h)
  by true i h =
      let parts = line_parts text at refl (ltb-true at (length text) i) in
      let two = and_parts (list_all is_text (take at text)) (list_all is_text (58 ∷ drop (at + 1) text)) (sym (list_all-append is_text (take at text) (58 ∷ drop (at + 1) text)) ∙ ap (list_all is_text) (sym parts) ∙ all) in
      record {
        line = record { name = take at text; value = drop (at + 1) text };
        parts = parts;
        name = all_both is_text (λ b. not (is_colon b)) (take at text) two.0 (front_passes (λ b. not (is_colon b)) text);
        value = (and_parts (is_text 58) (list_all is_text (drop (at + 1) text)) two.1).1;
        gives = h;
      }

all_snoc : (lines : List HeaderLine) (line : HeaderLine) → AllByRecursion IsHeaderLine lines → IsHeaderLine line → AllByRecursion IsHeaderLine (lines ++ line ∷ [])
all_snoc [] line a l = (l, tt)
all_snoc (first ∷ lines) line a l = (a.0, all_snoc lines line a.1 l)

spelled_snoc : (lines : List HeaderLine) (line : HeaderLine) → flat_map spelled (lines ++ line ∷ []) ≡ flat_map spelled lines ++ spelled line
spelled_snoc [] line = append-nil (spelled line)
spelled_snoc (first ∷ lines) line = ap (λ d. spelled first ++ d) (spelled_snoc lines line) ∙ sym (append_assoc (spelled first) (flat_map spelled lines) (spelled line))

lines_more : (head : List ℕ) (told known : Option ℕ) (text : List ℕ) → AreHeaderLines head told → ReadLine told known text → AreHeaderLines (head ++ (text ++ 13 ∷ 10 ∷ [])) known
lines_more head told known text are read =
    let tells = tells_more are.lines read.line told known are.tells read.gives in
    record {
      lines = are.lines ++ read.line ∷ [];
      each = all_snoc are.lines read.line are.each (record { some = tells.0; name = read.name; value = read.value });
      parts = ap (λ d. d ++ (text ++ 13 ∷ 10 ∷ [])) are.parts ∙ ap (λ d. flat_map spelled are.lines ++ (d ++ 13 ∷ 10 ∷ [])) read.parts ∙ sym (spelled_snoc are.lines read.line);
      tells = tells.1;
    }

-- where the reading of header lines stops
abbrev pub Stops : Option ℕ → ℕ → Lines → Type 0
Stops told size (Line [] rest later) = Unit {0}
Stops told size (Line (b ∷ text) rest later) = (4096 ≤ size + length (b ∷ text) + 2) ⊎ ((fault : FrameFault) × (size + length (b ∷ text) + 2 < 4096) × (line_length told (b ∷ text) ≡ Err fault))
Stops told size (Open text) = Unit {0}
Stops told size Stray = Unit {0}

-- the header lines at the front, and where they stop
pub record Parsed (bytes : List ℕ) (whole : Header) : Type 0 where
  pub head : List ℕ
  pub told : Option ℕ
  pub rest : List ℕ
  pub are : AreHeaderLines head told
  pub below : length head < 4096
  pub parts : bytes ≡ head ++ rest
  pub same : whole ≡ header_of (length head) told (lines rest)
  pub stops : Stops told (length head) (lines rest)

parsed_by : (a b : List ℕ) (h k : Header) → b ≡ a → k ≡ h → Parsed a h → Parsed b k
parsed_by a b h k e f p = record { head = p.head; told = p.told; rest = p.rest; are = p.are; below = p.below; parts = e ∙ p.parts; same = f ∙ p.same; stops = p.stops }

parsed_here : (head bytes : List ℕ) (told : Option ℕ) (ls : Lines) → AreHeaderLines head told → length head < 4096 → ls ≡ lines bytes → Stops told (length head) ls → Parsed (head ++ bytes) (header_of (length head) told ls)
parsed_here head bytes told ls are small e s = record { head = head; told = told; rest = bytes; are = are; below = small; parts = refl; same = ap (header_of (length head) told) e; stops = subst (Stops told (length head)) e s }

parse : (ls : Lines) (head bytes : List ℕ) (told : Option ℕ) → AreHeaderLines head told → length head < 4096 → ls ≡ lines bytes → Cut bytes ls → Parsed (head ++ bytes) (header_of (length head) told ls)
parse (Line [] rest later) head bytes told are small e cut = parsed_here head bytes told (Line [] rest later) are small e tt
parse (Open text) head bytes told are small e cut = parsed_here head bytes told (Open text) are small e tt
parse Stray head bytes told are small e cut = parsed_here head bytes told Stray are small e tt
parse (Line (b ∷ text) rest later) head bytes told are small e cut =
    by (nat_lt (length head + length (b ∷ text) + 2) 4096) refl (line_length told (b ∷ text)) refl
    (λ known more low. parse later (head ++ ((b ∷ text) ++ 13 ∷ 10 ∷ [])) rest known more low cut.2 cut.3) where
      whole : Header
      whole = header_of (length head) told (Line (b ∷ text) rest later)

      next : ℕ
      next = length head + length (b ∷ text) + 2

      longer : length (head ++ ((b ∷ text) ++ 13 ∷ 10 ∷ [])) ≡ next
      longer = omega (arith, length-append head ((b ∷ text) ++ 13 ∷ 10 ∷ []), length-append (b ∷ text) (13 ∷ 10 ∷ []))

      bytes_parts : head ++ bytes ≡ (head ++ ((b ∷ text) ++ 13 ∷ 10 ∷ [])) ++ rest
      bytes_parts = ap (λ d. head ++ d) (cut.1 ∙ sym (append_assoc (b ∷ text) (13 ∷ 10 ∷ []) rest)) ∙ sym (append_assoc head ((b ∷ text) ++ 13 ∷ 10 ∷ []) rest)

      by : (t : Bool) → nat_lt next 4096 ≡ t → (r : Result (Option ℕ) FrameFault) → line_length told (b ∷ text) ≡ r →
          ((known : Option ℕ) → AreHeaderLines (head ++ ((b ∷ text) ++ 13 ∷ 10 ∷ [])) known → length (head ++ ((b ∷ text) ++ 13 ∷ 10 ∷ [])) < 4096 → Parsed ((head ++ ((b ∷ text) ++ 13 ∷ 10 ∷ [])) ++ rest) (header_of (length (head ++ ((b ∷ text) ++ 13 ∷ 10 ∷ []))) known later)) →
          Parsed (head ++ bytes) whole
      by false i r k go = parsed_here head bytes told (Line (b ∷ text) rest later) are small e
          (inl (ltb-false next 4096 i))
      by true i (Err fault) k go = parsed_here head bytes told (Line (b ∷ text) rest later) are small e
          (inr (fault, ltb-true next 4096 i, k))
      by true i (Ok known) k go =
          parsed_by _ _ _ _ bytes_parts
          (ap (λ t. cond t (after_line (line_length told (b ∷ text)) (λ known. header_of next known later)) (Faulty BadHeader)) i
          ∙ ap (λ r. after_line r (λ known. header_of next known later)) k ∙ ap (λ n. header_of n known later) (sym longer))
          (go known (lines_more head told known (b ∷ text) are (read_line told known (b ∷ text) cut.0 k)) (omega (arith, longer, ltb-true next 4096 i)))

pub parsed : (bytes : List ℕ) → Parsed bytes (header bytes)
parsed bytes = parse (lines bytes) [] bytes None (record { lines = []; each = tt; parts = refl; tells = refl }) (omega arith) refl (lines_cut bytes)

-- a frame at the front is a whole header part and enough bytes after it
record FrontFrame (h : Header) (body rest : List ℕ) : Type 0 where
  told : ℕ
  after : List ℕ
  whole : h ≡ Whole told after
  size : length body ≡ told
  parts : after ≡ body ++ rest

front_frame : (h : Header) (body rest : List ℕ) → front_of h ≡ Frame body rest → FrontFrame h body rest
front_frame Short body rest e = absurd (never e) where
  never : Partial ≡ Frame body rest → ⊥
  never k = cc
front_frame (Faulty fault) body rest e = absurd (never e) where
  never : Broken fault ≡ Frame body rest → ⊥
  never k = cc
front_frame (Whole told after) body rest e = by (nat_le told (length after)) refl e where
  never : Partial ≡ Frame body rest → ⊥
  never k = cc

  bodies : Frame (take told after) (drop told after) ≡ Frame body rest → take told after ≡ body
  bodies k = cc

  rests : Frame (take told after) (drop told after) ≡ Frame body rest → drop told after ≡ rest
  rests k = cc

  by : (t : Bool) → nat_le told (length after) ≡ t → cond t (Frame (take told after) (drop told after)) Partial ≡ Frame body rest → FrontFrame (Whole told after) body rest
  by false i k = absurd (never k)
  by true i k = record {
    told = told;
    after = after;
    whole = refl;
    size = sym (ap length (bodies k)) ∙ length-take-le told after (leb-true told (length after) i);
    parts = sym (take-append-drop told after) ∙ ap (λ d. d ++ drop told after) (bodies k) ∙ ap (λ d. body ++ d) (rests k);
  }

-- where the lines stop at a whole header part, an empty line is
record EmptyLine (told : Option ℕ) (size : ℕ) (bytes : List ℕ) (n : ℕ) (rest : List ℕ) : Type 0 where
  is_told : told ≡ Some n
  within : size + 2 ≤ 4096
  parts : bytes ≡ 13 ∷ 10 ∷ rest

ended_told : (told : Option ℕ) (rest : List ℕ) (n : ℕ) (after : List ℕ) → ended_header told rest ≡ Whole n after → (told ≡ Some n) × (rest ≡ after)
ended_told None rest n after e = absurd (never e) where
  never : Faulty NoLength ≡ Whole n after → ⊥
  never h = cc
ended_told (Some m) rest n after e = (ap Some (number e), bytes e) where
  number : Whole m rest ≡ Whole n after → m ≡ n
  number h = cc

  bytes : Whole m rest ≡ Whole n after → rest ≡ after
  bytes h = cc

empty_line : (ls : Lines) (told : Option ℕ) (size n : ℕ) (bytes after : List ℕ) → Cut bytes ls → Stops told size ls → header_of size told ls ≡ Whole n after → EmptyLine told size bytes n after
empty_line (Line [] rest later) told size n bytes after cut stops e = by (nat_le (size + 2) 4096) refl e where
  never : Faulty BadHeader ≡ Whole n after → ⊥
  never h = cc

  by : (t : Bool) → nat_le (size + 2) 4096 ≡ t → cond t (ended_header told rest) (Faulty BadHeader) ≡ Whole n after → EmptyLine told size bytes n after
  by false i h = absurd (never h)
  by true i h =
      let ended = ended_told told rest n after h in
      record { is_told = ended.0; within = leb-true (size + 2) 4096 i; parts = cut.1 ∙ ap (λ d. 13 ∷ 10 ∷ d) ended.1 }
empty_line (Line (b ∷ text) rest later) told size n bytes after cut stops e = absurd (elim stops [
  | inl h ↦ never BadHeader (sym (ap (λ t. cond t tested (Faulty BadHeader)) (le-ltb next 4096 h)) ∙ e)
  | inr h ↦ never h.0 (sym (ap (λ t. cond t tested (Faulty BadHeader)) (lt-ltb next 4096 h.1) ∙ ap (λ r. after_line r (λ known. header_of next known later)) h.2) ∙ e)
]) where
  next : ℕ
  next = size + length (b ∷ text) + 2

  tested : Header
  tested = after_line (line_length told (b ∷ text)) (λ known. header_of next known later)

  never : (fault : FrameFault) → Faulty fault ≡ Whole n after → ⊥
  never fault h = cc
empty_line (Open text) told size n bytes after cut stops e = absurd (by (nat_lt (size + length text) 4096) e) where
  by : (t : Bool) → cond t Short (Faulty BadHeader) ≡ Whole n after → ⊥
  by true h = cc
  by false h = cc
empty_line Stray told size n bytes after cut stops e = absurd (never e) where
  never : Faulty BadHeader ≡ Whole n after → ⊥
  never h = cc

-- what is read as a frame is spelled as one
pub frame_spelled : (bytes body rest : List ℕ) → front bytes ≡ Frame body rest → BeginsWithFrame bytes body rest
unfolding front
frame_spelled bytes body rest e =
    let found = front_frame (header bytes) body rest e in
    let p = parsed bytes in
    let line = empty_line (lines p.rest) p.told (length p.head) found.told p.rest found.after (lines_cut p.rest) p.stops (sym p.same ∙ found.whole) in
    let told : p.told ≡ Some (length body) = line.is_told ∙ ap Some (sym found.size) in
    record {
      head = p.head;
      lines = subst (AreHeaderLines p.head) told p.are;
      within = line.within;
      parts = p.parts ∙ ap (λ d. p.head ++ d) (line.parts ∙ ap (λ d. 13 ∷ 10 ∷ d) found.parts);
    }

-- the other way: what is spelled as header lines is read as these

abbrev pub TellsOn : Option ℕ → List HeaderLine → Option ℕ → Type 0
TellsOn None lines known = Tells lines known
TellsOn (Some n) lines known = (length_values lines ≡ []) × (known ≡ Some n)

colon_after : (name rest : List ℕ) → list_all is_name name ≡ true → prefix_len (λ b. not (is_colon b)) (name ++ 58 ∷ rest) ≡ length name
colon_after [] rest e = refl
colon_after (b ∷ name) rest e =
    let both = and_parts (is_name b) (list_all is_name name) e in
    ap (λ t. cond t (1 + prefix_len (λ b. not (is_colon b)) (name ++ 58 ∷ rest)) 0) (and_parts (is_text b) (not (is_colon b)) both.0).1
    ∙ ap (λ n. 1 + n) (colon_after name rest both.1) ∙ one (length name) where
      one : (n : ℕ) → 1 + n ≡ suc n
      one n = omega arith

text_of_name : (name : List ℕ) → list_all is_name name ≡ true → list_all is_text name ≡ true
text_of_name [] e = refl
text_of_name (b ∷ name) e =
    let both = and_parts (is_name b) (list_all is_name name) e in
    and_from (is_text b) (list_all is_text name) (and_parts (is_text b) (not (is_colon b)) both.0).0 (text_of_name name both.1)

text_of_line : (line : HeaderLine) → IsHeaderLine line → list_all is_text (line_text line) ≡ true
text_of_line line is = list_all-append is_text line.name (58 ∷ line.value) ∙ and_from _ _ (text_of_name line.name is.name) is.value

-- a header line's text is read as its name and value
line_read : (told : Option ℕ) (line : HeaderLine) → IsHeaderLine line → line_length told (line_text line) ≡ field_length told line.name line.value
line_read told line is =
    ap (λ n. field_at told (line_text line) (cond (nat_lt n (length (line_text line))) (Some n) None)) (colon_after line.name line.value is.name)
    ∙ ap (λ t. field_at told (line_text line) (cond t (Some (length line.name)) None)) (lt-ltb (length line.name) (length (line_text line)) (omega (arith, length-append line.name (58 ∷ line.value))))
    ∙ ap (λ name. field_length told name (drop (length line.name + 1) (line_text line))) (take-append_seam line.name (58 ∷ line.value))
    ∙ ap (field_length told line.name) (sym (drop-drop 1 (length line.name) (line_text line)) ∙ ap (drop 1) (drop-append_seam line.name (58 ∷ line.value)))

-- what a line tells, and what the lines after it then tell
record Told (told : Option ℕ) (line : HeaderLine) (lines : List HeaderLine) (known : Option ℕ) : Type 0 where
  between : Option ℕ
  gives : field_length told line.name line.value ≡ Ok between
  on : TellsOn between lines known

named_length : (told : Option ℕ) (line : HeaderLine) (t : Bool) → 0 < length line.name → is_length_name line.name ≡ t → field_length told line.name line.value ≡ cond t (told_once told (value_length line.value)) (Ok told)
named_length told line t some e = by line.name refl where
  by : (name : List ℕ) → line.name ≡ name → field_length told name line.value ≡ cond t (told_once told (value_length line.value)) (Ok told)
  by [] i = absurd (empty (subst (λ (n : List ℕ). 0 < length n) i some)) where
    empty : 0 < length {A = ℕ} [] → ⊥
    empty h = omega arith
  by (b ∷ name) i = ap (λ t. cond t (told_once told (value_length line.value)) (Ok told)) (ap is_length_name (sym i) ∙ e)

line_told : (told known : Option ℕ) (line : HeaderLine) (lines : List HeaderLine) → 0 < length line.name → TellsOn told (line ∷ lines) known → Told told line lines known
line_told told known line lines some tells = by (is_length_name line.name) refl told refl where
  valued : (t : Bool) → is_length_name line.name ≡ t → length_values (line ∷ lines) ≡ cond t (line.value ∷ length_values lines) (length_values lines)
  valued true e = ap (λ t. map (λ (l : HeaderLine). l.value) (cond t (line ∷ filter (λ l. is_length_name l.name) lines) (filter (λ l. is_length_name l.name) lines))) e
  valued false e = ap (λ t. map (λ (l : HeaderLine). l.value) (cond t (line ∷ filter (λ l. is_length_name l.name) lines) (filter (λ l. is_length_name l.name) lines))) e

  no_cons : (x : List ℕ) (xs : List (List ℕ)) → x ∷ xs ≡ [] → ⊥
  no_cons x xs h = cc

  head_same : (x y : List ℕ) (xs ys : List (List ℕ)) → x ∷ xs ≡ y ∷ ys → (x ≡ y) × (xs ≡ ys)
  head_same x y xs ys h = (cc, cc)

  first : (known : Option ℕ) → Tells (line ∷ lines) known → is_length_name line.name ≡ true → Told None line lines known
  first None h e = absurd (no_cons line.value (length_values lines) (sym (valued true e) ∙ h))
  first (Some n) h e =
      let same = head_same line.value h.0 (length_values lines) [] (sym (valued true e) ∙ h.1) in
      record {
        between = Some n;
        gives = named_length None line true some e ∙ ap (told_once None) (ap value_length same.0 ∙ h.2);
        on = (same.1, refl);
      }

  later : (known : Option ℕ) → Tells (line ∷ lines) known → is_length_name line.name ≡ false → Tells lines known
  later None h e = sym (valued false e) ∙ h
  later (Some n) h e = (h.0, sym (valued false e) ∙ h.1, h.2)

  by : (t : Bool) → is_length_name line.name ≡ t → (o : Option ℕ) → told ≡ o → Told told line lines known
  by true e None i = subst (λ o. Told o line lines known) (sym i) (first known (subst (λ o. TellsOn o (line ∷ lines) known) i tells) e)
  by true e (Some n) i = absurd (no_cons line.value (length_values lines) (sym (valued true e) ∙ (subst (λ o. TellsOn o (line ∷ lines) known) i tells).0))
  by false e None i =
      subst (λ o. Told o line lines known) (sym i) (record { between = None; gives = named_length None line false some e; on = later known (subst (λ o. TellsOn o (line ∷ lines) known) i tells) e })
  by false e (Some n) i =
      let there = subst (λ o. TellsOn o (line ∷ lines) known) i tells in
      subst (λ o. Told o line lines known) (sym i) (record { between = Some n; gives = named_length (Some n) line false some e; on = (sym (valued false e) ∙ there.0, there.1) })

pub line_end : (rest : List ℕ) → lines (13 ∷ 10 ∷ rest) ≡ Line [] rest (lines rest)
unfolding lines
line_end rest = refl

spelled_lines : (line : HeaderLine) (rest : List ℕ) → IsHeaderLine line → lines (spelled line ++ rest) ≡ Line (line_text line) rest (lines rest)
spelled_lines line rest is =
    ap lines (append_assoc (line_text line) (13 ∷ 10 ∷ []) rest) ∙ lines_text (line_text line) (13 ∷ 10 ∷ rest) (text_of_line line is)
    ∙ ap (onto (line_text line)) (line_end rest) ∙ ap (λ text. Line text rest (lines rest)) (append-nil (line_text line))

step_over : (taken : ℕ) (told known : Option ℕ) (text rest : List ℕ) → 0 < length text → line_length told text ≡ Ok known → taken + length text + 2 < 4096 → header_of taken told (Line text rest (lines rest)) ≡ header_of (taken + length text + 2) known (lines rest)
step_over taken told known [] rest some e h = absurd (omega arith)
step_over taken told known (b ∷ text) rest some e h =
    ap (λ t. cond t (after_line (line_length told (b ∷ text)) (λ k. header_of (taken + length (b ∷ text) + 2) k (lines rest))) (Faulty BadHeader)) (lt-ltb (taken + length (b ∷ text) + 2) 4096 h)
    ∙ ap (λ r. after_line r (λ k. header_of (taken + length (b ∷ text) + 2) k (lines rest))) e

pub lines_read : (all : List HeaderLine) (taken : ℕ) (told known : Option ℕ) (rest : List ℕ) → AllByRecursion IsHeaderLine all → TellsOn told all known → taken + length (flat_map spelled all) < 4096 →
    header_of taken told (lines (flat_map spelled all ++ rest)) ≡ header_of (taken + length (flat_map spelled all)) known (lines rest)
lines_read [] taken told known rest each tells h = ap (λ n. header_of n told (lines rest)) (omega arith) ∙ ap (λ o. header_of (taken + 0) o (lines rest)) (same told tells) where
  same : (o : Option ℕ) → TellsOn o [] known → o ≡ known
  same None t = none known t where
    none : (k : Option ℕ) → Tells [] k → None ≡ k
    none None t = refl
    none (Some n) t = absurd (no t.0 t.1) where
      no : (v : List ℕ) → [] ≡ v ∷ [] → ⊥
      no v e = cc
  same (Some n) t = sym t.1
lines_read (line ∷ all) taken told known rest each tells h =
    let told_line = line_told told known line all each.0.some tells in
    let size : length (spelled line ++ flat_map spelled all) ≡ length (line_text line) + 2 + length (flat_map spelled all) =
    omega (arith, length-append (spelled line) (flat_map spelled all), length-append (line_text line) (13 ∷ 10 ∷ [])) in
    let some : 0 < length (line_text line) = omega (arith, length-append line.name (58 ∷ line.value)) in
    let room : taken + length (line_text line) + 2 < 4096 = omega (arith, size) in
    ap (λ d. header_of taken told (lines d)) (append_assoc (spelled line) (flat_map spelled all) rest)
    ∙ ap (header_of taken told) (spelled_lines line (flat_map spelled all ++ rest) each.0)
    ∙ step_over taken told told_line.between (line_text line) (flat_map spelled all ++ rest) some (line_read told line each.0 ∙ told_line.gives) room
    ∙ lines_read all (taken + length (line_text line) + 2) told_line.between known rest each.1 told_line.on (omega (arith, size))
    ∙ ap (λ n. header_of n known (lines rest)) (omega (arith, size))

-- what is spelled as a frame is read as one
pub spelled_frame : (bytes body rest : List ℕ) → BeginsWithFrame bytes body rest → front bytes ≡ Frame body rest
spelled_frame bytes body rest is =
    front_whole bytes (body ++ rest) (length body) whole (omega (arith, length-append body rest))
    ∙ ap (λ b. Frame b (drop (length body) (body ++ rest))) (take-append_seam body rest) ∙ ap (Frame body) (drop-append_seam body rest) where
      size : length is.head ≡ length (flat_map spelled is.lines.lines)
      size = ap length is.lines.parts

      spelled_so : bytes ≡ flat_map spelled is.lines.lines ++ 13 ∷ 10 ∷ (body ++ rest)
      spelled_so = is.parts ∙ ap (λ d. d ++ 13 ∷ 10 ∷ (body ++ rest)) is.lines.parts

      whole : header bytes ≡ Whole (length body) (body ++ rest)
      whole = ap header spelled_so
          ∙ lines_read is.lines.lines 0 None (Some (length body)) (13 ∷ 10 ∷ (body ++ rest)) is.lines.each is.lines.tells (omega (arith, size, is.within))
          ∙ ap (header_of (0 + length (flat_map spelled is.lines.lines)) (Some (length body))) (line_end (body ++ rest))
          ∙ ap (λ t. cond t (Whole (length body) (body ++ rest)) (Faulty BadHeader)) (le-leb (0 + length (flat_map spelled is.lines.lines) + 2) 4096 (omega (arith, size, is.within)))
