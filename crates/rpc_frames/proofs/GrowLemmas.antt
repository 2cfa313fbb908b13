-- What more bytes change in the reading of the bytes before them: nothing that was read.
use Rattle.std.proofs.Common.{◌≡◌, ℕ, ◌+◌, ◌<◌, ◌≤◌, ◌==◌, ◌&&◌, nat_lt, nat_le, Bool, true, false, cond, Option, Some, None, Result, Ok, Err, List, [], ◌∷◌, ◌++◌, length, take, drop, inl, inr, refl, sym, ◌∙◌, ap, subst, append_assoc, arith, length-append}
use Rattle.std.proofs.lemmas.Bool.{eqb-true, ne_eqb, and_left, ltb-false, le-ltb, lt-leb, leb-true, le-leb, cases_Bool}
use Rattle.std.proofs.lemmas.List.{take-append-le, drop-append-le, take-append-drop}
use Rattle.rpc_frames.specs.declared.faults.FrameFault.{FrameFault}
use Rattle.rpc_frames.specs.declared.faults.FrameFault.TheVariants.{BadHeader}
use Rattle.rpc_frames.specs.Lines.{Lines, Line, Open, Stray, is_text, onto, lines}
use Rattle.rpc_frames.specs.Fields.{line_length}
use Rattle.rpc_frames.specs.Frames.{Header, Whole, Short, Faulty, ended_header, after_line, header_of, header, Front, Frame, Partial, Broken, front_of, front}
use Rattle.rpc_frames.proofs.LineLemmas.{lines_cons, lines_marked, lines_single, lines_none}

-- the rest is what follows some bytes, at least one
pub record IsAfter (bytes rest : List ℕ) : Type 0 where
  pub before : List ℕ
  pub parts : bytes ≡ before ++ rest
  pub some : 0 < length before

after_after : (a b c : List ℕ) → IsAfter a b → IsAfter b c → IsAfter a c
after_after a b c x y = record {
  before = x.before ++ y.before;
  parts = x.parts ∙ ap (λ d. x.before ++ d) y.parts ∙ sym (append_assoc x.before y.before c);
  some = omega (arith, x.some, length-append x.before y.before);
}

-- the first line has so many bytes at least, its CR included
abbrev pub Reaches : ℕ → Lines → Type 0
Reaches n (Line text rest later) = n ≤ length text + 1
Reaches n (Open text) = n ≤ length text
Reaches n Stray = Unit {0}

-- the lines of the bytes, and those of the bytes with more after them
abbrev pub Grows : List ℕ → Lines → List ℕ → Lines → Type 0
Grows bytes (Line text rest later) more ls = (longer : Lines) × (ls ≡ Line text (rest ++ more) longer) × IsAfter bytes rest × Grows rest later more longer
Grows bytes (Open text) more ls = Reaches (length text) ls
Grows bytes Stray more ls = ls ≡ Stray

grows_by : (bytes more : List ℕ) (a b x y : Lines) → a ≡ x → b ≡ y → Grows bytes x more y → Grows bytes a more b
grows_by bytes more a b x y e f g = subst (λ l. Grows bytes l more b) (sym e) (subst (λ l. Grows bytes x more l) (sym f) g)

reaches_onto : (b n m : ℕ) (ls : Lines) → m ≤ n + 1 → Reaches n ls → Reaches m (onto (b ∷ []) ls)
reaches_onto b n m (Line text rest later) e h = omega arith
reaches_onto b n m (Open text) e h = omega arith
reaches_onto b n m Stray e h = tt

grows_onto : (b : ℕ) (bytes : List ℕ) (ls : Lines) (more : List ℕ) (longer : Lines) → Grows bytes ls more longer → Grows (b ∷ bytes) (onto (b ∷ []) ls) more (onto (b ∷ []) longer)
grows_onto b bytes (Line text rest later) more longer g =
    (g.0, ap (onto (b ∷ [])) g.1, record { before = b ∷ g.2.before; parts = ap (λ d. b ∷ d) g.2.parts; some = omega arith }, g.3)
grows_onto b bytes (Open text) more longer g = reaches_onto b (length text) (length (b ∷ text)) longer (omega arith) g
grows_onto b bytes Stray more longer g = ap (onto (b ∷ [])) g

pub reaches_none : (ls : Lines) → Reaches 0 ls
reaches_none (Line text rest later) = omega arith
reaches_none (Open text) = omega arith
reaches_none Stray = tt

pub lf_stray : (b : ℕ) (more : List ℕ) → (b == 10) ≡ true → lines (b ∷ more) ≡ Stray
lf_stray b [] e = lines_single b ∙ ap (λ t. cond t Stray (Open (b ∷ []))) e
lf_stray b (c ∷ more) e =
    let same : b ≡ 10 = eqb-true b 10 e in
    let marked : is_text b ≡ false = ap is_text same in
    let no_cr : (b == 13) ≡ false = ne_eqb b 13 (λ other. omega arith) in
    lines_marked b c more marked ∙ ap (λ t. cond t (Line [] more (lines more)) Stray) (and_left (b == 13) (c == 10) no_cr)

reaches_pair : (t : Bool) (bytes : List ℕ) (ls : Lines) → Reaches 1 (cond t (Line [] bytes ls) Stray)
reaches_pair true bytes ls = omega arith
reaches_pair false bytes ls = tt

pub reaches_one : (b : ℕ) (more : List ℕ) → (b == 10) ≡ false → Reaches 1 (lines (b ∷ more))
reaches_one b [] e = subst (Reaches 1) (sym (lines_single b ∙ ap (λ t. cond t Stray (Open (b ∷ []))) e)) (reaches_none_more b) where
  reaches_none_more : (b : ℕ) → Reaches 1 (Open (b ∷ []))
  reaches_none_more b = omega arith
reaches_one b (c ∷ more) e = elim (cases_Bool (is_text b)) [
  | inl h ↦ subst (Reaches 1) (sym (lines_cons b (c ∷ more) h)) (reaches_onto b 0 1 (lines (c ∷ more)) (omega arith) (reaches_none (lines (c ∷ more))))
  | inr h ↦ subst (Reaches 1) (sym (lines_marked b c more h)) (reaches_pair _ more (lines more))
]

single_grows : (b : ℕ) (more : List ℕ) → Grows (b ∷ []) (lines (b ∷ [])) more (lines (b ∷ more))
single_grows b more = elim (cases_Bool (b == 10)) [
  | inl h ↦ grows_by (b ∷ []) more (lines (b ∷ [])) (lines (b ∷ more)) Stray Stray (lines_single b ∙ ap (λ t. cond t Stray (Open (b ∷ []))) h) (lf_stray b more h) refl
  | inr h ↦ grows_by (b ∷ []) more (lines (b ∷ [])) (lines (b ∷ more)) (Open (b ∷ [])) (lines (b ∷ more)) (lines_single b ∙ ap (λ t. cond t Stray (Open (b ∷ []))) h) refl (reaches_one b more h)
]

pair_grows : (b c : ℕ) (bytes more : List ℕ) (t : Bool) → Grows bytes (lines bytes) more (lines (bytes ++ more)) →
    Grows (b ∷ c ∷ bytes) (cond t (Line [] bytes (lines bytes)) Stray) more (cond t (Line [] (bytes ++ more) (lines (bytes ++ more))) Stray)
pair_grows b c bytes more true g = (lines (bytes ++ more), refl, record { before = b ∷ c ∷ []; parts = refl; some = omega arith }, g)
pair_grows b c bytes more false g = refl

pub lines_grow : (bytes more : List ℕ) → Grows bytes (lines bytes) more (lines (bytes ++ more))
lines_grow [] more = grows_by [] more (lines []) (lines more) (Open []) (lines more) lines_none refl (reaches_none (lines more))
lines_grow (b ∷ []) more = single_grows b more
lines_grow (b ∷ c ∷ bytes) more =
    let one = lines_grow (c ∷ bytes) more in
    let two = lines_grow bytes more in
    elim (cases_Bool (is_text b)) [
      | inl h ↦ grows_by (b ∷ c ∷ bytes) more _ _ _ _ (lines_cons b (c ∷ bytes) h) (lines_cons b (c ∷ bytes ++ more) h) (grows_onto b (c ∷ bytes) (lines (c ∷ bytes)) more (lines (c ∷ bytes ++ more)) one)
      | inr h ↦ grows_by (b ∷ c ∷ bytes) more _ _ _ _ (lines_marked b c bytes h) (lines_marked b c (bytes ++ more) h) (pair_grows b c bytes more ((b == 13) && (c == 10)) two)
    ]

-- a line that is too long for the header part
pub header_full : (n taken : ℕ) (told : Option ℕ) (ls : Lines) → Reaches n ls → 4096 ≤ taken + n → header_of taken told ls ≡ Faulty BadHeader
header_full n taken told (Line [] rest later) h e = ap (λ t. cond t (ended_header told rest) (Faulty BadHeader)) (lt-leb (taken + 2) 4096 (omega arith))
header_full n taken told (Line (b ∷ text) rest later) h e =
    ap (λ t. cond t (after_line (line_length told (b ∷ text)) (λ known. header_of (taken + length (b ∷ text) + 2) known later)) (Faulty BadHeader)) (le-ltb (taken + length (b ∷ text) + 2) 4096 (omega arith))
header_full n taken told (Open text) h e = ap (λ t. cond t Short (Faulty BadHeader)) (le-ltb (taken + length text) 4096 (omega arith))
header_full n taken told Stray h e = refl

-- a header part of the bytes, and that of the bytes with more after them
abbrev pub HeaderGrows : List ℕ → Header → List ℕ → Header → Type 0
HeaderGrows bytes (Whole told rest) more h = (h ≡ Whole told (rest ++ more)) × IsAfter bytes rest
HeaderGrows bytes Short more h = Unit {0}
HeaderGrows bytes (Faulty fault) more h = h ≡ Faulty fault

header_cond : (bytes more : List ℕ) (t : Bool) (h k : Header) → HeaderGrows bytes h more k → HeaderGrows bytes (cond t h (Faulty BadHeader)) more (cond t k (Faulty BadHeader))
header_cond bytes more true h k g = g
header_cond bytes more false h k g = refl

header_ended : (bytes rest more : List ℕ) (told : Option ℕ) → IsAfter bytes rest → HeaderGrows bytes (ended_header told rest) more (ended_header told (rest ++ more))
header_ended bytes rest more None after = refl
header_ended bytes rest more (Some told) after = (refl, after)

header_after : (bytes more : List ℕ) (r : Result (Option ℕ) FrameFault) (h k : Option ℕ → Header) → ((told : Option ℕ) → HeaderGrows bytes (h told) more (k told)) → HeaderGrows bytes (after_line r h) more (after_line r k)
header_after bytes more (Ok told) h k g = g told
header_after bytes more (Err fault) h k g = refl

header_from : (bytes rest more : List ℕ) (h k : Header) → IsAfter bytes rest → HeaderGrows rest h more k → HeaderGrows bytes h more k
header_from bytes rest more (Whole told later) k after g = (g.0, after_after bytes rest later after g.1)
header_from bytes rest more Short k after g = tt
header_from bytes rest more (Faulty fault) k after g = g

header_open : (bytes more : List ℕ) (t : Bool) (k : Header) → (t ≡ false → k ≡ Faulty BadHeader) → HeaderGrows bytes (cond t Short (Faulty BadHeader)) more k
header_open bytes more true k f = tt
header_open bytes more false k f = f refl

header_of_grows : (ls : Lines) (bytes more : List ℕ) (longer : Lines) (taken : ℕ) (told : Option ℕ) → Grows bytes ls more longer → HeaderGrows bytes (header_of taken told ls) more (header_of taken told longer)
header_of_grows (Line [] rest later) bytes more longer taken told g =
    subst (λ l. HeaderGrows bytes (header_of taken told (Line [] rest later)) more (header_of taken told l)) (sym g.1)
    (header_cond bytes more (nat_le (taken + 2) 4096) (ended_header told rest) (ended_header told (rest ++ more)) (header_ended bytes rest more told g.2))
header_of_grows (Line (b ∷ text) rest later) bytes more longer taken told g =
    let next = taken + length (b ∷ text) + 2 in
    subst (λ l. HeaderGrows bytes (header_of taken told (Line (b ∷ text) rest later)) more (header_of taken told l)) (sym g.1)
    (header_cond bytes more (nat_lt next 4096) _ _
    (header_after bytes more (line_length told (b ∷ text)) (λ known. header_of next known later) (λ known. header_of next known g.0)
    (λ known. header_from bytes rest more (header_of next known later) (header_of next known g.0) g.2 (header_of_grows later rest more g.0 next known g.3))))
header_of_grows (Open text) bytes more longer taken told g =
    header_open bytes more (nat_lt (taken + length text) 4096) (header_of taken told longer)
    (λ e. header_full (length text) taken told longer g (ltb-false (taken + length text) 4096 e))
header_of_grows Stray bytes more longer taken told g = ap (header_of taken told) g

-- a header part that is read, or its fault, stays the same whatever follows the bytes
pub header_grows : (bytes more : List ℕ) → HeaderGrows bytes (header bytes) more (header (bytes ++ more))
header_grows bytes more = header_of_grows (lines bytes) bytes more (lines (bytes ++ more)) 0 None (lines_grow bytes more)

-- the front of the bytes, and that of the bytes with more after them
abbrev pub FrontGrows : List ℕ → Front → List ℕ → Front → Type 0
FrontGrows bytes (Frame body rest) more f = (f ≡ Frame body (rest ++ more)) × IsAfter bytes rest
FrontGrows bytes Partial more f = Unit {0}
FrontGrows bytes (Broken fault) more f = f ≡ Broken fault

after_body : (bytes rest : List ℕ) (n : ℕ) → IsAfter bytes rest → IsAfter bytes (drop n rest)
after_body bytes rest n after = record {
  before = after.before ++ take n rest;
  parts = after.parts ∙ ap (λ d. after.before ++ d) (sym (take-append-drop n rest)) ∙ sym (append_assoc after.before (take n rest) (drop n rest));
  some = omega (arith, after.some, length-append after.before (take n rest));
}

body_grows : (bytes rest more : List ℕ) (told : ℕ) (t : Bool) → nat_le told (length rest) ≡ t → IsAfter bytes rest →
    FrontGrows bytes (cond t (Frame (take told rest) (drop told rest)) Partial) more (front_of (Whole told (rest ++ more)))
body_grows bytes rest more told true e after =
    let within : told ≤ length rest = leb-true told (length rest) e in
    let enough : nat_le told (length (rest ++ more)) ≡ true = le-leb told (length (rest ++ more)) (omega (arith, length-append rest more)) in (
      ap (λ t. cond t (Frame (take told (rest ++ more)) (drop told (rest ++ more))) Partial) enough
          ∙ ap (λ body. Frame body (drop told (rest ++ more))) (take-append-le told rest more within)
          ∙ ap (Frame (take told rest)) (drop-append-le told rest more within),
      after_body bytes rest told after,
    )
body_grows bytes rest more told false e after = tt

front_of_grows : (bytes more : List ℕ) (h k : Header) → HeaderGrows bytes h more k → FrontGrows bytes (front_of h) more (front_of k)
front_of_grows bytes more (Whole told rest) k g =
    subst (λ x. FrontGrows bytes (front_of (Whole told rest)) more (front_of x)) (sym g.0) (body_grows bytes rest more told (nat_le told (length rest)) refl g.1)
front_of_grows bytes more Short k g = tt
front_of_grows bytes more (Faulty fault) k g = ap front_of g

pub front_grows : (bytes more : List ℕ) → FrontGrows bytes (front bytes) more (front (bytes ++ more))
unfolding front
front_grows bytes more = front_of_grows bytes more (header bytes) (header (bytes ++ more)) (header_grows bytes more)
