-- The function gives the sentences of the text.
use Rattle.std.proofs.Common.{◌≡◌, ℕ, ◌+◌, ◌-◌, ◌<◌, ◌≤◌, Bool, true, false, cond, eqb, Option, None, Some, List, [], ◌∷◌, ◌++◌, length, take, drop, replicate, length-append, length-drop, zero, suc, refl, sym, ◌∙◌, ap, subst, arith}
use Rattle.std.specs.List.{prefix_len}
use Rattle.std.proofs.lemmas.Bool.Decides.{nat_tests}
use Rattle.std.proofs.lemmas.Grind.{common_steps}
use Rattle.std.proofs.lemmas.List.{take-append-drop}
use Rattle.std.proofs.lemmas.List.Sums.{prefix_len-le-length}
use Rattle.base_core.specs.declared.kind.Kind.{Kind}
use Rattle.base_core.specs.declared.kind.Kind.TheVariants.{Bullet, BraceOpen, BraceClose}
use Rattle.sentence_split.specs.declared.spans.Span.{Span}
use Rattle.sentence_split.specs.declared.pieces.Piece.{Piece}
use Rattle.sentence_split.specs.declared.pieces.Piece.TheVariants.{Gap, Sentence}
use Rattle.sentence_split.specs.Items.{Items, End, Comment, Byte, spells, begins, opens, AreItems, IsGap, is_blank}
use Rattle.sentence_split.specs.Split.{is_bullet, is_sign, Ends, EndsFirst, IsRun, BeginsNoSign, IsSentence, BeginsSentence, IsSplit}
use Rattle.sentence_split.specs.Scan.{sentence_end, comment_end}
use Rattle.sentence_split.specs.Sentences.{plain_piece, comment_piece, first_piece, sentences}
use Rattle.sentence_split.specs.Pieces.{piece_len}
use Rattle.sentence_split.proofs.Passing.{sentences-gap, sentences-sentence}
use Rattle.sentence_split.proofs.Passes.{spells-append, length-spells, none_some, ends_first, ends_never, commented, comment_found, Commented}

-- a gap that the first bytes are part of
pub record Gapped (text : List ℕ) (len : ℕ) : Type 0 where
  pub some : 0 < len
  pub within : len ≤ length text
  pub extends : (gap : Items) (tail : List ℕ) → IsGap gap tail → drop len text ≡ spells gap tail → (wider : Items) × IsGap wider tail × (text ≡ spells wider tail)

-- a sentence that the first bytes are
pub record Sentenced (text : List ℕ) (kind : Kind) (len : ℕ) : Type 0 where
  pub some : 0 < len
  pub within : len ≤ length text
  pub begins_one : BeginsSentence text
  pub is_one : IsSentence kind (take len text) (drop len text)

pub IsLawful : List ℕ → Piece → Type 0
IsLawful text (Gap len) = Gapped text len
IsLawful text (Sentence kind len) = Sentenced text kind len

blank_gap : (b : ℕ) (rest : List ℕ) → is_blank b ≡ true → Gapped (b ∷ rest) 1
blank_gap b rest e = record {
  some = omega arith;
  within = omega arith;
  extends = λ gap tail g h. (Byte b gap, (e, g), ap (λ t. b ∷ t) h);
}

-- a first part of a text, and what follows it
pub split_at : (text front tail : List ℕ) (n : ℕ) → text ≡ front ++ tail → n ≡ length text - length tail → (take n text ≡ front) × (drop n text ≡ tail)
split_at text front tail n e is =
    let long : n ≡ length front = omega (arith, is, ap length e, length-append front tail) in
    (grind (arith, common_steps), grind (arith, common_steps))

comment_gap : (b : ℕ) (rest tail : List ℕ) → Commented b rest tail → Gapped (b ∷ rest) (length (b ∷ rest) - length tail)
comment_gap b rest tail c =
    let front : List ℕ = 40 ∷ 42 ∷ spells c.inside (42 ∷ 41 ∷ []) in
    let parts : b ∷ rest ≡ front ++ tail = c.spelled ∙ ap (λ t. 40 ∷ 42 ∷ t) (spells-append c.inside (42 ∷ 41 ∷ []) tail) in
    let sizes : length (b ∷ rest) ≡ length front + length tail = ap length parts ∙ length-append front tail in
    let cut = split_at (b ∷ rest) front tail (length (b ∷ rest) - length tail) parts refl in
    record {
      some = omega (arith, sizes);
      within = omega arith;
      extends = λ gap behind g h.
          let is : tail ≡ spells gap behind = sym cut.1 ∙ h in
          (Comment c.inside gap, (subst (λ t. AreItems c.inside (42 ∷ 41 ∷ t)) is c.items, g), c.spelled ∙ ap (λ t. 40 ∷ 42 ∷ spells c.inside (42 ∷ 41 ∷ t)) is);
    }

opens_text : List ℕ → Bool
opens_text [] = false
opens_text (b ∷ rest) = opens b rest

-- no comment begins at a byte that opens none
not_open : (b : ℕ) (rest : List ℕ) → opens b rest ≡ false → (inside : Items) (after : List ℕ) → AreItems inside (42 ∷ 41 ∷ after) → b ∷ rest ≡ 40 ∷ 42 ∷ spells inside (42 ∷ 41 ∷ after) → ⊥
unfolding opens_text
not_open b rest e inside after h is = let clash : false ≡ true = sym e ∙ ap opens_text is in cc

begins_at : (b : ℕ) (rest : List ℕ) → is_blank b ≡ false → opens b rest ≡ false → BeginsSentence (b ∷ rest)
begins_at b rest e f = record { first = b; others = rest; begun = refl; unblank = e; uncommented = not_open b rest f }

sign_opens_none : (b : ℕ) (rest : List ℕ) → is_sign b ≡ true → opens b rest ≡ false
sign_opens_none b rest e = let other : eqb b 40 ≡ false = grind (arith, nat_tests) in rw other refl

run_of : ℕ → List ℕ → ℕ
run_of b rest = prefix_len (λ c. eqb c b) rest

more_run : (t : Bool) (b x : ℕ) (rest : List ℕ) → eqb x b ≡ t → take (run_of b rest) rest ≡ replicate (run_of b rest) b → take (cond t (1 + run_of b rest) 0) (x ∷ rest) ≡ replicate (cond t (1 + run_of b rest) 0) b
more_run true b x rest e h =
    let n : 1 + run_of b rest ≡ suc (run_of b rest) = omega arith in
    let same : x ≡ b = grind (arith, nat_tests) in
    subst (λ m. take m (x ∷ rest) ≡ replicate m b) (sym n) (ap (λ y. y ∷ take (run_of b rest) rest) same ∙ ap (λ t. b ∷ t) h)
more_run false b x rest e h = refl

take_run : (b : ℕ) (rest : List ℕ) → take (run_of b rest) rest ≡ replicate (run_of b rest) b
unfolding run_of
take_run b [] = refl
take_run b (x ∷ rest) = more_run (eqb x b) b x rest refl (take_run b rest)

stop_more : (t : Bool) (b x : ℕ) (rest : List ℕ) → eqb x b ≡ t → begins b (drop (run_of b rest) rest) ≡ false → begins b (drop (cond t (1 + run_of b rest) 0) (x ∷ rest)) ≡ false
stop_more true b x rest e h =
    let n : 1 + run_of b rest ≡ suc (run_of b rest) = omega arith in
    subst (λ m. begins b (drop m (x ∷ rest)) ≡ false) (sym n) h
stop_more false b x rest e h = e

run_stops : (b : ℕ) (rest : List ℕ) → begins b (drop (run_of b rest) rest) ≡ false
unfolding run_of
run_stops b [] = refl
run_stops b (x ∷ rest) = stop_more (eqb x b) b x rest refl (run_stops b rest)

bullet_law : (b : ℕ) (rest : List ℕ) → is_blank b ≡ false → is_bullet b ≡ true → Sentenced (b ∷ rest) Bullet (1 + prefix_len (λ c. eqb c b) rest)
unfolding run_of
bullet_law b rest e f =
    let n : 1 + run_of b rest ≡ suc (run_of b rest) = omega arith in
    let sign : is_sign b ≡ true = rw f refl in
    record {
      some = omega arith;
      within = omega (arith, prefix_len-le-length (λ c. eqb c b) rest);
      begins_one = begins_at b rest e (sign_opens_none b rest sign);
      is_one = subst (λ m. IsRun (take m (b ∷ rest)) (drop m (b ∷ rest))) (sym n)
          (record { mark = b; count = suc (run_of b rest); bullet = f; some = omega arith; run = ap (λ t. b ∷ t) (take_run b rest); longest = run_stops b rest });
    }

brace_open_law : (b : ℕ) (rest : List ℕ) → is_blank b ≡ false → eqb b 123 ≡ true → Sentenced (b ∷ rest) BraceOpen 1
brace_open_law b rest e f =
    let is : b ≡ 123 = grind (arith, nat_tests) in
    let sign : is_sign b ≡ true = ap is_sign is in
    record {
      some = omega arith;
      within = omega arith;
      begins_one = begins_at b rest e (sign_opens_none b rest sign);
      is_one = ap (λ x. x ∷ []) is;
    }

brace_close_law : (b : ℕ) (rest : List ℕ) → is_blank b ≡ false → eqb b 125 ≡ true → Sentenced (b ∷ rest) BraceClose 1
brace_close_law b rest e f =
    let is : b ≡ 125 = grind (arith, nat_tests) in
    let sign : is_sign b ≡ true = ap is_sign is in
    record {
      some = omega arith;
      within = omega arith;
      begins_one = begins_at b rest e (sign_opens_none b rest sign);
      is_one = ap (λ x. x ∷ []) is;
    }

no_sign : (n b : ℕ) (rest : List ℕ) → 0 < n → is_sign b ≡ false → BeginsNoSign (take n (b ∷ rest))
no_sign zero b rest h e = absurd (omega arith)
no_sign (suc n) b rest h e = e

take_all : (xs : List ℕ) → take (length xs) xs ≡ xs
take_all xs = grind (arith, common_steps)

drop_all : (xs : List ℕ) → drop (length xs) xs ≡ []
drop_all xs = grind (arith, common_steps)

plain_law : (o : Option (List ℕ)) (b : ℕ) (rest : List ℕ) → sentence_end (b ∷ rest) ≡ o → BeginsSentence (b ∷ rest) → is_sign b ≡ false → IsLawful (b ∷ rest) (plain_piece (b ∷ rest) o)
unfolding IsLawful
plain_law None b rest e begun f = record {
  some = omega arith;
  within = omega arith;
  begins_one = begun;
  is_one = (
    no_sign (length (b ∷ rest)) b rest (omega arith) f,
    drop_all (b ∷ rest),
    λ other h. ends_never (b ∷ rest) e other (subst (λ t. Ends t other) (take_all (b ∷ rest)) h),
  );
}
plain_law (Some tail) b rest e begun f =
    let text : List ℕ = b ∷ rest in
    let first = ends_first text tail e in
    let front : List ℕ = spells first.ends.stretch (46 ∷ []) in
    let parts : text ≡ front ++ tail = first.ends.spelled ∙ spells-append first.ends.stretch (46 ∷ []) tail in
    let sizes : length text ≡ length front + length tail = ap length parts ∙ length-append front tail in
    let long : 1 ≤ length front = length-spells first.ends.stretch (46 ∷ []) in
    let cut = split_at text front tail (length text - length tail) parts refl in
    let whole : take (length text - length tail) text ++ drop (length text - length tail) text ≡ text = take-append-drop (length text - length tail) text in
    record {
      some = omega (arith, sizes, long);
      within = omega arith;
      begins_one = begun;
      is_one = (
        no_sign (length text - length tail) b rest (omega (arith, sizes, long)) f,
        subst (λ t. EndsFirst t (drop (length text - length tail) text)) (sym whole) (subst (EndsFirst text) (sym cut.1) first),
      );
    }

tails : {b c : ℕ} {xs ys : List ℕ} → b ∷ xs ≡ c ∷ ys → xs ≡ ys
tails e = cc

comment_law : (o : Option (List ℕ)) (b : ℕ) (rest : List ℕ) → comment_end rest ≡ o → is_blank b ≡ false → is_sign b ≡ false → opens b rest ≡ true → IsLawful (b ∷ rest) (comment_piece (b ∷ rest) o)
unfolding IsLawful
comment_law None b rest e f g h =
    plain_law (sentence_end (b ∷ rest)) b rest refl
    (record {
      first = b;
      others = rest;
      begun = refl;
      unblank = f;
      uncommented = λ inside after items is. none_some after (sym e ∙ ap comment_end (tails is) ∙ comment_found inside after items);
    }) g
comment_law (Some tail) b rest e f g h = comment_gap b rest tail (commented b rest tail h e)

no_signs : (b : ℕ) → is_bullet b ≡ false → eqb b 123 ≡ false → eqb b 125 ≡ false → is_sign b ≡ false
no_signs b e f g = rw (e, f, g) refl

on_open : (t : Bool) (b : ℕ) (rest : List ℕ) → is_blank b ≡ false → is_bullet b ≡ false → eqb b 123 ≡ false → eqb b 125 ≡ false → opens b rest ≡ t → IsLawful (b ∷ rest) (first_piece b rest)
on_open true b rest e f g h k =
    let is : first_piece b rest ≡ comment_piece (b ∷ rest) (comment_end rest) = rw (e, f, g, h, k) refl in
    subst (IsLawful (b ∷ rest)) (sym is) (comment_law (comment_end rest) b rest refl e (no_signs b f g h) k)
on_open false b rest e f g h k =
    let is : first_piece b rest ≡ plain_piece (b ∷ rest) (sentence_end (b ∷ rest)) = rw (e, f, g, h, k) refl in
    subst (IsLawful (b ∷ rest)) (sym is) (plain_law (sentence_end (b ∷ rest)) b rest refl (begins_at b rest e k) (no_signs b f g h))

on_close : (t : Bool) (b : ℕ) (rest : List ℕ) → is_blank b ≡ false → is_bullet b ≡ false → eqb b 123 ≡ false → eqb b 125 ≡ t → IsLawful (b ∷ rest) (first_piece b rest)
unfolding IsLawful
on_close true b rest e f g h =
    let is : first_piece b rest ≡ Sentence BraceClose 1 = rw (e, f, g, h) refl in
    subst (IsLawful (b ∷ rest)) (sym is) (brace_close_law b rest e h)
on_close false b rest e f g h = on_open (opens b rest) b rest e f g h refl

on_brace : (t : Bool) (b : ℕ) (rest : List ℕ) → is_blank b ≡ false → is_bullet b ≡ false → eqb b 123 ≡ t → IsLawful (b ∷ rest) (first_piece b rest)
unfolding IsLawful
on_brace true b rest e f g =
    let is : first_piece b rest ≡ Sentence BraceOpen 1 = rw (e, f, g) refl in
    subst (IsLawful (b ∷ rest)) (sym is) (brace_open_law b rest e g)
on_brace false b rest e f g = on_close (eqb b 125) b rest e f g refl

on_bullet : (t : Bool) (b : ℕ) (rest : List ℕ) → is_blank b ≡ false → is_bullet b ≡ t → IsLawful (b ∷ rest) (first_piece b rest)
unfolding IsLawful
on_bullet true b rest e f =
    let is : first_piece b rest ≡ Sentence Bullet (1 + prefix_len (λ c. eqb c b) rest) = rw (e, f) refl in
    subst (IsLawful (b ∷ rest)) (sym is) (bullet_law b rest e f)
on_bullet false b rest e f = on_brace (eqb b 123) b rest e f refl

on_blank : (t : Bool) (b : ℕ) (rest : List ℕ) → is_blank b ≡ t → IsLawful (b ∷ rest) (first_piece b rest)
unfolding IsLawful
on_blank true b rest e =
    let is : first_piece b rest ≡ Gap 1 = rw e refl in
    subst (IsLawful (b ∷ rest)) (sym is) (blank_gap b rest e)
on_blank false b rest e = on_bullet (is_bullet b) b rest e refl

-- a piece has some of the bytes
pub piece_sizes : (b : ℕ) (rest : List ℕ) (p : Piece) → IsLawful (b ∷ rest) p → (0 < piece_len p) × (piece_len p ≤ suc (length rest))
unfolding IsLawful
piece_sizes b rest (Gap len) h = (h.some, h.within)
piece_sizes b rest (Sentence kind len) h = (h.some, h.within)

-- what begins with a byte is a gap or a sentence
pub piece_law : (b : ℕ) (rest : List ℕ) → IsLawful (b ∷ rest) (first_piece b rest)
piece_law b rest = on_blank (is_blank b) b rest refl

gap_before : (total len : ℕ) (text : List ℕ) (spans : List Span) → Gapped text len → IsSplit total (drop len text) spans → IsSplit total text spans
gap_before total len text [] g h = let w = g.extends h.gap [] h.is_gap h.spelled in record { gap = w.0; is_gap = w.1; spelled = w.2 }
gap_before total len text (span ∷ spans) g h =
    let n = h.1 in
    let w = g.extends n.gap (n.sentence ++ h.0) n.is_gap n.spelled in
    (h.0, record { gap = w.0; sentence = n.sentence; is_gap = w.1; spelled = w.2; begins_one = n.begins_one; is_one = n.is_one; from_is = n.from_is; to_is = n.to_is }, h.2)

sentence_first : (total at len : ℕ) (kind : Kind) (text : List ℕ) (spans : List Span) → at + length text ≡ total → Sentenced text kind len → IsSplit total (drop len text) spans → IsSplit total text (record { from = at; to = at + len; kind = kind } ∷ spans)
sentence_first total at len kind text spans e s h =
    let parts : take len text ++ drop len text ≡ text = take-append-drop len text in
    let size : length (take len text ++ drop len text) ≡ length text = ap length parts in (
      drop len text,
      record {
        gap = End;
        sentence = take len text;
        is_gap = tt;
        spelled = sym parts;
        begins_one = subst BeginsSentence (sym parts) s.begins_one;
        is_one = s.is_one;
        from_is = omega (arith, size, e);
        to_is = omega (arith, length-drop len text, s.within, e);
      },
      h,
    )

one_piece : (total at : ℕ) (b : ℕ) (rest : List ℕ) (p : Piece) → first_piece b rest ≡ p → at + length (b ∷ rest) ≡ total → IsLawful (b ∷ rest) p → ((len : ℕ) → 0 < len → len ≤ length (b ∷ rest) → IsSplit total (drop len (b ∷ rest)) (sentences (at + len) 0 (drop len (b ∷ rest)))) → IsSplit total (b ∷ rest) (sentences at 0 (b ∷ rest))
unfolding IsLawful
one_piece total at b rest (Gap len) is e law ih =
    subst (IsSplit total (b ∷ rest)) (sym (sentences-gap (b ∷ rest) at len (omega arith) is law.some law.within))
    (gap_before total len (b ∷ rest) (sentences (at + len) 0 (drop len (b ∷ rest))) law (ih len law.some law.within))
one_piece total at b rest (Sentence kind len) is e law ih =
    subst (IsSplit total (b ∷ rest)) (sym (sentences-sentence (b ∷ rest) at len kind (omega arith) is law.some law.within))
    (sentence_first total at len kind (b ∷ rest) (sentences (at + len) 0 (drop len (b ∷ rest))) e law (ih len law.some law.within))

split_within : (n total at : ℕ) (text : List ℕ) → length text ≤ n → at + length text ≡ total → IsSplit total text (sentences at 0 text)
split_within n total at [] h e = record { gap = End; is_gap = tt; spelled = refl }
split_within zero total at (b ∷ rest) h e = absurd (omega arith)
split_within (suc n) total at (b ∷ rest) h e =
    one_piece total at b rest (first_piece b rest) refl e (piece_law b rest)
    (λ len some within. split_within n total (at + len) (drop len (b ∷ rest)) (omega (arith, length-drop len (b ∷ rest))) (omega (arith, length-drop len (b ∷ rest))))

-- the function gives the sentences of the text
pub sentences_split : (text : List ℕ) → IsSplit (length text) text (sentences 0 0 text)
sentences_split text = split_within (length text) (length text) 0 text (omega arith) (omega arith)
