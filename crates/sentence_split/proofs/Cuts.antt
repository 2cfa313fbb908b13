-- Sentences stand between characters, and their bytes fit their kinds.
use Rattle.std.proofs.Common.{◌≡◌, ℕ, ◌+◌, ◌-◌, ◌<◌, ◌⊎◌, true, List, [], ◌∷◌, ◌++◌, length, get_or, take, drop, replicate, length-append, append_assoc, zero, suc, refl, sym, ◌∙◌, ap, subst, arith, All}
use Rattle.std.specs.List.{AllByRecursion, slice_range}
use Rattle.std.specs.Str.{IsUtf8, IsCharBoundary}
use Rattle.std.proofs.lemmas.Bool.Decides.{nat_tests}
use Rattle.std.proofs.lemmas.Grind.{common_steps}
use Rattle.std.proofs.lemmas.List.Elements.{All-from_recursion}
use Rattle.std.proofs.lemmas.Str.{IsUtf8-nil, IsUtf8-drop, IsCharBoundary-after_ascii, IsCharBoundary-at_seam}
use Rattle.base_core.specs.declared.kind.Kind.{Kind}
use Rattle.base_core.specs.declared.kind.Kind.TheVariants.{Plain, Bullet, BraceOpen, BraceClose, Unfinished}
use Rattle.base_core.specs.Fit.{EndsInPeriod, IsFit}
use Rattle.sentence_split.specs.declared.spans.Span.{Span}
use Rattle.sentence_split.specs.Items.{Items, End, Comment, Quotation, Byte, spells, is_blank, IsGap}
use Rattle.sentence_split.specs.Split.{is_bullet, IsSentence, EndsFirst, IsNext, IsSplit}
use Rattle.sentence_split.specs.Within.{IsSpanOf}
use Rattle.sentence_split.proofs.Passes.{spells-append}

-- what follows an ASCII byte is a text
after_ascii : (front tail : List ℕ) (b : ℕ) → b < 128 → IsUtf8 (front ++ (b ∷ tail)) → IsUtf8 tail
after_ascii front tail b small text =
    let at : get_or (front ++ (b ∷ tail)) (length front) 0 ≡ b = grind (arith, common_steps) in
    let size : length (front ++ (b ∷ tail)) ≡ length front + suc (length tail) = length-append front (b ∷ tail) in
    let rest : drop (length front + 1) (front ++ (b ∷ tail)) ≡ tail = grind (arith, common_steps) in
    subst IsUtf8 rest
    (IsUtf8-drop (front ++ (b ∷ tail)) (length front + 1) text
    (IsCharBoundary-after_ascii (front ++ (b ∷ tail)) (length front) text (omega (arith, size)) (omega (arith, at))))

blank-ascii : (b : ℕ) → is_blank b ≡ true → b < 128
blank-ascii b e = grind (arith, nat_tests)

-- what follows a gap is a text
past_gap : (gap : Items) (tail : List ℕ) → IsGap gap tail → IsUtf8 (spells gap tail) → IsUtf8 tail
past_gap End tail g text = text
past_gap (Comment inside after) tail g text =
    let parts : spells (Comment inside after) tail ≡ (40 ∷ 42 ∷ spells inside (42 ∷ [])) ++ (41 ∷ spells after tail) = ap (λ t. 40 ∷ 42 ∷ t) (spells-append inside (42 ∷ []) (41 ∷ spells after tail)) in
    past_gap after tail g.1 (after_ascii (40 ∷ 42 ∷ spells inside (42 ∷ [])) (spells after tail) 41 (omega arith) (subst IsUtf8 parts text))
past_gap (Quotation bytes after) tail g text = absurd g
past_gap (Byte b after) tail g text = past_gap after tail g.1 (after_ascii [] (spells after tail) b (blank-ascii b g.0) text)

-- a sentence fits its kind, and what follows it is a text
pub record IsCutOff (kind : Kind) (sentence rest : List ℕ) : Type 0 where
  pub fit : IsFit kind sentence
  pub text : IsUtf8 (sentence ++ rest) → IsUtf8 rest

bullet_mark : (b : ℕ) → is_bullet b ≡ true → (b ≡ 45) ⊎ (b ≡ 43) ⊎ (b ≡ 42)
bullet_mark b e = grind (arith, nat_tests)

bullet-ascii : (b : ℕ) → is_bullet b ≡ true → b < 128
bullet-ascii b e = grind (arith, nat_tests)

run_text : (n b : ℕ) (rest : List ℕ) → b < 128 → IsUtf8 (replicate n b ++ rest) → IsUtf8 rest
run_text zero b rest small text = text
run_text (suc n) b rest small text = run_text n b rest small (after_ascii [] (replicate n b ++ rest) b small text)

-- a plain sentence is what its stretch spells
same_front : (x y rest : List ℕ) → x ++ rest ≡ y ++ rest → x ≡ y
same_front x y rest e =
    let sizes : length x ≡ length y = omega (arith, ap length e, length-append x rest, length-append y rest) in
    let left : take (length x) (x ++ rest) ≡ x = grind (arith, common_steps) in
    let right : take (length y) (y ++ rest) ≡ y = grind (arith, common_steps) in
    sym left ∙ ap (take (length x)) e ∙ ap (λ n. take n (y ++ rest)) sizes ∙ right

period_front : (sentence rest : List ℕ) → EndsFirst (sentence ++ rest) rest → EndsInPeriod sentence
period_front sentence rest e =
    let stretch = e.ends.stretch in
    let whole : sentence ++ rest ≡ (spells stretch [] ++ (46 ∷ [])) ++ rest =
    e.ends.spelled ∙ spells-append stretch [] (46 ∷ rest) ∙ sym (append_assoc (spells stretch []) (46 ∷ []) rest) in
    record { front = spells stretch []; parts = same_front sentence (spells stretch [] ++ (46 ∷ [])) rest whole }

period_text : (sentence rest : List ℕ) → EndsInPeriod sentence → IsUtf8 (sentence ++ rest) → IsUtf8 rest
period_text sentence rest e text =
    let whole : sentence ++ rest ≡ e.front ++ (46 ∷ rest) = ap (λ t. t ++ rest) e.parts ∙ append_assoc e.front (46 ∷ []) rest in
    after_ascii e.front rest 46 (omega arith) (subst IsUtf8 whole text)

cut_off : (kind : Kind) (sentence rest : List ℕ) → IsSentence kind sentence rest → IsCutOff kind sentence rest
cut_off Plain sentence rest s =
    let e = period_front sentence rest s.1 in
    record { fit = e; text = period_text sentence rest e }
cut_off Bullet sentence rest s = record {
  fit = record { mark = s.mark; count = s.count; is_mark = bullet_mark s.mark s.bullet; some = s.some; run = s.run };
  text = λ text. run_text s.count s.mark rest (bullet-ascii s.mark s.bullet) (subst (λ t. IsUtf8 (t ++ rest)) s.run text);
}
cut_off BraceOpen sentence rest s = record { fit = s; text = λ text. after_ascii [] rest 123 (omega arith) (subst (λ t. IsUtf8 (t ++ rest)) s text) }
cut_off BraceClose sentence rest s = record { fit = s; text = λ text. after_ascii [] rest 125 (omega arith) (subst (λ t. IsUtf8 (t ++ rest)) s text) }
cut_off Unfinished sentence rest s = record { fit = tt; text = λ text. subst IsUtf8 (sym s.1) IsUtf8-nil }

-- a part of a whole text, between what stands before and behind it
slice_of : (before part rest : List ℕ) (from to : ℕ) → from ≡ length before → to ≡ length before + length part → slice_range (before ++ (part ++ rest)) from to ≡ part
slice_of before part rest from to e f =
    let behind : drop from (before ++ (part ++ rest)) ≡ part ++ rest = grind (arith, common_steps) in
    let size : to - from ≡ length part = omega arith in
    let front : take (length part) (part ++ rest) ≡ part = grind (arith, common_steps) in
    ap (take (to - from)) behind ∙ ap (λ n. take n (part ++ rest)) size ∙ front

one_span : (whole before text : List ℕ) (span : Span) (rest : List ℕ) → whole ≡ before ++ text → IsUtf8 text → IsNext (length whole) text span rest → IsSpanOf whole span × IsUtf8 rest × ((front : List ℕ) × (whole ≡ front ++ rest))
one_span whole before text span rest e utf8 n =
    let gap : List ℕ = spells n.gap [] in
    let front : List ℕ = before ++ gap in
    let spelled : text ≡ gap ++ (n.sentence ++ rest) = n.spelled ∙ spells-append n.gap [] (n.sentence ++ rest) in
    let parts : whole ≡ front ++ (n.sentence ++ rest) = e ∙ ap (λ t. before ++ t) spelled ∙ sym (append_assoc before gap (n.sentence ++ rest)) in
    let behind : whole ≡ (front ++ n.sentence) ++ rest = parts ∙ sym (append_assoc front n.sentence rest) in
    let size : length whole ≡ length front + length (n.sentence ++ rest) = ap length parts ∙ length-append front (n.sentence ++ rest) in
    let inner : length (n.sentence ++ rest) ≡ length n.sentence + length rest = length-append n.sentence rest in
    let ends : length (front ++ n.sentence) ≡ length front + length n.sentence = length-append front n.sentence in
    let from : span.from ≡ length front = omega (arith, n.from_is, size) in
    let to : span.to ≡ length front + length n.sentence = omega (arith, n.to_is, size, inner) in
    let begun : IsUtf8 (n.sentence ++ rest) = past_gap n.gap (n.sentence ++ rest) n.is_gap (subst IsUtf8 n.spelled utf8) in
    let cut = cut_off span.kind n.sentence rest n.is_one in
    let left : IsUtf8 rest = cut.text begun in
    let to_end : length (front ++ n.sentence) ≡ span.to = omega (arith, ends, to) in (
      record {
        ordered = omega (arith, from, to);
        within = omega (arith, to, size, inner);
        from_cut = subst (IsCharBoundary whole) (sym from) (IsCharBoundary-at_seam whole front (n.sentence ++ rest) parts begun);
        to_cut = subst (IsCharBoundary whole) to_end (IsCharBoundary-at_seam whole (front ++ n.sentence) rest behind left);
        fit = subst (IsFit span.kind) (sym (ap (λ t. slice_range t span.from span.to) parts ∙ slice_of front n.sentence rest span.from span.to from to)) cut.fit;
      },
      left,
      (front ++ n.sentence, behind),
    )

each_span : (whole before text : List ℕ) (spans : List Span) → whole ≡ before ++ text → IsUtf8 text → IsSplit (length whole) text spans → AllByRecursion (IsSpanOf whole) spans
each_span whole before text [] e utf8 h = tt
each_span whole before text (span ∷ spans) e utf8 h =
    let one = one_span whole before text span h.0 e utf8 h.1 in
    (one.0, each_span whole one.2.0 h.0 spans one.2.1 one.1 h.2)

-- each sentence of a text
pub spans_of : (text : List ℕ) (spans : List Span) → IsUtf8 text → IsSplit (length text) text spans → All (IsSpanOf text) spans
spans_of text spans utf8 h = All-from_recursion (IsSpanOf text) spans (each_span text [] text spans refl utf8 h)
