-- The offset of a position by a cut of the text into lines, and the longest run.
use Rattle.std.proofs.Common.{◌≡◌, ℕ, zero, suc, ◌+◌, ◌-◌, ◌<◌, ◌≤◌, ◌⊎◌, inl, inr, Bool, cond, true, false, leb, ltb, List, [], ◌∷◌, ◌++◌, not, length, get_or, take, drop, refl, sym, ◌∙◌, ap, subst, arith}
use Rattle.std.specs.Str.{IsCharBoundary}
use Rattle.std.specs.List.{sum_by}
use Rattle.std.proofs.lemmas.List.Sums.{sum_by-cons}
use Rattle.std.proofs.lemmas.Bool.Decides.{nat_tests}
use Rattle.base_core.specs.declared.places.Position.{Position}
use Rattle.utf16_doc.specs.declared.encoding.Encoding.{Encoding}
use Rattle.utf16_doc.specs.Units.{units_of}
use Rattle.utf16_doc.specs.Lines.{begins_with_feed, ends_line, line_ends, is_line_break, content}
use Rattle.utf16_doc.specs.Positions.{line_start, run_length, offset_at}
use Rattle.utf16_doc.specs.Cuts.{Cut, Last, Line, text_of, HasNoBreak, IsEndMark, AreLines, offset_by, IsRun}
use Rattle.utf16_doc.proofs.Ascending.{Ascends, above, line_ends-ascend}
use Rattle.utf16_doc.proofs.Offsets.{lead}

-- ---- runs

module _ (encoding : Encoding) (b : ℕ) (rest : List ℕ) where
  ends_by : (t : Bool) (most : ℕ) → leb (units_of encoding b) most ≡ t → IsCharBoundary rest (run_length encoding (most - units_of encoding b) rest)
      → IsCharBoundary (b ∷ rest) (cond t (suc (run_length encoding (most - units_of encoding b) rest)) 0)
  ends_by true most h more = (omega (arith, more.0), λ lt. more.1 (omega arith))
  ends_by false most h more = (omega arith, λ lt low. lead encoding b most h low)

pub run_ends : (encoding : Encoding) (xs : List ℕ) (most : ℕ) → IsCharBoundary xs (run_length encoding most xs)
run_ends encoding [] most = (omega arith, λ lt. absurd (omega arith))
run_ends encoding (b ∷ rest) most = ends_by encoding b rest (leb (units_of encoding b) most) most refl (run_ends encoding rest (most - units_of encoding b))

module _ (encoding : Encoding) (b : ℕ) (rest : List ℕ) where
  fits_by : (t : Bool) (most n : ℕ) → leb (units_of encoding b) most ≡ t → sum_by (units_of encoding) (take n rest) ≤ most - units_of encoding b
      → sum_by (units_of encoding) (take (cond t (suc n) 0) (b ∷ rest)) ≤ most
  fits_by true most n h more =
      let small : units_of encoding b ≤ most = grind (arith, nat_tests) in
      omega (arith, more, sum_by-cons (units_of encoding) b (take n rest))
  fits_by false most n h more = omega arith

  long_by : (t : Bool) (most n m : ℕ) → leb (units_of encoding b) most ≡ t
      → ((k : ℕ) → n < k → k ≤ length rest → most - units_of encoding b < sum_by (units_of encoding) (take k rest))
      → cond t (suc n) 0 < m → m ≤ suc (length rest) → most < sum_by (units_of encoding) (take m (b ∷ rest))
  long_by t most n zero h more low high = absurd (omega arith)
  long_by true most n (suc m) h more low high =
      let small : units_of encoding b ≤ most = grind (arith, nat_tests) in
      omega (arith, more m (omega arith) (omega arith), sum_by-cons (units_of encoding) b (take m rest))
  long_by false most n (suc m) h more low high =
      let big : most < units_of encoding b = grind (arith, nat_tests) in
      omega (arith, sum_by-cons (units_of encoding) b (take m rest))

pub run_is : (encoding : Encoding) (most : ℕ) (xs : List ℕ) → IsRun encoding most xs (run_length encoding most xs)
run_is encoding most xs = record { within = (run_ends encoding xs most).0; fits = run_fits encoding most xs; longest = run_longest encoding most xs }
  where
    run_fits : (encoding : Encoding) (most : ℕ) (xs : List ℕ) → sum_by (units_of encoding) (take (run_length encoding most xs) xs) ≤ most
    run_fits encoding most [] = omega arith
    run_fits encoding most (b ∷ rest) = fits_by encoding b rest (leb (units_of encoding b) most) most (run_length encoding (most - units_of encoding b) rest) refl (run_fits encoding (most - units_of encoding b) rest)

    run_longest : (encoding : Encoding) (most : ℕ) (xs : List ℕ) (m : ℕ) → run_length encoding most xs < m → m ≤ length xs → most < sum_by (units_of encoding) (take m xs)
    run_longest encoding most [] m low high = absurd (omega arith)
    run_longest encoding most (b ∷ rest) m low high = long_by encoding b rest (leb (units_of encoding b) most) most (run_length encoding (most - units_of encoding b) rest) m refl (λ k. run_longest encoding (most - units_of encoding b) rest k) low high

-- ---- what a line is

not_end : (b : ℕ) (rest : List ℕ) → is_line_break b ≡ false → ends_line b rest ≡ false
not_end b rest h = grind (arith, nat_tests)

pass : (at b : ℕ) (rest : List ℕ) → is_line_break b ≡ false → line_ends at (b ∷ rest) ≡ line_ends (at + 1) rest
pass at b rest h = ap (λ t. cond t ((at + 1) ∷ line_ends (at + 1) rest) (line_ends (at + 1) rest)) (not_end b rest h)

no_ends : (at : ℕ) (xs : List ℕ) → HasNoBreak xs → line_ends at xs ≡ []
no_ends at [] h = refl
no_ends at (b ∷ rest) h = pass at b rest h.0 ∙ no_ends (at + 1) rest h.1

mark_end : (at : ℕ) (mark after : List ℕ) → IsEndMark mark after → line_ends at (mark ++ after) ≡ (at + length mark) ∷ line_ends (at + length mark) after
mark_end at mark after (inl is) =
    let two : at + 1 + 1 ≡ at + 2 = omega arith in
    subst (λ m. line_ends at (m ++ after) ≡ (at + length m) ∷ line_ends (at + length m) after) (sym is) (ap (λ n. n ∷ line_ends n after) two)
mark_end at mark after (inr (inl is)) = subst (λ m. line_ends at (m ++ after) ≡ (at + length m) ∷ line_ends (at + length m) after) (sym is) refl
mark_end at mark after (inr (inr is)) =
    let alone : ends_line 13 after ≡ true = ap not is.1 in
    subst (λ m. line_ends at (m ++ after) ≡ (at + length m) ∷ line_ends (at + length m) after) (sym is.0)
    (ap (λ t. cond t ((at + 1) ∷ line_ends (at + 1) after) (line_ends (at + 1) after)) alone)

one_end : (at : ℕ) (xs mark after : List ℕ) → HasNoBreak xs → IsEndMark mark after
    → line_ends at (xs ++ (mark ++ after)) ≡ (at + (length xs + length mark)) ∷ line_ends (at + (length xs + length mark)) after
one_end at [] mark after h is =
    let same : at + length mark ≡ at + (0 + length mark) = omega arith in
    mark_end at mark after is ∙ ap (λ n. n ∷ line_ends n after) same
one_end at (b ∷ xs) mark after h is =
    let same : at + 1 + (length xs + length mark) ≡ at + (suc (length xs) + length mark) = omega arith in
    pass at b (xs ++ (mark ++ after)) h.0 ∙ one_end (at + 1) xs mark after h.1 is ∙ ap (λ n. n ∷ line_ends n after) same

keep : (b : ℕ) (rest : List ℕ) → is_line_break b ≡ false → content (b ∷ rest) ≡ b ∷ content rest
keep b rest h = ap (λ t. cond t [] (b ∷ content rest)) h

content_alone : (xs : List ℕ) → HasNoBreak xs → content xs ≡ xs
content_alone [] h = refl
content_alone (b ∷ rest) h = keep b rest h.0 ∙ ap (λ r. b ∷ r) (content_alone rest h.1)

content_of : (xs mark after : List ℕ) → HasNoBreak xs → IsEndMark mark after → content (xs ++ (mark ++ after)) ≡ xs
content_of [] mark after h (inl is) = ap (λ m. content (m ++ after)) is
content_of [] mark after h (inr (inl is)) = ap (λ m. content (m ++ after)) is
content_of [] mark after h (inr (inr is)) = ap (λ m. content (m ++ after)) is.0
content_of (b ∷ xs) mark after h is = keep b (xs ++ (mark ++ after)) h.0 ∙ ap (λ r. b ∷ r) (content_of xs mark after h.1 is)

-- ---- the offset, where the text begins at another

abbrev by_ends : Encoding → ℕ → List ℕ → List ℕ → ℕ → ℕ → ℕ
by_ends encoding at text ends line most =
    cond (ltb (length ends) line) (at + length text) (get_or (at ∷ ends) line 0 + run_length encoding most (content (drop (get_or (at ∷ ends) line 0 - at) text)))

drop_both : (xs mark after : List ℕ) (n k : ℕ) → n ≡ length xs + length mark + k → drop n (xs ++ (mark ++ after)) ≡ drop k after
drop_both [] [] after n k e =
    let same : n ≡ k = omega (arith, e) in
    ap (λ m. drop m after) same
drop_both [] (m ∷ mark) after zero k e = absurd (omega (arith, e))
drop_both [] (m ∷ mark) after (suc n) k e = drop_both [] mark after n k (omega (arith, e))
drop_both (x ∷ xs) mark after zero k e = absurd (omega (arith, e))
drop_both (x ∷ xs) mark after (suc n) k e = drop_both xs mark after n k (omega (arith, e))

length_both : (xs mark after : List ℕ) → length (xs ++ (mark ++ after)) ≡ length xs + length mark + length after
length_both [] [] after = omega arith
length_both [] (m ∷ mark) after = let more = length_both [] mark after in omega (arith, more)
length_both (x ∷ xs) mark after = let more = length_both xs mark after in omega (arith, more)

from_low : (low : ℕ) (xs : List ℕ) (line : ℕ) → Ascends low xs → line ≤ length xs → low ≤ get_or (low ∷ xs) line 0
from_low low xs zero up h = omega arith
from_low low xs (suc k) up h = let more = above low xs k 0 up (omega arith) in omega (arith, more)

-- the lines behind the first
behind : (t : Bool) (encoding : Encoding) (at : ℕ) (xs mark after : List ℕ) (line most : ℕ)
    → ltb (length (line_ends (at + (length xs + length mark)) after)) line ≡ t
    → by_ends encoding at (xs ++ (mark ++ after)) ((at + (length xs + length mark)) ∷ line_ends (at + (length xs + length mark)) after) (suc line) most
    ≡ by_ends encoding (at + (length xs + length mark)) after (line_ends (at + (length xs + length mark)) after) line most
behind true encoding at xs mark after line most h =
    let start = at + (length xs + length mark) in
    let ends = line_ends start after in
    let past : ltb (length (start ∷ ends)) (suc line) ≡ true = grind (arith, nat_tests, h) in
    ap (λ t. cond t (at + length (xs ++ (mark ++ after))) (get_or (start ∷ ends) line 0 + run_length encoding most (content (drop (get_or (start ∷ ends) line 0 - at) (xs ++ (mark ++ after)))))) past
    ∙ omega (arith, length_both xs mark after)
    ∙ sym (ap (λ t. cond t (start + length after) (get_or (start ∷ ends) line 0 + run_length encoding most (content (drop (get_or (start ∷ ends) line 0 - start) after)))) h)
behind false encoding at xs mark after line most h =
    let start = at + (length xs + length mark) in
    let ends = line_ends start after in
    let within : ltb (length (start ∷ ends)) (suc line) ≡ false = grind (arith, nat_tests, h) in
    let few : line ≤ length ends = grind (arith, nat_tests, h) in
    let low : start ≤ get_or (start ∷ ends) line 0 = from_low start ends line (line_ends-ascend start after) few in
    let apart : get_or (start ∷ ends) line 0 - at ≡ length xs + length mark + (get_or (start ∷ ends) line 0 - start) = omega (arith, low) in
    ap (λ t. cond t (at + length (xs ++ (mark ++ after))) (get_or (start ∷ ends) line 0 + run_length encoding most (content (drop (get_or (start ∷ ends) line 0 - at) (xs ++ (mark ++ after)))))) within
    ∙ ap (λ ys. get_or (start ∷ ends) line 0 + run_length encoding most (content ys)) (drop_both xs mark after (get_or (start ∷ ends) line 0 - at) (get_or (start ∷ ends) line 0 - start) apart)
    ∙ sym (ap (λ t. cond t (start + length after) (get_or (start ∷ ends) line 0 + run_length encoding most (content (drop (get_or (start ∷ ends) line 0 - start) after)))) h)

first_line : (encoding : Encoding) (at : ℕ) (xs mark after : List ℕ) (most : ℕ) → HasNoBreak xs → IsEndMark mark after
    → by_ends encoding at (xs ++ (mark ++ after)) (line_ends at (xs ++ (mark ++ after))) 0 most ≡ at + run_length encoding most xs
first_line encoding at xs mark after most plain is =
    let ends = line_ends (at + (length xs + length mark)) after in
    let within : ltb (suc (length ends)) 0 ≡ false = grind (arith, nat_tests) in
    let first : at - at ≡ 0 = omega arith in
    ap (λ es. by_ends encoding at (xs ++ (mark ++ after)) es 0 most) (one_end at xs mark after plain is)
    ∙ ap (λ t. cond t (at + length (xs ++ (mark ++ after))) (at + run_length encoding most (content (drop (at - at) (xs ++ (mark ++ after)))))) within
    ∙ ap (λ n. at + run_length encoding most (content (drop n (xs ++ (mark ++ after))))) first
    ∙ ap (λ c. at + run_length encoding most c) (content_of xs mark after plain is)

from_cut : (encoding : Encoding) (at : ℕ) (cut : Cut) (line most : ℕ) → AreLines cut
    → by_ends encoding at (text_of cut) (line_ends at (text_of cut)) line most ≡ at + offset_by encoding cut line most
from_cut encoding at (Last xs) zero most h =
    let first : at - at ≡ 0 = omega arith in
    ap (λ ends. by_ends encoding at xs ends 0 most) (no_ends at xs h)
    ∙ ap (λ n. at + run_length encoding most (content (drop n xs))) first
    ∙ ap (λ c. at + run_length encoding most c) (content_alone xs h)
from_cut encoding at (Last xs) (suc line) most h =
    let past : ltb 0 (suc line) ≡ true = grind (arith, nat_tests) in
    ap (λ ends. by_ends encoding at xs ends (suc line) most) (no_ends at xs h)
    ∙ ap (λ t. cond t (at + length xs) (0 + run_length encoding most (content (drop (0 - at) xs)))) past
from_cut encoding at (Line xs mark others) zero most h = first_line encoding at xs mark (text_of others) most h.0 h.1
from_cut encoding at (Line xs mark others) (suc line) most h =
    let same : at + (length xs + length mark) + offset_by encoding others line most ≡ at + (length xs + (length mark + offset_by encoding others line most)) = omega arith in
    ap (λ ends. by_ends encoding at (xs ++ (mark ++ text_of others)) ends (suc line) most) (one_end at xs mark (text_of others) h.0 h.1)
    ∙ behind (ltb (length (line_ends (at + (length xs + length mark)) (text_of others))) line) encoding at xs mark (text_of others) line most refl
    ∙ from_cut encoding (at + (length xs + length mark)) others line most h.2
    ∙ same

at_zero : (encoding : Encoding) (text ends : List ℕ) (line most : ℕ)
    → cond (ltb (length ends) line) (length text) (get_or (0 ∷ ends) line 0 + run_length encoding most (content (drop (get_or (0 ∷ ends) line 0) text))) ≡ by_ends encoding 0 text ends line most
at_zero encoding text ends line most =
    let whole : length text ≡ 0 + length text = omega arith in
    let start : get_or (0 ∷ ends) line 0 ≡ get_or (0 ∷ ends) line 0 - 0 = omega arith in
    ap (λ n. cond (ltb (length ends) line) n (get_or (0 ∷ ends) line 0 + run_length encoding most (content (drop (get_or (0 ∷ ends) line 0) text)))) whole
    ∙ ap (λ n. cond (ltb (length ends) line) (0 + length text) (get_or (0 ∷ ends) line 0 + run_length encoding most (content (drop n text)))) start

pub offset_cut : (encoding : Encoding) (cut : Cut) (at : Position) → AreLines cut → offset_at encoding (text_of cut) at ≡ offset_by encoding cut at.line at.character
offset_cut encoding cut at h =
    let bare : 0 + offset_by encoding cut at.line at.character ≡ offset_by encoding cut at.line at.character = omega arith in
    at_zero encoding (text_of cut) (line_ends 0 (text_of cut)) at.line at.character ∙ from_cut encoding 0 cut at.line at.character h ∙ bare
