-- The offset of a position, by the parts that the code finds: it stands between characters of the text.
use Rattle.std.proofs.Common.{◌≡◌, ℕ, zero, suc, ◌+◌, ◌-◌, ◌<◌, ◌≤◌, Bool, cond, true, false, leb, ltb, List, [], ◌∷◌, length, get_or, take, drop, length-drop, refl, sym, ◌∙◌, ap, subst, arith}
use Rattle.std.specs.Str.{IsCharBoundary}
use Rattle.std.proofs.lemmas.Str.{IsCharBoundary-end, IsCharBoundary-from_rest}
use Rattle.std.proofs.lemmas.Bool.Decides.{nat_tests}
use Rattle.std.proofs.lemmas.Grind.{common_steps}
use Rattle.base_core.specs.declared.places.Position.{Position}
use Rattle.utf16_doc.specs.declared.encoding.Encoding.{Encoding}
use Rattle.utf16_doc.specs.declared.encoding.Encoding.TheVariants.{Utf8, Utf16}
use Rattle.utf16_doc.specs.Units.{units_of}
use Rattle.utf16_doc.specs.Lines.{ends_line, line_ends, is_line_break, content}
use Rattle.utf16_doc.specs.Positions.{line_start, run_length, offset_at}

-- ---- lines start within the text

ends_from : (t : Bool) (at n : ℕ) (xs : List ℕ) → ((k : ℕ) → k < length xs → get_or xs k 0 ≤ at + 1 + n)
    → (k : ℕ) → k < length (cond t ((at + 1) ∷ xs) xs) → get_or (cond t ((at + 1) ∷ xs) xs) k 0 ≤ at + suc n
ends_from true at n xs h zero lt = omega arith
ends_from true at n xs h (suc k) lt = omega (arith, h k (omega arith))
ends_from false at n xs h k lt = omega (arith, h k lt)

ends_within : (at : ℕ) (text : List ℕ) (k : ℕ) → k < length (line_ends at text) → get_or (line_ends at text) k 0 ≤ at + length text
ends_within at [] k lt = absurd (omega arith)
ends_within at (b ∷ rest) k lt = ends_from (ends_line b rest) at (length rest) (line_ends (at + 1) rest) (ends_within (at + 1) rest) k lt

starts_within : (text : List ℕ) (line : ℕ) → line ≤ length (line_ends 0 text) → line_start text line ≤ length text
starts_within text zero h = omega arith
starts_within text (suc line) h = omega (arith, ends_within 0 text line (omega arith))

pub line_start-within : (text ends : List ℕ) (line start : ℕ) → ends ≡ line_ends 0 text → line ≤ length ends → start ≡ get_or (0 ∷ ends) line 0 → start ≤ length text
line_start-within text ends line start lines h is =
    let within : line_start text line ≤ length text = starts_within text line (subst (λ es. line ≤ length es) lines h) in
    subst (λ s. s ≤ length text) (sym (is ∙ ap (λ es. get_or (0 ∷ es) line 0) lines)) within

-- ---- a run of whole characters ends where a character begins, or the line

-- a character that has units begins with its first byte
pub lead : (encoding : Encoding) (b most : ℕ) → leb (units_of encoding b) most ≡ false → 128 ≤ b → 192 ≤ b
lead Utf8 b most h low = grind (arith, nat_tests)
lead Utf16 b most h low = grind (arith, nat_tests)

break_is_ascii : (b : ℕ) → is_line_break b ≡ true → 128 ≤ b → 192 ≤ b
break_is_ascii b h low = grind (arith, nat_tests)

module _ (encoding : Encoding) (b : ℕ) (rest : List ℕ) (ih : (most : ℕ) → IsCharBoundary rest (run_length encoding most (content rest))) where
  by_fit : (t : Bool) (most : ℕ) → leb (units_of encoding b) most ≡ t
      → IsCharBoundary (b ∷ rest) (cond t (suc (run_length encoding (most - units_of encoding b) (content rest))) 0)
  by_fit true most h = let more = ih (most - units_of encoding b) in (omega (arith, more.0), λ lt. more.1 (omega arith))
  by_fit false most h = (omega arith, λ lt low. lead encoding b most h low)

  by_break : (t : Bool) (most : ℕ) → is_line_break b ≡ t → IsCharBoundary (b ∷ rest) (run_length encoding most (cond t [] (b ∷ content rest)))
  by_break true most h = (omega arith, λ lt low. break_is_ascii b h low)
  by_break false most h = by_fit (leb (units_of encoding b) most) most refl

pub run-boundary : (encoding : Encoding) (text : List ℕ) (most : ℕ) → IsCharBoundary text (run_length encoding most (content text))
run-boundary encoding [] most = (omega arith, λ lt. absurd (omega arith))
run-boundary encoding (b ∷ rest) most = by_break encoding b rest (λ m. run-boundary encoding rest m) (is_line_break b) most refl

-- ---- the offset

-- the rest of a text, as the code slices it
pub shown_rest : (text : List ℕ) (start : ℕ) → take (length text - start) (drop start text) ≡ drop start text
shown_rest text start = grind (arith, common_steps)

in_line : (encoding : Encoding) (text : List ℕ) (start most : ℕ) → start ≤ length text
    → IsCharBoundary text (start + run_length encoding most (content (drop start text)))
in_line encoding text start most h = IsCharBoundary-from_rest text start _ h (run-boundary encoding (drop start text) most)

by_line : (t : Bool) (encoding : Encoding) (text : List ℕ) (at : Position) → ltb (length (line_ends 0 text)) at.line ≡ t
    → IsCharBoundary text (cond t (length text) (line_start text at.line + run_length encoding at.character (content (drop (line_start text at.line) text))))
by_line true encoding text at h = IsCharBoundary-end text
by_line false encoding text at h = in_line encoding text (line_start text at.line) at.character (starts_within text at.line (grind (arith, nat_tests)))

pub offset-boundary : (encoding : Encoding) (text : List ℕ) (at : Position) → IsCharBoundary text (offset_at encoding text at)
offset-boundary encoding text at = by_line (ltb (length (line_ends 0 text)) at.line) encoding text at refl

pub offset_within : (encoding : Encoding) (text : List ℕ) (at : Position) → offset_at encoding text at ≤ length text
offset_within encoding text at = (offset-boundary encoding text at).0

pub offset_is : (encoding : Encoding) (text ends : List ℕ) (at : Position) (start run : ℕ) → ends ≡ line_ends 0 text → at.line ≤ length ends
    → start ≡ get_or (0 ∷ ends) at.line 0 → run ≡ run_length encoding at.character (content (drop start text)) → start + run ≡ offset_at encoding text at
offset_is encoding text ends at start run lines h is ran =
    let few : ltb (length (line_ends 0 text)) at.line ≡ false = subst (λ es. ltb (length es) at.line ≡ false) lines (grind (arith, nat_tests)) in
    let here : start ≡ line_start text at.line = is ∙ ap (λ es. get_or (0 ∷ es) at.line 0) lines in
    ap (λ r. start + r) ran ∙ ap (λ s. s + run_length encoding at.character (content (drop s text))) here
    ∙ sym (ap (λ t. cond t (length text) (line_start text at.line + run_length encoding at.character (content (drop (line_start text at.line) text)))) few)

pub offset_past : (encoding : Encoding) (text ends : List ℕ) (at : Position) → ends ≡ line_ends 0 text → length ends < at.line → length text ≡ offset_at encoding text at
offset_past encoding text ends at lines h =
    let many : ltb (length (line_ends 0 text)) at.line ≡ true = subst (λ es. ltb (length es) at.line ≡ true) lines (grind (arith, nat_tests)) in
    sym (ap (λ t. cond t (length text) (line_start text at.line + run_length encoding at.character (content (drop (line_start text at.line) text)))) many)
