-- A position, by the parts that the code finds.
use Rattle.std.proofs.Common.{◌≡◌, ℕ, ◌-◌, ◌≤◌, leb, List, ◌∷◌, get_or, sym, ◌∙◌, ap, subst, arith}
use Rattle.std.specs.List.{count_by, sum_by, slice_range}
use Rattle.base_core.specs.declared.places.Position.{Position}
use Rattle.utf16_doc.specs.declared.encoding.Encoding.{Encoding}
use Rattle.utf16_doc.specs.Lines.{line_ends}
use Rattle.utf16_doc.specs.Units.{units_of, units_before}
use Rattle.utf16_doc.specs.Positions.{line_at, line_start, position_at}
use Rattle.utf16_doc.proofs.Ascending.{line_start-le}
use Rattle.utf16_doc.proofs.Sums.{units_between}

line_is : (text ends : List ℕ) (offset line : ℕ) → ends ≡ line_ends 0 text → line ≡ count_by (λ end. leb end offset) ends → line ≡ line_at text offset
line_is text ends offset line lines count = count ∙ ap (count_by (λ end. leb end offset)) lines

start_is : (text ends : List ℕ) (offset line start : ℕ) → ends ≡ line_ends 0 text → line ≡ count_by (λ end. leb end offset) ends → start ≡ get_or (0 ∷ ends) line 0 → start ≡ line_start text (line_at text offset)
start_is text ends offset line start lines count is =
    is ∙ ap (λ es. get_or (0 ∷ es) line 0) lines ∙ ap (line_start text) (line_is text ends offset line lines count)

pub start_within : (text ends : List ℕ) (offset line start : ℕ) → ends ≡ line_ends 0 text → line ≡ count_by (λ end. leb end offset) ends → start ≡ get_or (0 ∷ ends) line 0 → start ≤ offset
start_within text ends offset line start lines count is =
    subst (λ s. s ≤ offset) (sym (start_is text ends offset line start lines count is)) (line_start-le text offset)

pub position_is : (encoding : Encoding) (text ends : List ℕ) (offset line start upto before : ℕ) → ends ≡ line_ends 0 text → line ≡ count_by (λ end. leb end offset) ends → start ≡ get_or (0 ∷ ends) line 0 → upto ≡ units_before encoding text offset → before ≡ units_before encoding text start → record { line = line; character = upto - before } ≡ position_at encoding text offset
position_is encoding text ends offset line start upto before lines count is all first =
    let within : start ≤ offset = start_within text ends offset line start lines count is in
    let units : upto - before ≡ sum_by (units_of encoding) (slice_range text start offset) = omega (arith, units_between encoding text start offset within, all, first) in
    let units_at : upto - before ≡ sum_by (units_of encoding) (slice_range text (line_start text (line_at text offset)) offset) =
    units ∙ ap (λ s. sum_by (units_of encoding) (slice_range text s offset)) (start_is text ends offset line start lines count is) in
    let joined : (l m u v : ℕ) → l ≡ m → u ≡ v → ◌≡◌ {A = Position} (record { line = l; character = u }) (record { line = m; character = v }) = λ l m u v p q. cc in
    joined _ _ _ _ (line_is text ends offset line lines count) units_at
