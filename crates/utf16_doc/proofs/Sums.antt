-- Sums of units over parts of a text.
use Rattle.std.proofs.Common.{◌≡◌, ℕ, ◌+◌, ◌-◌, ◌*◌, ◌<◌, ◌≤◌, List, [], ◌∷◌, length, get_or, take, drop, length-take, sym, ◌∙◌, ap, arith}
use Rattle.std.specs.List.{sum_by, slice_range}
use Rattle.std.proofs.Math.Seq.{take-add}
use Rattle.std.proofs.lemmas.List.Sums.{sum_by-append, sum_by-cons, sum_by_more}
use Rattle.std.proofs.lemmas.Bool.Decides.{nat_tests}
use Rattle.utf16_doc.specs.declared.encoding.Encoding.{Encoding}
use Rattle.utf16_doc.specs.declared.encoding.Encoding.TheVariants.{Utf8, Utf16}
use Rattle.utf16_doc.specs.Units.{units_of, units_before}

-- what stands before an offset is what stands before an earlier one, and what stands between
pub units_between : (encoding : Encoding) (text : List ℕ) (from to : ℕ) → from ≤ to → units_before encoding text from + sum_by (units_of encoding) (slice_range text from to) ≡ units_before encoding text to
units_between encoding text from to h =
    let n : from + (to - from) ≡ to = omega arith in
    sym (ap (sum_by (units_of encoding)) (take-add from (to - from) text) ∙ sum_by-append (units_of encoding) (take from text) (take (to - from) (drop from text)))
    ∙ ap (units_before encoding text) n

pub units_of-le : (encoding : Encoding) (b : ℕ) → units_of encoding b ≤ 4
units_of-le Utf8 b = grind (arith, nat_tests)
units_of-le Utf16 b = grind (arith, nat_tests)

sum-le : (encoding : Encoding) (xs : List ℕ) → sum_by (units_of encoding) xs ≤ 4 * length xs
sum-le encoding [] = omega arith
sum-le encoding (x ∷ xs) = omega (arith, sum_by-cons (units_of encoding) x xs, units_of-le encoding x, sum-le encoding xs)

-- a byte counts at most four units
pub units_before-le : (encoding : Encoding) (text : List ℕ) (n : ℕ) → units_before encoding text n ≤ 4 * n
units_before-le encoding text n = omega (arith, sum-le encoding (take n text), length-take n text)
