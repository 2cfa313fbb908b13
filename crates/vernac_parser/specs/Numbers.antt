-- Which numbers are refused, by what they are written for.
use Rattle.std.specs.Prelude.{ℕ, Bool}
use Rattle.coq_syntax.specs.Limits.{too_great, no_level}
use Rattle.vernac_parser.specs.declared.number.NumberUse.{NumberUse}
use Rattle.vernac_parser.specs.declared.number.NumberUse.TheVariants.{Numeral, Level}
use Rattle.vernac_parser.specs.Parse.{standard}

abbrev pub is_out : NumberUse → ℕ → Bool
is_out Numeral n = standard.numeral n
is_out Level n = standard.level n

-- the refusal by its number
abbrev pub refusal : NumberUse → ℕ
refusal Numeral = too_great
refusal Level = no_level
