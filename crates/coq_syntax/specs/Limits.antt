-- The numbers that the grammar and its refusals name.
use Rattle.std.specs.Prelude.{ℕ}
use Rattle.base_core.specs.declared.limits.TheConstants.{SYNTAX_NESTING_LIMIT, NUMERAL_LIMIT, LEVEL_LIMIT}
use Rattle.base_core.specs.declared.refusal_codes.TheConstants as code

-- the level of an open form
abbrev pub open_level : ℕ
open_level = 200

-- so many rules may nest
abbrev pub most_nested : ℕ
most_nested = SYNTAX_NESTING_LIMIT

-- the greatest numeral in a term
abbrev pub greatest_numeral : ℕ
greatest_numeral = NUMERAL_LIMIT

-- the greatest level of `Type@{n}`; the least is 1
abbrev pub greatest_level : ℕ
greatest_level = LEVEL_LIMIT

-- the refusals by their numbers: rules nested too deep, too great a numeral, a level that is none
abbrev pub too_deep : ℕ
too_deep = code.NESTED_TOO_DEEP

abbrev pub too_great : ℕ
too_great = code.NUMERAL_TOO_GREAT

abbrev pub no_level : ℕ
no_level = code.NO_LEVEL
