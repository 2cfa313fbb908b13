-- A text that is given up once it is too long.
use Rattle.std.specs.Prelude.{ℕ, nat_lt, List, ◌++◌, length, codes, Option, Some, None, if◌then◌else◌}
use Rattle.base_core.specs.declared.limits.TheConstants.{PRINTED_BYTES_LIMIT}

-- what is written so far, with more behind it; none where that is too long
abbrev pub added : Option (List ℕ) → List ℕ → Option (List ℕ)
added None more = None
added (Some text) more = if nat_lt PRINTED_BYTES_LIMIT (length (text ++ more)) then None else Some (text ++ more)

-- what stands for a text that was given up
abbrev pub large : List ℕ
large = codes "<large>"

abbrev pub text_or_large : Option (List ℕ) → List ℕ
text_or_large None = large
text_or_large (Some text) = text
