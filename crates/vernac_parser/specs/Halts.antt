-- What the code of the rules answers, as it is told to callers.
use Rattle.std.specs.Prelude.{ℕ, ◌-◌, ◌≤◌, drop, length}
use Rattle.base_core.specs.declared.refusals.Stop.{Stop}
use Rattle.base_core.specs.declared.refusals.Stop.TheVariants.{Refused, NoMem}
use Rattle.coq_syntax.specs.Tokens.{Tokens}
use Rattle.vernac_parser.specs.declared.cursor.Halt.{Halt}
use Rattle.vernac_parser.specs.declared.cursor.Halt.TheVariants as halt
use Rattle.coq_syntax.specs.Answers.{next_place}

-- so many tokens of the list are left where it halted
abbrev pub IsWithin : Halt → ℕ → Type 0
IsWithin (halt.Refused code left) count = left ≤ count
IsWithin halt.NoMem count = Unit {0}

abbrev pub stop_of : Tokens → Halt → Stop
stop_of tokens (halt.Refused code left) = Refused (record { code = code; place = next_place tokens.period (drop (length tokens.items - left) tokens.items) })
stop_of tokens halt.NoMem = NoMem
