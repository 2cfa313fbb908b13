-- Exit statuses of a check.
use Rattle.std.specs.Prelude.{ℕ, Result, Ok, Err, [], ◌∷◌, Contains}
use Rattle.base_core.specs.declared.status.Status.{Status}
use Rattle.base_core.specs.declared.status.Status.TheVariants as status
use Rattle.base_core.specs.declared.writing.Halt.{Halt}
use Rattle.base_core.specs.Status.{number_of, status_of_halt}
use Rattle.batch_check.specs.declared.endings.Ending.{Ending}
use Rattle.batch_check.specs.declared.endings.Ending.TheVariants.{Clean, Unclean, NotRead, NotText}

-- the status of each ending
abbrev pub kind_of : Ending → Status
kind_of Clean = status.Done
kind_of Unclean = status.Unclean
kind_of NotRead = status.NotRead
kind_of NotText = status.NotText

-- its number
abbrev pub status_of : Ending → ℕ
status_of ending = number_of (kind_of ending)

-- the same of a check that may be broken off
abbrev pub result_status : Result Ending Halt → ℕ
result_status (Ok ending) = status_of ending
result_status (Err halt) = number_of (status_of_halt halt)

-- no other status is answered
abbrev pub IsStatus : ℕ → Type 0
IsStatus status = Contains (0 ∷ 4 ∷ 5 ∷ 8 ∷ 9 ∷ 11 ∷ []) status
