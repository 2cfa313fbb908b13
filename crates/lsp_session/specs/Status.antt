-- Exit statuses of a session.
use Rattle.std.specs.Prelude.{ℕ, Result, Ok, Err, [], ◌∷◌, Contains}
use Rattle.base_core.specs.declared.status.Status.{Status}
use Rattle.base_core.specs.declared.status.Status.TheVariants as status
use Rattle.base_core.specs.declared.writing.Halt.{Halt}
use Rattle.base_core.specs.Status.{number_of, status_of_halt}
use Rattle.sched_core.specs.declared.events.Exit.TheVariants.{Clean, Early}
use Rattle.lsp_session.specs.declared.endings.Ending.{Ending}
use Rattle.lsp_session.specs.declared.endings.Ending.TheVariants.{Exit, LinkFailed, LinkEnded, FrameFault, TakenLimit}

-- the status of each ending
abbrev pub kind_of : Ending → Status
kind_of (Exit Clean) = status.Done
kind_of (Exit Early) = status.LeftEarly
kind_of LinkFailed = status.LinkFailed
kind_of LinkEnded = status.LinkEnded
kind_of FrameFault = status.FrameFault
kind_of TakenLimit = status.TakenLimit

-- its number
abbrev pub status_of : Ending → ℕ
status_of ending = number_of (kind_of ending)

-- the same of a session that may be broken off
abbrev pub result_status : Result Ending Halt → ℕ
result_status (Ok ending) = status_of ending
result_status (Err halt) = number_of (status_of_halt halt)

-- no other status is answered
abbrev pub IsStatus : ℕ → Type 0
IsStatus status = Contains (0 ∷ 1 ∷ 3 ∷ 4 ∷ 5 ∷ 6 ∷ 7 ∷ 10 ∷ []) status
