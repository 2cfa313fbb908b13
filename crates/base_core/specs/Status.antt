-- Exit statuses.
use Rattle.std.specs.Prelude.{ℕ, Result, Ok, Err}
use Rattle.base_core.specs.declared.status.Status.{Status}
use Rattle.base_core.specs.declared.status.Status.TheVariants.{Done, LeftEarly, NoForm, LinkFailed, OutOfMemory, NotWritten, LinkEnded, FrameFault, Unclean, NotRead, TakenLimit, NotText}
use Rattle.base_core.specs.declared.writing.Halt.{Halt}
use Rattle.base_core.specs.declared.writing.Halt.TheVariants as halt

-- the number of each
abbrev pub number_of : Status → ℕ
number_of Done = 0
number_of LeftEarly = 1
number_of NoForm = 2
number_of LinkFailed = 3
number_of OutOfMemory = 4
number_of NotWritten = 5
number_of LinkEnded = 6
number_of FrameFault = 7
number_of Unclean = 8
number_of NotRead = 9
number_of TakenLimit = 10
number_of NotText = 11

-- the status of a run that is broken off
abbrev pub status_of_halt : Halt → Status
status_of_halt halt.NoMem = OutOfMemory
status_of_halt halt.SinkFailed = NotWritten
