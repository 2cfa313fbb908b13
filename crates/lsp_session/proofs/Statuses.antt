-- A session answers no other status.
use Rattle.std.proofs.Common.{Result, Ok, Err, refl, lit<}
use Rattle.sched_core.specs.declared.events.Exit.TheVariants.{Clean, Early}
use Rattle.lsp_session.specs.declared.endings.Ending.{Ending}
use Rattle.lsp_session.specs.declared.endings.Ending.TheVariants.{Exit, LinkFailed, LinkEnded, FrameFault, TakenLimit}
use Rattle.base_core.specs.declared.writing.Halt.{Halt}
use Rattle.base_core.specs.declared.writing.Halt.TheVariants.{NoMem, SinkFailed}
use Rattle.lsp_session.specs.Status.{result_status, IsStatus}

pub result_status-known : (result : Result Ending Halt) → IsStatus (result_status result)
result_status-known (Ok (Exit Clean)) = (0, lit< tt, refl)
result_status-known (Ok (Exit Early)) = (1, lit< tt, refl)
result_status-known (Ok LinkFailed) = (2, lit< tt, refl)
result_status-known (Err NoMem) = (3, lit< tt, refl)
result_status-known (Err SinkFailed) = (4, lit< tt, refl)
result_status-known (Ok LinkEnded) = (5, lit< tt, refl)
result_status-known (Ok FrameFault) = (6, lit< tt, refl)
result_status-known (Ok TakenLimit) = (7, lit< tt, refl)
