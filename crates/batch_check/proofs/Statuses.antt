-- A run answers no other status.
use Rattle.std.proofs.Common.{Result, Ok, Err, refl, lit<}
use Rattle.batch_check.specs.declared.endings.Ending.{Ending}
use Rattle.batch_check.specs.declared.endings.Ending.TheVariants.{Clean, Unclean, NotRead, NotText}
use Rattle.base_core.specs.declared.writing.Halt.{Halt}
use Rattle.base_core.specs.declared.writing.Halt.TheVariants.{NoMem, SinkFailed}
use Rattle.batch_check.specs.Status.{result_status, IsStatus}

pub result_status-known : (result : Result Ending Halt) → IsStatus (result_status result)
result_status-known (Ok Clean) = (0, lit< tt, refl)
result_status-known (Err NoMem) = (1, lit< tt, refl)
result_status-known (Err SinkFailed) = (2, lit< tt, refl)
result_status-known (Ok Unclean) = (3, lit< tt, refl)
result_status-known (Ok NotRead) = (4, lit< tt, refl)
result_status-known (Ok NotText) = (5, lit< tt, refl)
