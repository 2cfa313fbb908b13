use Rattle.std.proofs.Common.{Ok, Err, subst, sym, ◌∙◌, ap}
use Rattle.base_core.specs.Status.{number_of}
use Rattle.batch_check.specs.Status.{IsStatus}
use Rattle.batch_check.proofs.Statuses.{result_status-known}
use Rattle.batch_check.proofs.endings.number.Goals as goal

pub returns-in-Ok-clause-known : goal.returns-in-Ok-clause-known
returns-in-Ok-clause-known c =
    subst IsStatus (sym (c.number.ensures ∙ ap number_of c.status.ensures)) (result_status-known (Ok c.in-Ok.ending))

pub returns-in-Err-clause-known : goal.returns-in-Err-clause-known
returns-in-Err-clause-known c =
    subst IsStatus (sym (c.number-in-Err.ensures ∙ ap number_of c.status-in-Err.ensures)) (result_status-known (Err c.in-Err.halt))
