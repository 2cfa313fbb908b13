use Rattle.std.proofs.Common.{sym}
use Rattle.cic_rules.proofs.FamilyLaws.{checked_may_enter}
use Rattle.cic_kernel.proofs.declarations.induct.Goals as goal

pub with_inductive-requires : goal.with_inductive-requires
with_inductive-requires c =
    checked_may_enter c.args.env.now c.len-globals.ensures.environment c.in_ok-checked.checked c.in_ok-checked.ensures.checked c.in_ok-entries.entries
    (sym c.in_ok-entries.ensures.answer)
