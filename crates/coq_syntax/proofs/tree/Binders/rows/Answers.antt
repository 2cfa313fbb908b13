use Rattle.std.proofs.Common.{sym, ◌∙◌, ap, length}
use Rattle.coq_syntax.specs.Nodes.{binders_of}
use Rattle.coq_syntax.specs.BinderRows.{binder_rows}
use Rattle.coq_syntax.proofs.Rows.{row_count}
use Rattle.coq_syntax.proofs.tree.Binders.rows.Goals as goal

pub returns-in-Groups : goal.returns-in-Groups
returns-in-Groups c =
    ap length c.as_slice.ensures.value ∙ sym (row_count c.in-Groups.groups.items) ∙ sym (ap (λ b. length (binder_rows (binders_of b))) c.in-Groups.is)
