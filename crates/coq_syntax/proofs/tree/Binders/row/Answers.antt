use Rattle.std.proofs.Common.{ap, rules}
use Rattle.coq_syntax.specs.Nodes.{binders_of}
use Rattle.coq_syntax.specs.BinderRows.{binder_rows}
use Rattle.coq_syntax.proofs.Rows.{row_within, row_is}
use Rattle.coq_syntax.proofs.tree.Binders.row.Goals as goal

pub bounds-as_slice-index : goal.bounds-as_slice-index
bounds-as_slice-index c =
    row_within (binder_rows (binders_of c.args.self.now)) c.in-Groups.groups.items _ (ap (λ b. binder_rows (binders_of b)) c.in-Groups.is) c.as_slice-in-Groups.ensures.value c.args.index c.requires

pub returns-in-Groups : goal.returns-in-Groups
returns-in-Groups c =
    row_is (binder_rows (binders_of c.args.self.now)) c.in-Groups.groups.items _ (ap (λ b. binder_rows (binders_of b)) c.in-Groups.is) c.as_slice-in-Groups.ensures.value c.args.index c.index-as_slice-index.result _ _ c.requires
    c.index-as_slice-index.is c.group_row.ensures.names c.group_row.ensures.ty

pub offset_bounds-as_slice-index : goal.offset_bounds-as_slice-index
offset_bounds-as_slice-index c =
    let within = row_within (binder_rows (binders_of c.args.self.now)) c.in-Groups.groups.items _ (ap (λ b. binder_rows (binders_of b)) c.in-Groups.is) c.as_slice-in-Groups.ensures.value c.args.index c.requires in
    search (rules, within)
