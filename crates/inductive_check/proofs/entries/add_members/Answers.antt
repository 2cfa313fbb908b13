use Rattle.std.proofs.Common.{◌++◌, Ok, Err, subst}
use Rattle.cic_rules.specs.Eliminators.{ctor_entries, eliminator_entries}
use Rattle.inductive_check.specs.Labels.{with_type}
use Rattle.inductive_check.specs.Entries.{Adds}
use Rattle.inductive_check.proofs.EntryLaws.{adds_more, adds_cut}
use Rattle.inductive_check.proofs.entries.add_members.Goals as goal

pub returns-in-Ok : goal.returns-in-Ok
returns-in-Ok c =
    subst (λ k. Adds c.add_eliminators.result c.add_eliminators.new.list c.args.list.now
    (ctor_entries k c.args.i.now.decl 0 c.args.i.now.decl.ctors ++ eliminator_entries (with_type c.args.env.now c.args.i.now) k c.args.i.now.decl c.args.i.now.sorts))
    c.requires.ready.place
    (adds_more tt c.add_eliminators.result c.add_eliminators.new.list c.add_ctors.new.list c.args.list.now
    (ctor_entries c.args.i.now.place c.args.i.now.decl 0 c.args.i.now.decl.ctors)
    (eliminator_entries (with_type c.args.env.now c.args.i.now) c.args.i.now.place c.args.i.now.decl c.args.i.now.sorts)
    (subst (λ cs. Adds (Ok tt) c.add_ctors.new.list c.args.list.now (ctor_entries c.args.i.now.place c.args.i.now.decl 0 cs)) c.as_slice.ensures c.in-Ok.ensures)
    (subst (λ ss. Adds c.add_eliminators.result c.add_eliminators.new.list c.add_ctors.new.list
    (eliminator_entries (with_type c.args.env.now c.args.i.now) c.args.i.now.place c.args.i.now.decl ss)) c.as_slice-in-Ok.ensures c.add_eliminators.ensures))

pub returns-in-Err : goal.returns-in-Err
returns-in-Err c =
    subst (λ k. Adds (Err c.in-Err.stop) c.add_ctors.new.list c.args.list.now
    (ctor_entries k c.args.i.now.decl 0 c.args.i.now.decl.ctors ++ eliminator_entries (with_type c.args.env.now c.args.i.now) k c.args.i.now.decl c.args.i.now.sorts))
    c.requires.ready.place
    (adds_cut c.in-Err.stop c.add_ctors.new.list c.add_ctors.new.list c.args.list.now
    (ctor_entries c.args.i.now.place c.args.i.now.decl 0 c.args.i.now.decl.ctors)
    (eliminator_entries (with_type c.args.env.now c.args.i.now) c.args.i.now.place c.args.i.now.decl c.args.i.now.sorts)
    (subst (λ cs. Adds (Err c.in-Err.stop) c.add_ctors.new.list c.args.list.now (ctor_entries c.args.i.now.place c.args.i.now.decl 0 cs)) c.as_slice.ensures c.in-Err.ensures))
