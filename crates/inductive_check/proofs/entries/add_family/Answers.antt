use Rattle.std.proofs.Common.{[], ◌∷◌}
use Rattle.cic_rules.specs.Eliminators.{type_entry}
use Rattle.inductive_check.specs.Entries.{member_entries}
use Rattle.inductive_check.proofs.EntryLaws.{adds_more, adds_cut}
use Rattle.inductive_check.proofs.entries.add_family.Goals as goal

pub returns-in-Ok : goal.returns-in-Ok
returns-in-Ok c =
    adds_more tt c.add_members.result c.add_members.new.list c.add_type.new.list c.args.list.now
    (type_entry c.args.i.now.decl c.args.i.now.used ∷ []) (member_entries c.args.env.now c.args.i.now) c.in-Ok.ensures.added c.add_members.ensures

pub returns-in-Err : goal.returns-in-Err
returns-in-Err c =
    adds_cut c.in-Err.stop c.add_type.new.list c.add_type.new.list c.args.list.now
    (type_entry c.args.i.now.decl c.args.i.now.used ∷ []) (member_entries c.args.env.now c.args.i.now) c.in-Err.ensures.added
