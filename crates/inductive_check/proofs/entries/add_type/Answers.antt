use Rattle.inductive_check.specs.Entries.{HasFew}
use Rattle.inductive_check.proofs.EntryLaws.{few_of, on_any}
use Rattle.inductive_check.proofs.entries.add_type.Goals as goal

pub returns-clause-few : goal.returns-clause-few
returns-clause-few c = on_any (HasFew c.args.i.now.decl) c.add.result (few_of c.args.i.now.decl c.in_ok-ty.ty c.in_ok-ty.ensures c.requires)
