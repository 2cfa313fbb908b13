use Rattle.std.proofs.Common.{ap, length, arith}
use Rattle.inductive_check.proofs.TopLaws.{may_eliminate, sorts_of_checked, some_are_sorts}
use Rattle.inductive_check.proofs.EntryLaws.{too_many}
use Rattle.inductive_check.proofs.entries.eliminators.Goals as goal

pub add_family-requires-clause-ready : goal.add_family-requires-clause-ready
add_family-requires-clause-ready c = may_eliminate c.args.env.now c.args.i.now c.len-environment.ensures.environment c.requires

pub add_family-requires-clause-sorts : goal.add_family-requires-clause-sorts
add_family-requires-clause-sorts c = some_are_sorts c.args.i.now.sorts (sorts_of_checked c.args.env.now c.args.i.now c.requires)

pub returns-then-as_slice-clause-answer : goal.returns-then-as_slice-clause-answer
returns-then-as_slice-clause-answer c =
    let long = ap length c.as_slice.ensures in
    too_many c.args.env.now c.args.i.now (sorts_of_checked c.args.env.now c.args.i.now c.requires) (grind (arith, long, c.if-as_slice.true))
