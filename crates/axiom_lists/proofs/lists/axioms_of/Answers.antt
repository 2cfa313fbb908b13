use Rattle.std.proofs.Common.{rules}
use Rattle.axiom_lists.proofs.BroughtLaws.{axioms_shown}
use Rattle.axiom_lists.proofs.lists.axioms_of.Goals as goal

pub returns-clause-places : goal.returns-clause-places
returns-clause-places c =
    axioms_shown c.args.env.now c.len.ensures.environment c.args.lists.now c.args.place c.index-lists-place.result c.as_slice.result.now c.requires
    (search rules) c.index-lists-place.is c.as_slice.ensures.places
