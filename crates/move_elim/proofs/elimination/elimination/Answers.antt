use Rattle.move_elim.proofs.TermParts.{decl_scoped}
use Rattle.move_elim.proofs.elimination.elimination.Goals as goal

pub by_constructors-requires-clause-decl : goal.by_constructors-requires-clause-decl
by_constructors-requires-clause-decl c =
    decl_scoped c.args.env.now c.args.x.now.place c.in-Some.d.now c.inductive.ensures.environment c.in-Some.ensures.decl
