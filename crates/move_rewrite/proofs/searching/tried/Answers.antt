use Rattle.std.proofs.Common.{rules}
use Rattle.move_rewrite.proofs.Subterms.{lowered_scoped}
use Rattle.move_rewrite.proofs.searching.tried.Goals as goal

pub matched-requires-clause-term : goal.matched-requires-clause-term
matched-requires-clause-term g c = lowered_scoped _ _ c.args.binders c.args.t.now _ (search rules) c.requires.term
