use Rattle.std.proofs.Common.{rules}
use Rattle.move_basic.proofs.Arguments.{unset_pattern}
use Rattle.move_rewrite.proofs.searching.matched.Goals as goal

pub matches-requires-clause-pattern : goal.matches-requires-clause-pattern
matches-requires-clause-pattern g c = unset_pattern _ _ c.args.count _ _ (search rules) c.requires.pattern
