use Rattle.std.proofs.Common.{rules}
use Rattle.term_print.proofs.SpineLaws.{not_too_large}
use Rattle.term_print.proofs.spine.spine.Goals as goal

pub unreachable-requires : goal.unreachable-requires
unreachable-requires c = not_too_large c.args.t.now (search rules) (search rules)
