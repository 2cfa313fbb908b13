use Rattle.std.proofs.Common.{◌≡◌, length}
use Rattle.coq_syntax.specs.Spelled.{names}
use Rattle.move_parser.proofs.cursor.Cursor.names.Given as goal

abbrev pub invariant-loop-names : goal.invariant-loop-names
invariant-loop-names l = l.fn.self ≡ names l.names.items l.self

abbrev pub decreases-loop-names : goal.decreases-loop-names
decreases-loop-names l = length l.self
