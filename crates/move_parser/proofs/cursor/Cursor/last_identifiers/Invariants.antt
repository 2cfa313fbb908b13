use Rattle.std.proofs.Common.{◌≡◌, ◌++◌, length}
use Rattle.coq_syntax.specs.Moves.{identifiers}
use Rattle.move_parser.proofs.cursor.Cursor.last_identifiers.Given as goal

abbrev pub invariant-loop-words : goal.invariant-loop-words
invariant-loop-words l = l.fn.self ≡ identifiers l.words.items ++ l.self

abbrev pub decreases-loop-words : goal.decreases-loop-words
decreases-loop-words l = length l.self
