use Rattle.std.proofs.Common.{◌≡◌, length}
use Rattle.coq_syntax.specs.Spelled.{name}
use Rattle.coq_syntax.specs.Moves.{cases}
use Rattle.coq_syntax.specs.Forms.{cases_of}
use Rattle.move_parser.specs.Reading.{NoneNext}
use Rattle.move_parser.proofs.cursor.Cursor.cases.Given as goal

abbrev pub invariant-loop-bar : goal.invariant-loop-bar
invariant-loop-bar l = record {
  read : l.fn.self ≡ cases (cases_of l.cases.items) l.self;
  nameless : NoneNext name l.fn.self → NoneNext name l.self;
}

abbrev pub decreases-loop-bar : goal.decreases-loop-bar
decreases-loop-bar l = length l.self
