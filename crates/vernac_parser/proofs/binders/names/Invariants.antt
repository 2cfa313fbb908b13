use Rattle.std.proofs.Common.{◌≡◌, length, []}
use Rattle.vernac_parser.specs.Parser.{repeated}
use Rattle.vernac_parser.specs.Parse.{names, binder_name, is_name, with_name}
use Rattle.vernac_parser.proofs.Turns.{behind}
use Rattle.vernac_parser.proofs.binders.names.Given as goal

abbrev pub invariant-loop-alloc : goal.invariant-loop-alloc
invariant-loop-alloc l = behind (λ n. with_name n) l.names.items (repeated is_name binder_name with_name [] l.tokens) ≡ names l.fn.tokens

abbrev pub decreases-loop-alloc : goal.decreases-loop-alloc
decreases-loop-alloc l = length l.tokens
