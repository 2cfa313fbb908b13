use Rattle.std.proofs.Common.{◌≡◌, length}
use Rattle.coq_syntax.specs.Trees.{NoArgument}
use Rattle.vernac_parser.specs.Signs.{begins_atom}
use Rattle.vernac_parser.specs.Parser.{repeated}
use Rattle.vernac_parser.specs.Parse.{standard, argument, arguments, with_argument}
use Rattle.vernac_parser.specs.Views.{within, argument_of}
use Rattle.vernac_parser.proofs.Turns.{behind}
use Rattle.vernac_parser.proofs.grammar.Grammar.arguments.Given as goal

abbrev pub invariant-loop-arguments : goal.invariant-loop-arguments
invariant-loop-arguments g l =
    behind (λ d. with_argument (argument_of d)) l.arguments.items (repeated begins_atom (argument standard (within l.self.limit)) with_argument NoArgument l.tokens) ≡ arguments standard (within l.self.limit) l.fn.tokens

abbrev pub decreases-loop-arguments : goal.decreases-loop-arguments
decreases-loop-arguments g l = length l.tokens
