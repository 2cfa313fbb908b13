use Rattle.std.proofs.Common.{◌≡◌, [], length}
use Rattle.coq_syntax.specs.Forms.{constructor_of}
use Rattle.vernac_parser.specs.declared.sign.Sign.TheVariants.{Bar}
use Rattle.vernac_parser.specs.Signs.{is_sign}
use Rattle.vernac_parser.specs.Parser.{repeated}
use Rattle.vernac_parser.specs.Parse.{standard}
use Rattle.vernac_parser.specs.ParseCommand.{barred, constructors, with_constructor}
use Rattle.vernac_parser.specs.Views.{within}
use Rattle.vernac_parser.proofs.Turns.{behind}
use Rattle.vernac_parser.proofs.grammar.Grammar.constructors.Given as goal

abbrev pub invariant-loop-constructors : goal.invariant-loop-constructors
invariant-loop-constructors g l =
    behind (λ d. with_constructor (constructor_of d)) l.constructors.items (repeated (λ s. is_sign s Bar) (barred standard (within l.self.limit)) with_constructor [] l.tokens) ≡ constructors standard (within l.self.limit) l.fn.tokens

abbrev pub decreases-loop-constructors : goal.decreases-loop-constructors
decreases-loop-constructors g l = length l.tokens
