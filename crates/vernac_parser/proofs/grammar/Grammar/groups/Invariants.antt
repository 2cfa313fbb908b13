use Rattle.std.proofs.Common.{◌≡◌, length}
use Rattle.coq_syntax.specs.Trees.{NoGroup}
use Rattle.vernac_parser.specs.declared.sign.Sign.TheVariants.{Open}
use Rattle.vernac_parser.specs.Signs.{is_sign}
use Rattle.vernac_parser.specs.Parser.{repeated}
use Rattle.vernac_parser.specs.Parse.{standard, group, groups, with_group}
use Rattle.vernac_parser.specs.Views.{within, group_of}
use Rattle.vernac_parser.proofs.Turns.{behind}
use Rattle.vernac_parser.proofs.grammar.Grammar.groups.Given as goal

abbrev pub invariant-loop-groups : goal.invariant-loop-groups
invariant-loop-groups g l =
    behind (λ d. with_group (group_of d)) l.groups.items (repeated (λ s. is_sign s Open) (group standard (within l.self.limit)) with_group NoGroup l.tokens) ≡ groups standard (within l.self.limit) l.fn.tokens

abbrev pub decreases-loop-groups : goal.decreases-loop-groups
decreases-loop-groups g l = length l.tokens
