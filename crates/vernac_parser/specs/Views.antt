-- What the code reads, as the parsers see it.
use Rattle.std.specs.Prelude.{ℕ}
use Rattle.coq_syntax.specs.declared.tree.Group.{Group}
use Rattle.coq_syntax.specs.declared.tree.Argument.{Argument}
use Rattle.coq_syntax.specs.declared.tree.Argument.TheVariants.{Positional, Given}
use Rattle.coq_syntax.specs.Trees.{Term}
use Rattle.vernac_parser.specs.declared.rule.Rule.{Rule}
use Rattle.vernac_parser.specs.Parser.{Parser}
use Rattle.vernac_parser.specs.Parse.{Checks, standard, nested}
use Rattle.vernac_parser.specs.Parse as parse

-- the nested rules, where so many more may nest
abbrev pub within : ℕ → Rule → Parser Term
within limit = nested standard limit

-- a rule with these
abbrev pub with_limit : {B : Type 0} → ℕ → (Checks → (Rule → Parser Term) → B) → B
with_limit limit rule = rule standard (within limit)

abbrev pub argument_of : Argument → parse.Argument
argument_of (Positional t) = parse.Plain t.value
argument_of (Given opening name assign value closing) = parse.Given opening name assign value.value closing

abbrev pub group_of : Group → parse.OneGroup
group_of g = record { opening = g.opening; names = g.names.items; colon = g.colon; ty = g.ty.value; closing = g.closing }
