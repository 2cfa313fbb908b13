use Rattle.std.proofs.Common.{◌≡◌, ℕ, [], refl, ap, sym, ◌∙◌, List, ◌∷◌}
use Rattle.std.proofs.lemmas.Result.{err_from_is_err_and}
use Rattle.coq_syntax.specs.declared.tree.Argument.{Argument}
use Rattle.coq_syntax.specs.declared.tree.Argument.TheVariants.{Positional, Given}
use Rattle.coq_syntax.specs.Trees.{NoArgument}
use Rattle.coq_syntax.specs.Nodes.{arguments_of}
use Rattle.vernac_parser.specs.Signs.{begins_atom}
use Rattle.vernac_parser.specs.Reads.{counted}
use Rattle.vernac_parser.specs.Parse.{standard, argument, with_argument}
use Rattle.vernac_parser.specs.Views.{within, argument_of}
use Rattle.vernac_parser.proofs.Taking.{Takes}
use Rattle.vernac_parser.proofs.LocalRules.{takes_argument, local_nested, identifier_nested}
use Rattle.vernac_parser.proofs.Turns.{onto, more, done, failed, smaller}
use Rattle.vernac_parser.proofs.grammar.Grammar.arguments.Goals as goal

takes : (limit : ℕ) → Takes begins_atom (argument standard (within limit))
takes limit = takes_argument standard (within limit) (local_nested standard limit) (identifier_nested standard limit)

all_arguments : (args : List Argument) → onto (λ d. with_argument (argument_of d)) args NoArgument ≡ arguments_of args
all_arguments [] = refl
all_arguments (Positional t ∷ args) = ap (with_argument (argument_of (Positional t))) (all_arguments args)
all_arguments (Given p w q t r ∷ args) = ap (with_argument (argument_of (Given p w q t r))) (all_arguments args)

pub returns-in_err-argument : goal.returns-in_err-argument
returns-in_err-argument g c =
    let p = err_from_is_err_and c.from_residual.result c.from_residual.ensures.1 in
    rw (p.1, p.2) (λ apart.
    ap counted (sym c.loop-arguments.invariant)
    ∙ failed argument_of begins_atom (argument standard (within c.args.self.now.limit)) with_argument NoArgument c.loop-arguments.arguments.items c.loop-arguments.tokens _ (ap begins_atom (sym c.sign.ensures) ∙ sym c.loop-arguments-test.ensures) (c.in_err-argument.ensures apart))

pub loop-arguments-smaller : goal.loop-arguments-smaller
loop-arguments-smaller g c =
    smaller argument_of begins_atom (argument standard (within c.args.self.now.limit)) with_argument NoArgument (takes _) _ c.loop-arguments.tokens _ (ap begins_atom (sym c.sign.ensures) ∙ sym c.loop-arguments-test.ensures) c.in_ok-argument.ensures

pub loop-arguments-preserved : goal.loop-arguments-preserved
loop-arguments-preserved g c =
    rw c.in_ok-push.ensures.items (more argument_of begins_atom (argument standard (within c.args.self.now.limit)) with_argument NoArgument (takes _) c.loop-arguments.arguments.items _ _ _ (ap begins_atom (sym c.sign.ensures) ∙ sym c.loop-arguments-test.ensures) c.in_ok-argument.ensures ∙ c.loop-arguments.invariant)

pub returns : goal.returns
returns g c =
    sym c.loop-arguments.invariant
    ∙ done argument_of begins_atom (argument standard (within c.args.self.now.limit)) with_argument NoArgument c.loop-arguments.arguments.items c.loop-arguments.tokens (ap begins_atom (sym c.sign.ensures) ∙ sym c.loop-arguments-test.ensures)
    ∙ rw (all_arguments c.loop-arguments.arguments.items)
