use Rattle.std.proofs.Common.{◌≡◌, ◌==◌, true, false, vec_len, List, [], ◌∷◌, length, refl, arith}
use Rattle.coq_syntax.specs.declared.tree.Argument.{Argument}
use Rattle.coq_syntax.specs.declared.tree.Argument.TheVariants.{Positional, Given}
use Rattle.coq_syntax.specs.Trees.{Term, Apply}
use Rattle.coq_syntax.specs.Nodes.{arguments_of}
use Rattle.vernac_parser.specs.Parse.{applied, application}
use Rattle.vernac_parser.proofs.grammar.Grammar.application.Goals as goal

alone : (head : Term) (args : List Argument) → length args ≡ 0 → applied head (arguments_of args) ≡ head
alone head [] e = refl
alone head (a ∷ args) e = absurd (omega arith)

with_others : (head : Term) (args : List Argument) → (length args ≡ 0 → ⊥) → applied head (arguments_of args) ≡ Apply head (arguments_of args)
with_others head [] e = absurd (e refl)
with_others head (Positional t ∷ args) e = refl
with_others head (Given p w q t r ∷ args) e = refl

pub returns : goal.returns
unfolding application
returns g c =
    let test : false ≡ (vec_len c.in_ok-arguments.arguments == 0) = c.if-is_empty.ensures in
    let some : length c.in_ok-arguments.arguments.items ≡ 0 → ⊥ = grind arith in
    rw (c.in_ok-head.ensures, c.in_ok-arguments.ensures, with_others c.in_ok-head.head c.in_ok-arguments.arguments.items some, c.new-2.ensures, c.in_ok-new.ensures.ok)

pub returns-then-is_empty : goal.returns-then-is_empty
unfolding application
returns-then-is_empty g c =
    let test : true ≡ (vec_len c.in_ok-arguments.arguments == 0) = c.if-is_empty.ensures in
    let none : length c.in_ok-arguments.arguments.items ≡ 0 = grind arith in
    rw (c.in_ok-head.ensures, c.in_ok-arguments.ensures, alone c.in_ok-head.head c.in_ok-arguments.arguments.items none)
