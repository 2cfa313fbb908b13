-- How many nodes there are, as far as numbers of 64 bits go.
use Rattle.std.specs.Prelude.{ℕ, ◌-◌, ◌^◌, min}
use Rattle.coq_syntax.specs.declared.tree.Argument.{Argument}
use Rattle.coq_syntax.specs.declared.tree.Argument.TheVariants.{Positional, Given}
use Rattle.coq_syntax.specs.Trees.{Term}

abbrev pub capped : ℕ → ℕ
capped n = min n (2 ^ 64 - 1)

-- the term of an argument
abbrev pub argument_term : Argument → Term
argument_term (Positional t) = t.value
argument_term (Given opening name assign value closing) = value.value
