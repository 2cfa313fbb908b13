use Rattle.std.proofs.Common.{◌≡◌, ℕ, suc, ◌-◌, List, ap, sym, subst, arith}
use Rattle.coq_syntax.specs.declared.token.Token.{Token}
use Rattle.vernac_parser.specs.Reads.{Reads}
use Rattle.vernac_parser.specs.Views.{within}
use Rattle.vernac_parser.specs.Parse.{Rule, standard, by_rule, nested}
use Rattle.vernac_parser.proofs.grammar.+nested.Goals as goal

one_level : (n m : ℕ) (rule : Rule) (i : List Token) → n ≡ suc m → within n rule i ≡ by_rule standard (within m) rule i
unfolding nested
one_level n m rule i e = ap (λ k. nested standard k rule i) e

pub returns : goal.returns
returns t c =
    subst (λ o. Reads o c.by_rule.result c.by_rule.new.tokens) (sym (one_level c.args.limit (c.args.limit - 1) c.args.rule c.args.tokens.now (omega arith))) c.by_rule.ensures
