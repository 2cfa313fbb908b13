use Rattle.std.proofs.Common.{rules}
use Rattle.term_print.proofs.ScopeLaws.{number_more}
use Rattle.term_print.proofs.scope.Scope.with_number.Goals as goal

pub invariant_of-result : goal.invariant_of-result
invariant_of-result c =
    number_more c.self.inside.index c.in_ok-index.index c.self.inside.numbers c.in_ok-numbers.numbers c.self.inside.names c.args.self.now
    c.in_ok-names.names c.args.stem c.args.stem c.in_ok-number.number c.self.invariant
    c.in_ok-numbers.ensures.values c.in_ok-number.ensures.taken (search rules) (search rules) (search rules) (search rules)
