use Rattle.std.proofs.Common.{rules}
use Rattle.term_print.proofs.ScopeLaws.{index_last, numbers_last}
use Rattle.term_print.proofs.scope.Scope.with_last.Goals as goal

pub invariant_of-result : goal.invariant_of-result
invariant_of-result c = (
  index_last c.self.inside.index c.in_ok-index.index c.self.inside.names c.in_ok-names.names c.in_ok-share.field-0 c.args.name _ c.self.invariant.0
      c.in_ok-index.ensures.values (search rules) (search rules),
  numbers_last c.self.inside.numbers c.in_ok-numbers.numbers c.self.inside.names c.in_ok-names.names c.args.name c.self.invariant.1
      (search rules) (search rules),
)
