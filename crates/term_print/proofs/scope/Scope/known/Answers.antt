use Rattle.std.proofs.Common.{rules}
use Rattle.term_print.proofs.ScopeLaws.{known_taken}
use Rattle.term_print.proofs.scope.Scope.known.Goals as goal

pub returns-in-Some-clause-taken : goal.returns-in-Some-clause-taken
returns-in-Some-clause-taken c =
    known_taken c.self.inside.numbers c.self.inside.names c.args.self.now c.args.stem.now c.in-Some.number.now c.self.invariant.1
    (search rules) (search rules)
