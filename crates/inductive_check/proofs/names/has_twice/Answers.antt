use Rattle.std.proofs.Common.{arith, rules}
use Rattle.inductive_check.proofs.PartLaws.{twice_at}
use Rattle.inductive_check.proofs.names.has_twice.Goals as goal

pub returns-then-has : goal.returns-then-has
returns-then-has c =
    twice_at c.loop-at.at c.args.names.now c.index-names-at.result c.loop-at.behind (grind arith) c.loop-at.invariant.within c.index-names-at.is c.loop-at.invariant.behind (search rules)
