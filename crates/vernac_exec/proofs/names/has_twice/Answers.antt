use Rattle.std.proofs.Common.{arith, rules}
use Rattle.vernac_exec.proofs.NameLaws.{next_name, found_twice}
use Rattle.vernac_exec.proofs.names.has_twice.Goals as goal

pub returns-then-has : goal.returns-then-has
returns-then-has c =
    found_twice c.loop-at.behind c.args.names.now c.loop-at.at c.index-names-at.result c.loop-at.invariant (grind arith) c.index-names-at.is (search rules)

pub loop-at-preserved : goal.loop-at-preserved
loop-at-preserved c =
    next_name c.loop-at.behind c.in_ok-behind.behind c.args.names.now c.loop-at.at c.index-names-at.result c.in_ok-share.field-0 tt c.loop-at.invariant
    (grind arith) c.index-names-at.is (search rules) (search rules) c.in_ok-behind.ensures.values
