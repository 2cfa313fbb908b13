use Rattle.std.proofs.Common.{rules}
use Rattle.term_print.proofs.NamedLaws.{set_at, far_at}
use Rattle.term_print.proofs.named.mark.Goals as goal

pub returns-then-back-count : goal.returns-then-back-count
returns-then-back-count c = set_at c.args.i c.len-count.result c.args.open.now.items (search rules) c.if-back-count.true

pub returns-else-back-count : goal.returns-else-back-count
returns-else-back-count c = far_at c.args.i c.len-count.result c.args.open.now.items (search rules) c.if-back-count.false
