use Rattle.std.proofs.Common.{length}
use Rattle.cic_rules.proofs.ScopeLaws.{scoped_free}
use Rattle.inductive_check.proofs.families.open_param.Goals as goal

pub with_plain-requires : goal.with_plain-requires
with_plain-requires g c = scoped_free (length c.args.opened.now.ctx) (length c.args.env.now) c.args.param.now.ty c.in_ok-sort.ensures.term
