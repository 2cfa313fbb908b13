use Rattle.std.proofs.Common.{rules}
use Rattle.fresh_names.proofs.NameLaws.{index_more}
use Rattle.fresh_names.proofs.names.Names.with.Goals as goal

pub invariant_of-result : goal.invariant_of-result
invariant_of-result c =
    index_more c.self.inside.index c.in_ok-index.index c.self.inside.names _ c.in_ok-share.field-0 c.args.name.now _ c.self.invariant c.in_ok-index.ensures.values (search rules) (search rules)
