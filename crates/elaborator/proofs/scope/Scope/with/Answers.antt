use Rattle.std.proofs.Common.{sym, rules}
use Rattle.elaborator.proofs.IndexLaws.{index_more}
use Rattle.elaborator.proofs.OpeningLaws.{extended_is}
use Rattle.elaborator.proofs.scope.Scope.with.Goals as goal

pub invariant_of-result : goal.invariant_of-result
invariant_of-result c =
    index_more c.self.inside.places c.in_ok-places.places c.self.inside.ctx c.in_ok-ctx.ctx c.args.h c.in_ok-name.name c.len-before.result
    c.self.invariant c.in_ok-places.ensures.values (search rules) c.len-before.ensures.count
    (sym (extended_is c.self.inside.ctx c.in_ok-ctx.ctx c.args.h (search rules)))
