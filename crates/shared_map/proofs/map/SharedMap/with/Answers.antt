use Rattle.std.proofs.Common.{◌≡◌, ◌∙◌, ap, sym, subst, rules}
use Rattle.shared_map.specs.Entries.{look, put, IsInOrder}
use Rattle.shared_map.proofs.EntriesLaws.{in_order-put, look-put}
use Rattle.shared_map.proofs.map.SharedMap.with.Goals as goal

pub invariant_of-result : goal.invariant_of-result
invariant_of-result g c =
    let is : c.in_ok-entries.entries ≡ put g.K.Ord.cmp c.args.self.now (c.args.k, c.args.v) = search rules in
    subst (IsInOrder g.K.Ord.cmp) (sym is) (in_order-put g.K.Ord.cmp g.met.K.Ord.total c.args.self.now (c.args.k, c.args.v) (search rules))

pub returns-clause-values : goal.returns-clause-values
returns-clause-values g c =
    let is : c.in_ok-entries.entries ≡ put g.K.Ord.cmp c.args.self.now (c.args.k, c.args.v) = search rules in
    λ other. ap (λ entries. look g.K.Ord.cmp entries other) is ∙ look-put g.K.Ord.cmp g.met.K.Ord.total c.args.self.now c.args.k c.args.v other
