use Rattle.std.proofs.Common.{rules}
use Rattle.memo_table.proofs.Changing.{taken_indexed}
use Rattle.memo_table.proofs.slots.Slots.drop_last.Goals as goal

pub invariant_of-self : goal.invariant_of-self
invariant_of-self g c = taken_indexed c.self.inside.cache c.pop_lru.new.self c.self.inside.numbers c.self.invariant (search rules)
    c.numbers_are_apart.ensures (c.in-Some.field-0-0, c.in-Some.dropped) (search rules) c.remove.new.self (search rules)
