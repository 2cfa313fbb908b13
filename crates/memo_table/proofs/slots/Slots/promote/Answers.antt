use Rattle.memo_table.proofs.Changing.{promoted_indexed}
use Rattle.memo_table.proofs.slots.Slots.promote.Goals as goal

pub invariant_of-self : goal.invariant_of-self
invariant_of-self g c = promoted_indexed c.self.inside.cache _ c.self.inside.numbers c.self.invariant _ c.promote.ensures.entries
