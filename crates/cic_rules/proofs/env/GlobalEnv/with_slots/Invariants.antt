use Rattle.std.proofs.Common.{◌≡◌, ◌+◌, ◌^◌, ◌≤◌, ◌++◌, length}
use Rattle.std.specs.Vec.Iter.{into_iter_items, into_iter_len}
use Rattle.cic_rules.specs.Environments.{slotted, AreNew, AreSlots}
use Rattle.cic_rules.proofs.env.GlobalEnv.with_slots.Given as goal

abbrev pub invariant-loop-entry : goal.invariant-loop-entry
invariant-loop-entry l = record {
  all : l.env ++ slotted l.decl (into_iter_items l.entry-iterator) ≡ l.initial.env ++ slotted l.initial.decl (into_iter_items l.initial.entry-iterator);
  count : into_iter_len l.entry-iterator ≡ length (into_iter_items l.entry-iterator);
  room : length l.env + length (into_iter_items l.entry-iterator) ≤ 2 ^ 31;
  new : AreNew l.env (slotted l.decl (into_iter_items l.entry-iterator));
  slots : AreSlots (length l.env) (slotted l.decl (into_iter_items l.entry-iterator));
}
