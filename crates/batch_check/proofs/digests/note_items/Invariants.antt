use Rattle.std.proofs.Common.{◌≡◌, fold, drop}
use Rattle.batch_check.specs.Digests.{with_item}
use Rattle.batch_check.proofs.digests.note_items.Given as goal

abbrev pub invariant-loop-item : goal.invariant-loop-item
invariant-loop-item l = fold with_item l.seen.keys (drop l.item-index l.items) ≡ fold with_item l.initial.seen.keys l.items
