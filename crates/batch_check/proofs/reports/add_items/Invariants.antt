use Rattle.std.proofs.Common.{◌≡◌, ◌++◌, drop, string_bytes}
use Rattle.batch_check.specs.Reports.{item_lines}
use Rattle.batch_check.proofs.reports.add_items.Given as goal

abbrev pub invariant-loop-item : goal.invariant-loop-item
invariant-loop-item l = string_bytes l.lines ++ item_lines l.name (drop l.item-index l.items) ≡ string_bytes l.initial.lines ++ item_lines l.name l.items
