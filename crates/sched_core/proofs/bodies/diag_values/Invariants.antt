use Rattle.std.proofs.Common.{◌≡◌, ◌++◌, map, drop}
use Rattle.serde_json.specs.View.{view}
use Rattle.utf16_doc.specs.Indexed.{position_in}
use Rattle.sched_core.specs.Bodies.{diag_data}
use Rattle.sched_core.proofs.bodies.diag_values.Given as goal

abbrev pub invariant-loop-diag : goal.invariant-loop-diag
invariant-loop-diag l = map view l.values.items ++ map (diag_data (position_in l.doc)) (drop l.diag-index l.diags) ≡ map (diag_data (position_in l.doc)) l.diags
