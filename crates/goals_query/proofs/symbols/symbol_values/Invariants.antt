use Rattle.std.proofs.Common.{◌≡◌, ◌++◌, map, drop}
use Rattle.serde_json.specs.View.{view}
use Rattle.sentence_split.specs.Sentences.{sentences}
use Rattle.utf16_doc.specs.Indexed.{position_in}
use Rattle.goals_query.specs.Symbols.{symbol_data}
use Rattle.goals_query.proofs.symbols.symbol_values.Given as goal

abbrev pub invariant-loop-item : goal.invariant-loop-item
invariant-loop-item g l =
    let line = symbol_data (position_in l.doc) (sentences 0 0 l.check.text) in
    map view l.values.items ++ map line (drop l.item-index l.items) ≡ map line l.items
