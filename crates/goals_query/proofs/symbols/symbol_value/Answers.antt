use Rattle.serde_json.specs.View.{view}
use Rattle.sentence_split.specs.Sentences.{sentences}
use Rattle.utf16_doc.specs.Indexed.{position_in}
use Rattle.goals_query.proofs.Placed.{symbol_is}
use Rattle.goals_query.proofs.symbols.symbol_value.Goals as goal

pub returns : goal.returns
returns g c =
    symbol_is (position_in c.args.doc.now) (sentences 0 0 c.args.check.now.text) c.args.item.now (view c.in_ok-range.range) c.begin_of-from.result c.end_of-to.result c.symbol_at.result
    c.in_ok-range.ensures c.begin_of-from.ensures.begin c.end_of-to.ensures.end c.symbol_at.ensures
