use Rattle.sentence_split.specs.Sentences.{sentences}
use Rattle.utf16_doc.specs.Indexed.{position_in}
use Rattle.goals_query.specs.Symbols.{symbol_data}
use Rattle.goals_query.proofs.Lists.{values_more}
use Rattle.goals_query.proofs.symbols.symbol_values.Goals as goal

pub loop-item-preserved : goal.loop-item-preserved
loop-item-preserved g c =
    values_more (symbol_data (position_in c.args.doc.now) (sentences 0 0 c.args.check.now.text)) c.args.items.now c.loop-item.item-index c.item-item.result c.loop-item.values.items c.push.new.self.items c.in_ok-symbol_value.field-0
    c.loop-item-test.true c.item-item.is c.in_ok-push.ensures.items c.in_ok-symbol_value.ensures c.loop-item.invariant
