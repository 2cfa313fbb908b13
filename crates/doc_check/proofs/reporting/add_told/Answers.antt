use Rattle.doc_check.proofs.Telling.{within_sentence}
use Rattle.doc_check.proofs.reporting.add_told.Goals as goal

pub add_shifted-requires-clause-within : goal.add_shifted-requires-clause-within
add_shifted-requires-clause-within c = within_sentence c.args.text.now c.args.span.now c.args.told.now c.requires.span c.requires.told
