use Rattle.sentence_split.proofs.Lawful.{sentences_split}
use Rattle.sentence_split.proofs.Unique.{split_is}
use Rattle.sentence_split.proofs.splitting.law_of_splits.Goals as goal

pub returns-clause-splits : goal.returns-clause-splits
returns-clause-splits c = sentences_split

pub returns-clause-one : goal.returns-clause-one
returns-clause-one c = split_is
