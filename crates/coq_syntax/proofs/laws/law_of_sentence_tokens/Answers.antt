use Rattle.coq_syntax.proofs.TokensFrom.{law}
use Rattle.coq_syntax.proofs.laws.law_of_sentence_tokens.Goals as goal

pub returns : goal.returns
returns c = law
