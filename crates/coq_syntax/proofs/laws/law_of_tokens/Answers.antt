use Rattle.coq_syntax.proofs.Unique.{one_list}
use Rattle.coq_syntax.proofs.laws.law_of_tokens.Goals as goal

pub returns : goal.returns
returns c = one_list
