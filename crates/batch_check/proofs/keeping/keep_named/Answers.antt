use Rattle.std.proofs.Common.{rules}
use Rattle.std.proofs.lemmas.Fn.{filter_same}
use Rattle.batch_check.proofs.keeping.keep_named.Goals as goal

pub returns : goal.returns
returns g c = filter_same _ _ _ (λ x b k h. search rules) _ _ c.retain.ensures.filtered
