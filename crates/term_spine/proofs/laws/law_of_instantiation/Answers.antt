use Rattle.term_spine.proofs.Instantiations.{instantiate_above, instantiate_free, instantiate_depth, instantiate_numbered}
use Rattle.term_spine.proofs.laws.law_of_instantiation.Goals as goal

pub returns : goal.returns
returns c = record { closed = instantiate_above; free = instantiate_free; depth = instantiate_depth; numbered = instantiate_numbered }
