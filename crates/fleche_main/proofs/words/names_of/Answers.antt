use Rattle.std.proofs.Common.{string_bytes}
use Rattle.fleche_main.proofs.Named.{names_end}
use Rattle.fleche_main.proofs.words.names_of.Goals as goal

pub returns : goal.returns
returns c = names_end string_bytes _ _ c.loop-rest.rest.now c.in_default.len_below c.loop-rest.invariant
