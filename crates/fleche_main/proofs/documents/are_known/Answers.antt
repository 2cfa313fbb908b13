use Rattle.std.proofs.Common.{map, string_bytes, sym, ap, ◌∙◌}
use Rattle.fleche_main.specs.Words.{are_listed}
use Rattle.fleche_main.proofs.Named.{none_named}
use Rattle.fleche_main.proofs.documents.are_known.Goals as goal

pub returns : goal.returns
returns g c =
    sym (ap (are_listed (map g.O.Observer.title c.args.watch.now)) (none_named string_bytes c.loop-rest.rest.now c.in_default.len_below)) ∙ c.loop-rest.invariant
