use Rattle.std.proofs.Common.{◌∙◌}
use Rattle.std.specs.Str.{bytes_eq}
use Rattle.fleche_main.proofs.Listed.{list_any_map}
use Rattle.fleche_main.proofs.documents.is_title.Goals as goal

pub returns : goal.returns
returns g c = c.is_known.ensures ∙ list_any_map g.O.Observer.title (λ title. bytes_eq title c.args.name.now) c.args.watch.now
