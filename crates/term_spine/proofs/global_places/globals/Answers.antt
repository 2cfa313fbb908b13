use Rattle.std.specs.Prelude.{◌≡◌}
use Rattle.std.proofs.Common.{◌∙◌, rules}
use Rattle.std.proofs.lemmas.List.Filters.{dedup_is}
use Rattle.term_spine.specs.Globals.{globals_of}
use Rattle.term_spine.proofs.Places.{listed_by_sort}
use Rattle.term_spine.proofs.global_places.globals.Goals as goal

pub returns : goal.returns
returns c =
    let found : c.collect.new.places.items ≡ globals_of c.args.t.now = search rules in
    c.from_vec.ensures ∙ listed_by_sort (globals_of c.args.t.now) _ _ (rw found at c.sort_unstable.ensures.permutation) c.sort_unstable.ensures.sorted (dedup_is _ _ _ c.dedup.ensures.filtered)
