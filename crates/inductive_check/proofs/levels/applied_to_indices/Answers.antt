use Rattle.std.proofs.Common.{◌∙◌, ap, sym, subst, drop}
use Rattle.inductive_check.specs.Levels.{MayPlaceAll}
use Rattle.inductive_check.proofs.LevelLaws.{may_indices}
use Rattle.inductive_check.proofs.levels.applied_to_indices.Goals as goal

pub applied_to_all-requires : goal.applied_to_all-requires
applied_to_all-requires c =
    subst (MayPlaceAll c.args.site.now) (sym (c.in_ok-args.ensures ∙ ap (drop c.args.params) c.in_ok-s.ensures.args))
    (may_indices c.args.site.now c.args.params c.args.t.now c.requires)
