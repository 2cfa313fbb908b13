use Rattle.std.proofs.Common.{◌≡◌}
use Rattle.term_spine.specs.Spine.{apply_all}
use Rattle.term_spine.proofs.spines.spine_of.Given as goal

abbrev pub invariant-loop-function : goal.invariant-loop-function
invariant-loop-function l = apply_all l.head l.args ≡ apply_all l.initial.head l.initial.args
