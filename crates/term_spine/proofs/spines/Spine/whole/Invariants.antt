use Rattle.std.proofs.Common.{◌≡◌}
use Rattle.term_spine.specs.Spine.{apply_all}
use Rattle.term_spine.proofs.spines.Spine.whole.Given as goal

abbrev pub invariant-loop-args : goal.invariant-loop-args
invariant-loop-args l = apply_all l.whole l.args ≡ apply_all l.self.head l.self.args
