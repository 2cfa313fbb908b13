use Rattle.std.proofs.Common.{◌≡◌, ◌++◌, drop}
use Rattle.elaborator.specs.Arrangement.{picked}
use Rattle.elaborator.proofs.spine.picked.Given as goal

abbrev pub invariant-loop-k : goal.invariant-loop-k
invariant-loop-k l = l.terms ++ picked l.values (drop l.k-index l.order) ≡ picked l.values l.order
