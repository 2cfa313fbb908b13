use Rattle.std.proofs.Common.{◌≡◌, ◌++◌, drop}
use Rattle.elaborator.proofs.arrangement.followed.Given as goal

abbrev pub invariant-loop-k : goal.invariant-loop-k
invariant-loop-k l = l.all ++ drop l.k-index l.ks ≡ l.fn.done ++ l.ks
