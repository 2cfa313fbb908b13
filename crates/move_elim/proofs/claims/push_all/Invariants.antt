use Rattle.std.proofs.Common.{◌≡◌, ◌++◌, drop}
use Rattle.move_elim.proofs.claims.push_all.Given as goal

abbrev pub invariant-loop-n : goal.invariant-loop-n
invariant-loop-n l = l.found ++ drop l.n-index l.numbers ≡ l.fn.found ++ l.numbers
