use Rattle.std.proofs.Common.{◌≡◌, ◌++◌, drop}
use Rattle.vernac_exec.proofs.proving.codes.Given as goal

abbrev pub invariant-loop-n : goal.invariant-loop-n
invariant-loop-n l = l.codes ++ drop l.n-index l.numbers ≡ l.numbers
