use Rattle.std.proofs.Common.{◌≡◌, ◌≤◌, length, drop}
use Rattle.proof_state.specs.Closing.{terms_from}
use Rattle.proof_state.proofs.closing.whole.Given as goal

abbrev pub invariant-loop-number : goal.invariant-loop-number
invariant-loop-number l = record {
  within : l.number ≤ length l.parts;
  terms : l.terms ≡ terms_from l.number (drop l.number l.parts);
}

abbrev pub decreases-loop-number : goal.decreases-loop-number
decreases-loop-number l = l.number
