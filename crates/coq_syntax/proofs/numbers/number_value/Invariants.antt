use Rattle.std.proofs.Common.{◌≡◌, min, ◌≤◌, drop}
use Rattle.coq_syntax.specs.Faults.{digits_value}
use Rattle.coq_syntax.proofs.numbers.number_value.Given as goal

abbrev pub invariant-loop-digit : goal.invariant-loop-digit
invariant-loop-digit l = record {
  within : l.value ≤ 1001;
  same : min (digits_value l.value (drop l.digit-index l.digit-items)) 1001 ≡ min (digits_value 0 l.digits) 1001;
}
