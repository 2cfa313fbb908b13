use Rattle.std.proofs.Common.{◌∙◌, arith}
use Rattle.coq_syntax.proofs.Values.{read_digit}
use Rattle.coq_syntax.proofs.numbers.number_value.Goals as goal

pub loop-digit-preserved : goal.loop-digit-preserved
loop-digit-preserved c = record {
  within = omega arith;
  same = read_digit 1001 c.loop-digit.value c.min-value.result c.loop-digit.digit-index c.as_bytes-digit-items.result.now (omega arith) (omega arith) ∙ c.loop-digit.invariant.same;
}
