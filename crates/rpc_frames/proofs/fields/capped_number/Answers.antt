use Rattle.std.proofs.Common.{arith, ◌∙◌}
use Rattle.rpc_frames.proofs.Numbers.{capped_more}
use Rattle.rpc_frames.proofs.fields.capped_number.Goals as goal

pub loop-digit-preserved : goal.loop-digit-preserved
loop-digit-preserved c = record {
  capped = omega arith;
  same = capped_more c.loop-digit.number _ c.args.digits.now c.loop-digit.digit-index (omega arith) (omega arith) ∙ c.loop-digit.invariant.same;
}
