use Rattle.std.proofs.Common.{arith}
use Rattle.fresh_names.proofs.LabelLaws.{digits_next}
use Rattle.fresh_names.proofs.naming.+push_digits.Goals as goal

pub returns : goal.returns
returns t c = digits_next _ _ _ _ c.args.n (grind arith) c.in_ok-push_digits.ensures c.push_letter-2.ensures
