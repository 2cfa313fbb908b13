use Rattle.std.proofs.Common.{Some, arith}
use Rattle.std.proofs.lemmas.Bool.Decides.{nat_tests}
use Rattle.cic_rules.proofs.PlaceLaws.{length_slotted}
use Rattle.cic_rules.proofs.env.GlobalEnv.with_inductive.Goals as goal

pub returns-then-len : goal.returns-then-len
returns-then-len c = grind (arith, nat_tests, length_slotted (Some c.args.d) c.args.entries)
