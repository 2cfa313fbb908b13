use Rattle.std.proofs.Common.{rules}
use Rattle.elaborator.proofs.LoopLaws.{times_more}
use Rattle.elaborator.proofs.spine.+times.Goals as goal

pub returns-in_err-u : goal.returns-in_err-u
returns-in_err-u t c = rw (times_more c.args.n c.args.f.now c.args.t (search rules)) (search rules)
