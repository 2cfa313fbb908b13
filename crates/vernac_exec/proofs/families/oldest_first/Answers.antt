use Rattle.std.proofs.Common.{arith, rules}
use Rattle.vernac_exec.proofs.FamilyLaws.{oldest_next}
use Rattle.vernac_exec.proofs.families.oldest_first.Goals as goal

pub loop-at-preserved : goal.loop-at-preserved
loop-at-preserved c = record {
  within = let most = c.loop-at.invariant.within in omega (arith, most);
  made =
      oldest_next c.args.ctx.now c.loop-at.at c.loop-at.list c.push.new.self c.in-Some.hyp.now c.in_ok-name.name c.in_ok-ty.ty (grind arith) c.requires
      (search rules) c.loop-at.invariant.made (search rules) (search rules) (search rules);
}
