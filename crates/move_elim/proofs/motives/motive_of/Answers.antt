use Rattle.move_elim.proofs.MotiveLaws.{family_few}
use Rattle.move_elim.proofs.motives.motive_of.Goals as goal

pub motive_over-requires : goal.motive_over-requires
motive_over-requires c =
    family_few c.args.env.now c.args.ctx.now c.args.d.now c.args.x.now c.in_ok-family.family c.in_ok-arity.arity c.requires.subject c.len-count.ensures.context.short
    c.depth-depth.ensures.term c.in_ok-family.ensures
