use Rattle.move_elim.proofs.TermParts.{are_cases}
use Rattle.move_elim.proofs.elimination.term_by.Goals as goal

pub with_cases-requires-clause-cases : goal.with_cases-requires-clause-cases
with_cases-requires-clause-cases c =
    are_cases c.args.env.now c.args.ctx.now c.in_ok-hidden.hidden c.args.d.now c.args.x.now c.args.moved.now c.args.c.now c.requires.judged c.requires.subject
    c.requires.small c.requires.claim c.requires.below c.requires.few c.in_ok-hidden.ensures
