use Rattle.std.proofs.Common.{sym}
use Rattle.bullet_focus.proofs.LevelLaws.{given_up_next}
use Rattle.bullet_focus.proofs.focus.given_up.Goals as goal

pub loop-at-preserved : goal.loop-at-preserved
loop-at-preserved c =
    given_up_next _ _ _ _ _ _ _ (sym c.in-Some.ensures) c.loop-at-test.true c.in_ok-append-2.ensures c.loop-at.invariant
