use Rattle.std.proofs.Common.{sym, ◌∙◌}
use Rattle.bullet_focus.proofs.LevelLaws.{place_here, place_none, place_next}
use Rattle.bullet_focus.proofs.levels.find.Goals as goal

pub returns-then-is_same-clause-place : goal.returns-then-is_same-clause-place
returns-then-is_same-clause-place c =
    place_here _ _ _ _ _ (sym c.in-Some.ensures) (sym c.is_same.ensures ∙ c.if-is_same.true) c.loop-at.invariant

pub returns-then-is_brace-clause-place : goal.returns-then-is_brace-clause-place
returns-then-is_brace-clause-place c =
    place_none c.args.opener c.args.levels.now _ _ _ (sym c.in-Some.ensures) (sym c.is_same.ensures ∙ c.if-is_same.false)
    (sym c.is_brace.ensures ∙ c.if-is_brace.true) c.loop-at.invariant

pub loop-at-preserved : goal.loop-at-preserved
loop-at-preserved c =
    place_next c.args.opener c.args.levels.now _ _ _ (sym c.in-Some.ensures) (sym c.is_same.ensures ∙ c.if-is_same.false)
    (sym c.is_brace.ensures ∙ c.if-is_brace.false) c.loop-at.invariant
