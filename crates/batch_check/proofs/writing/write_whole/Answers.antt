use Rattle.std.proofs.Common.{length, length-drop, take, ap, ◌∙◌, arith}
use Rattle.base_core.specs.Sink.{appended}
use Rattle.base_core.proofs.Pieces.{took_more, shown_rest}
use Rattle.batch_check.proofs.Pieces.{short_at}
use Rattle.batch_check.proofs.writing.write_whole.Goals as goal

pub loop-at-preserved : goal.loop-at-preserved
loop-at-preserved g c =
    let shows = shown_rest c.args.bytes.now c.loop-at.at in
    let some = c.in-Took.ensures.told in (
      omega (arith, some.1, ap length shows, length-drop c.loop-at.at c.args.bytes.now),
      took_more _ _ _ c.args.bytes.now c.loop-at.at c.in-Took.taken c.loop-at.invariant.1
          (some.2 ∙ ap (λ xs. appended (g.S.Sink.written c.loop-at.out) (take c.in-Took.taken xs)) shows),
      omega (arith, c.loop-at.invariant.2, c.in-Took.ensures.later),
    )

pub returns-in-Failed-clause-told : goal.returns-in-Failed-clause-told
returns-in-Failed-clause-told g c = short_at _ _ c.args.bytes.now c.loop-at.at c.loop-at-test.true (c.in-Failed.ensures.told ∙ c.loop-at.invariant.1)
