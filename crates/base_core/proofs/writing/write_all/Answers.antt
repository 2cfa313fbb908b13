use Rattle.std.proofs.Common.{length, length-drop, take, refl, ap, ◌∙◌, arith}
use Rattle.base_core.specs.Sink.{appended}
use Rattle.base_core.proofs.Pieces.{begins_take, took_more, shown_rest, rose_later}
use Rattle.base_core.proofs.writing.write_all.Goals as goal

pub loop-at-preserved : goal.loop-at-preserved
loop-at-preserved g c =
    let shows = shown_rest c.args.bytes.now c.loop-at.at in
    let some = c.in-Took.ensures.told in
    record {
      within = omega (arith, some.1, ap length shows, length-drop c.loop-at.at c.args.bytes.now);
      told = took_more _ _ _ c.args.bytes.now c.loop-at.at c.in-Took.taken c.loop-at.invariant.told
          (some.2 ∙ ap (λ xs. appended (g.S.Sink.written c.loop-at.out) (take c.in-Took.taken xs)) shows);
      calm = c.in-Took.ensures.calm ∙ c.loop-at.invariant.calm;
    }

pub returns-in-Failed : goal.returns-in-Failed
returns-in-Failed g c = record {
  told = begins_take _ _ c.args.bytes.now c.loop-at.at (c.in-Failed.ensures.told ∙ c.loop-at.invariant.told);
  later = omega (arith, c.loop-at.invariant.calm, c.in-Failed.ensures.later);
  failed = λ e. rose_later _ _ _ c.loop-at.invariant.calm (c.in-Failed.ensures.failed refl);
  calm = tt;
}
