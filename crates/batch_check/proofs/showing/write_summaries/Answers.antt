use Rattle.std.proofs.Common.{rules, ◌∙◌}
use Rattle.batch_check.proofs.Pieces.{writes_cut, wrote_more}
use Rattle.batch_check.proofs.showing.write_summaries.Goals as goal

pub returns-in-Err : goal.returns-in-Err
returns-in-Err g c =
    writes_cut g.S.Sink.written g.S.Sink.faults _ c.loop-i.out _ g.O.Observer.told c.args.watch.now.items c.loop-i.i c.index.result.now _ c.in-Err.halt (search rules) (search rules) c.loop-i.invariant.0 c.loop-i.invariant.1 c.in-Err.is c.write_summary.ensures

pub loop-i-preserved : goal.loop-i-preserved
loop-i-preserved g c =
    (wrote_more _ _ _ g.O.Observer.told c.args.watch.now.items c.loop-i.i c.index.result.now (search rules) (search rules) c.loop-i.invariant.0 c.in-Ok.ensures.told, c.in-Ok.ensures.calm ∙ c.loop-i.invariant.1)
