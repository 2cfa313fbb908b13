use Rattle.std.proofs.Common.{rules, [], ◌∷◌}
use Rattle.batch_check.proofs.Pieces.{on_err, kept_by, show_more}
use Rattle.batch_check.proofs.showing.show_all.Goals as goal

pub returns-in_err-finished-clause-fails : goal.returns-in_err-finished-clause-fails
returns-in_err-finished-clause-fails g c =
    on_err c.from_residual.result (c.loop-i.i, kept_by g.O.Observer.shown c.loop-i.watch.items _ c.loop-i.i c.index_mut.result.now c.finished.new.self (search rules) (search rules) c.loop-i.invariant.1)

pub returns-in_err-finished-clause-named : goal.returns-in_err-finished-clause-named
returns-in_err-finished-clause-named g c =
    kept_by g.O.Observer.title c.loop-i.watch.items _ c.loop-i.i c.index_mut.result.now c.finished.new.self c.finished.ensures.named (search rules) c.loop-i.invariant.2

pub loop-i-preserved : goal.loop-i-preserved
loop-i-preserved g c = (
  search rules,
  show_more g.O.Observer.shown (c.args.digest.now ∷ []) c.loop-i.watch.items c.args.watch.now.items c.loop-i.i c.index_mut.result.now c.finished.new.self (search rules) c.loop-i.invariant.0 (search rules) (search rules) c.loop-i.invariant.1,
  kept_by g.O.Observer.title c.loop-i.watch.items _ c.loop-i.i c.index_mut.result.now c.finished.new.self c.finished.ensures.named (search rules) c.loop-i.invariant.2,
)
