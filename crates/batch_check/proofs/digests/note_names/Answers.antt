use Rattle.std.proofs.Common.{◌∙◌, ap}
use Rattle.batch_check.specs.Digests.{with_name}
use Rattle.batch_check.proofs.Lines.{fold_more}
use Rattle.batch_check.proofs.digests.note_names.Goals as goal

pub loop-name-preserved : goal.loop-name-preserved
loop-name-preserved c =
    fold_more with_name c.args.names.now c.loop-name.name-index c.name-item.result _ _ _ c.loop-name-test.true
    (c.in_ok-insert.ensures.keys ∙ ap (with_name c.loop-name.seen.keys) (c.in_ok-share.ensures ∙ c.name-item.is)) c.loop-name.invariant
