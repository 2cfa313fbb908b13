use Rattle.std.proofs.Common.{subst, ap}
use Rattle.rpc_frames.specs.Frames.{framed}
use Rattle.base_core.specs.Writes.{Writes}
use Rattle.lsp_session.proofs.Joins.{writes_then, writes_cut, flat_map_at, flat_map_next}
use Rattle.lsp_session.proofs.write.write_bodies.Goals as goal

pub returns-in_err-write_body : goal.returns-in_err-write_body
returns-in_err-write_body g c =
    rw (flat_map_at framed c.args.bodies.now c.loop-body.body-index c.body-item.result c.loop-body-test.true c.body-item.is)
    (writes_cut _ _ _ _ _ _ _ _ c.from_residual.ensures.1 (writes_then _ _ _ _ _ _ _ _ _ c.loop-body.invariant
    (subst (Writes _ _ _ _ _) (ap framed c.as_slice.ensures) c.in_err-write_body.ensures)))

pub loop-body-preserved : goal.loop-body-preserved
loop-body-preserved g c =
    rw (flat_map_next framed c.args.bodies.now c.loop-body.body-index c.body-item.result c.loop-body-test.true c.body-item.is)
    (writes_then _ _ _ _ _ _ _ _ _ c.loop-body.invariant
    (subst (Writes _ _ _ _ _) (ap framed c.as_slice.ensures) c.in_ok-write_body.ensures))
