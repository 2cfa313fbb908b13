use Rattle.std.proofs.Common.{drop, length, refl, ap, arith, length-drop}
use Rattle.std.proofs.lemmas.Result.{err_from_is_err_and}
use Rattle.rpc_frames.specs.Fed.{Fed}
use Rattle.rpc_frames.proofs.StageLemmas.{front_less}
use Rattle.rpc_frames.proofs.AnswerLemmas.{body_given, whole_is_frame}
use Rattle.rpc_frames.proofs.stream.Frames.take_body.Goals as goal

pub returns-then-held-from : goal.returns-then-held-from
returns-then-held-from c = (
  front_less c.args.self.now.bytes (drop c.args.from c.args.self.now.bytes) c.args.told c.requires.whole
      (omega (arith, ap length c.held-held.ensures, length-drop c.args.from c.args.self.now.bytes)),
  c.requires.fault,
  c.drop_used.ensures,
)

pub returns-in_err-body : goal.returns-in_err-body
returns-in_err-body c =
    let p = err_from_is_err_and c.from_residual.result c.from_residual.ensures.1 in
    rw (p.1, p.2) (whole_is_frame c.args.self.now.bytes c.held-held.result.now c.args.from c.args.told c.held-held.ensures c.requires.whole c.if-held-from.false, c.requires.fault, refl)

pub returns : goal.returns
returns c = (
  body_given c.args.self.now.bytes c.held-held.result.now c.in_ok-body.body c.args.from c.args.told c.use_up.new.self c.held-held.ensures c.requires.whole c.if-held-from.false
      c.in_ok-body.ensures c.use_up.ensures,
  c.requires.fault,
  ap (λ (f : Fed). f.fault) c.use_up.ensures,
)
