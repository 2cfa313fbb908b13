use Rattle.std.proofs.Common.{◌∙◌}
use Rattle.rpc_frames.proofs.StageLemmas.{front_short, front_faulty, no_fault_header}
use Rattle.rpc_frames.proofs.AnswerLemmas.{stays, faults, same_fault}
use Rattle.rpc_frames.proofs.stream.Frames.answer.Goals as goal

pub returns-in-Header : goal.returns-in-Header
returns-in-Header c =
    let none = no_fault_header c.args.self.now.fault c.in-Header.field-0 c.in-Header.ensures.fault in (
      front_short c.args.self.now.bytes c.in-Header.ensures.settled.1,
      none,
      c.drop_used.ensures ∙ stays c.args.self.now c.set_stage.new.self c.settled-stage.result c.in-Header.field-0 c.set_stage.ensures c.in-Header.is none,
    )

pub returns-in-Broken : goal.returns-in-Broken
returns-in-Broken c = (
  front_faulty c.args.self.now.bytes c.in-Broken.fault c.in-Broken.ensures.settled,
  same_fault c.args.self.now.fault c.in-Broken.fault c.in-Broken.ensures.fault,
  faults c.args.self.now c.set_stage.new.self c.settled-stage.result c.in-Broken.fault c.set_stage.ensures c.in-Broken.is,
)
