use Rattle.rpc_frames.proofs.AnswerLemmas.{answers_stream, answers_again, answers_shorter}
use Rattle.rpc_frames.proofs.stream.Frames.next.Goals as goal

pub returns-clause-stream : goal.returns-clause-stream
returns-clause-stream c = answers_stream c.answer.result c.args.self.now c.answer.new.self c.answer.ensures

pub returns-clause-again : goal.returns-clause-again
returns-clause-again c = answers_again c.answer.result c.args.self.now c.answer.new.self c.answer.ensures

pub returns-clause-shorter : goal.returns-clause-shorter
returns-clause-shorter c = answers_shorter c.answer.result c.args.self.now c.answer.new.self c.answer.ensures
