use Rattle.serde_json.specs.View.{view}
use Rattle.doc_check.specs.Check.{views}
use Rattle.sched_core.specs.Waiting.{told_of}
use Rattle.sched_core.proofs.Answering.{result_is, told_whole}
use Rattle.sched_core.proofs.open_document.OpenDocument.answer.Goals as goal

pub returns : goal.returns
returns g c =
    let question = c.args.request.now.question in
    result_is c.encode_result.result c.args.request.now.id (view c.in_ok-told.told) (told_of (views g.P.Prover.means) c.args.self.now question)
    c.in_ok-told.ensures (told_whole (views g.P.Prover.means) c.args.self.now question) c.encode_result.ensures.text
