use Rattle.std.proofs.Common.{◌≡◌, List, ◌++◌, map, filter, drop}
use Rattle.doc_check.specs.Check.{views}
use Rattle.sched_core.specs.declared.waiting.Waiting.{Waiting}
use Rattle.sched_core.specs.Waiting.{answer, is_ready_for}
use Rattle.sched_core.proofs.open_document.OpenDocument.add_answers.Given as goal

abbrev pub invariant-loop-request : goal.invariant-loop-request
invariant-loop-request g l =
    let answers = λ (ws : List Waiting). map (answer (views g.P.Prover.means) l.self) (filter (is_ready_for l.self) ws) in
    l.bodies ++ answers (drop l.request-index l.waiting) ≡ l.initial.bodies ++ answers l.waiting
