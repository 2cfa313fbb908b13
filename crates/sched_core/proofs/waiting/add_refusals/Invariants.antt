use Rattle.std.proofs.Common.{◌≡◌, List, ◌++◌, map, filter, drop}
use Rattle.lsp_types.specs.Bodies.{error_body}
use Rattle.sched_core.specs.declared.waiting.Waiting.{Waiting}
use Rattle.sched_core.specs.Waiting.{chooses}
use Rattle.sched_core.proofs.waiting.add_refusals.Given as goal

abbrev pub invariant-loop-request : goal.invariant-loop-request
invariant-loop-request l =
    let refused = λ (ws : List Waiting). map (λ w. error_body w.id l.code) (filter (chooses l.choice) ws) in
    l.bodies ++ refused (drop l.request-index l.waiting) ≡ l.initial.bodies ++ refused l.waiting
