use Rattle.std.proofs.Common.{◌≡◌, ◌+◌, ◌-◌, ◌≤◌}
use Rattle.doc_check.specs.Check.{count}
use Rattle.doc_check.specs.Document.{done}
use Rattle.doc_check.specs.Checked.{IsUnderWay, cost_left}
use Rattle.doc_check.proofs.checking.run_all.Given as goal

abbrev pub invariant-loop-alloc : goal.invariant-loop-alloc
invariant-loop-alloc g l =
    IsUnderWay g.P.Prover.meaning g.P.Prover.means l.table l.check × (l.check.text ≡ l.fn.check.text)
    × (l.steps + cost_left g.P.Prover.means l.check ≡ l.fn.steps + cost_left g.P.Prover.means l.fn.check)
    × (l.fn.steps ≤ l.steps)

abbrev pub decreases-loop-alloc : goal.decreases-loop-alloc
decreases-loop-alloc g l = count l.check.text - done l.check
