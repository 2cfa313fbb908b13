use Rattle.std.proofs.Common.{rules, arith, ap, ◌∙◌}
use Rattle.doc_check.proofs.Whole.{left_on, left_broken}
use Rattle.doc_check.proofs.checking.run_all.Goals as goal

pub loop-alloc-preserved : goal.loop-alloc-preserved
loop-alloc-preserved g c =
    let p = g.P.Prover in
    let h = c.loop-alloc.invariant in (
      c.in-Ok.ensures.way,
      ap (λ d. d.text) c.in-Ok.ensures.next ∙ h.1,
      left_on p.means c.args.steps.now c.loop-alloc.steps c.run_next.new.steps c.args.check.now c.loop-alloc.check c.run_next.new.check _
          c.in-Ok.ensures.next (search rules) h.2 c.in-Ok.ensures.work,
      omega (arith, h.3, c.in-Ok.ensures.work),
    )

pub returns-in-Err-clause-work : goal.returns-in-Err-clause-work
returns-in-Err-clause-work g c =
    let p = g.P.Prover in
    let h = c.loop-alloc.invariant in
    left_broken p.means c.args.steps.now c.loop-alloc.steps c.run_next.new.steps c.args.check.now c.loop-alloc.check
    (search rules) h.2 c.in-Err.ensures.work.0 c.in-Err.ensures.work.1 h.3
