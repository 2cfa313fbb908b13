use Rattle.std.proofs.Common.{rules, ◌∙◌}
use Rattle.fleche_main.proofs.Counting.{counted}
use Rattle.fleche_main.proofs.generated.counts_of.Goals as goal

pub returns-clause-counts : goal.returns-clause-counts
returns-clause-counts g c =
    let p = g.P.Prover in
    counted p.means c.args.text c.in_ok-check.check.doc.text c.in_ok-again.again c.in_ok-report.report _ _ _ _ c.in_ok-check.ensures.text c.in_ok-report.ensures.report (search rules)
    c.count-sentences.ensures (search rules) (search rules) (c.done.ensures ∙ c.in_ok-edit.ensures.kept c.in_ok-check.ensures.checked)
