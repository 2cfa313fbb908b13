use Rattle.std.proofs.Common.{rules}
use Rattle.fleche_main.proofs.Counting.{lines_counted}
use Rattle.fleche_main.proofs.generated.generated_lines.Goals as goal

pub returns-clause-lines : goal.returns-clause-lines
returns-clause-lines g c =
    let p = g.P.Prover in
    lines_counted p.means c.args.number c.in_ok-text.text c.in_ok-counts.counts _ (search rules) (search rules) (search rules)
