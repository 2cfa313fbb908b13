use Rattle.memo_table.proofs.Standing.{touched_fits, kept_fits, trimmed_fits}
use Rattle.memo_table.proofs.laws.law_of_calls.Goals as goal

pub returns-clause-look : goal.returns-clause-look
returns-clause-look g c = touched_fits g.P.Prover.meaning g.P.Prover.means

pub returns-clause-keep : goal.returns-clause-keep
returns-clause-keep g c = kept_fits g.P.Prover.meaning g.P.Prover.means

pub returns-clause-trim : goal.returns-clause-trim
returns-clause-trim g c = trimmed_fits g.P.Prover.meaning g.P.Prover.means
