use Rattle.utf16_doc.proofs.Cutting.{offset_cut, run_is, run_ends}
use Rattle.utf16_doc.proofs.laws.law_of_offsets.Goals as goal

pub returns-clause-lines : goal.returns-clause-lines
returns-clause-lines c = λ encoding cut at lines. offset_cut encoding cut at lines

pub returns-clause-runs : goal.returns-clause-runs
returns-clause-runs c = λ encoding most content. run_is encoding most content

pub returns-clause-characters : goal.returns-clause-characters
returns-clause-characters c = λ encoding most content. run_ends encoding content most
