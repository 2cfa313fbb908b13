use Rattle.std.proofs.Common.{◌≡◌, ◌++◌, drop}
use Rattle.coq_syntax.specs.Forms.{cases_of}
use Rattle.move_elim.specs.Branches.{case_names}
use Rattle.move_elim.proofs.branches.push_cases.Given as goal

abbrev pub invariant-loop-case : goal.invariant-loop-case
invariant-loop-case l = l.branches ++ case_names (cases_of (drop l.case-index l.cases)) ≡ l.fn.branches ++ case_names (cases_of l.cases)
