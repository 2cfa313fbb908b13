use Rattle.std.proofs.Common.{◌≡◌, drop}
use Rattle.cic_rules.specs.Inductive.{any_taken}
use Rattle.vernac_exec.proofs.names.any_taken.Given as goal

abbrev pub invariant-loop-name : goal.invariant-loop-name
invariant-loop-name l = any_taken l.env (drop l.name-index l.names) ≡ any_taken l.env l.names
