use Rattle.std.proofs.Common.{◌≡◌, ◌++◌, drop}
use Rattle.term_print.specs.Show.{global_names}
use Rattle.vernac_exec.proofs.outline.names_of.Given as goal

abbrev pub invariant-loop-place : goal.invariant-loop-place
invariant-loop-place l = l.names ++ global_names l.env (drop l.place-index l.places) ≡ global_names l.env l.places
