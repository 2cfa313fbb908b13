use Rattle.std.proofs.Common.{◌≡◌, ◌++◌, drop}
use Rattle.term_print.specs.Show.{global_names}
use Rattle.term_print.proofs.print.with_globals.Given as goal

abbrev pub invariant-loop-place : goal.invariant-loop-place
invariant-loop-place l = l.scope ++ global_names l.env (drop l.place-index l.places) ≡ l.initial.scope ++ global_names l.env l.places
