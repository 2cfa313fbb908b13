use Rattle.std.proofs.Common.{◌≡◌}
use Rattle.axiom_lists.specs.Lists.{axioms_before}
use Rattle.axiom_lists.proofs.lists.axiom_lists.Given as goal

abbrev pub invariant-loop-place : goal.invariant-loop-place
invariant-loop-place l = l.lists.items ≡ axioms_before l.env l.place
