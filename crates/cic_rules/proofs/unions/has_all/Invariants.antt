use Rattle.std.proofs.Common.{drop}
use Rattle.cic_rules.specs.Unions.{HasEach}
use Rattle.cic_rules.proofs.unions.has_all.Given as goal

abbrev pub invariant-loop-place : goal.invariant-loop-place
invariant-loop-place l = HasEach l.all (drop l.place-index l.place-items) → HasEach l.all l.some
