use Rattle.std.proofs.Common.{◌≡◌, drop}
use Rattle.inductive_check.specs.Forms.{are_positive_at}
use Rattle.inductive_check.proofs.forms.are_positive.Given as goal

abbrev pub invariant-loop-ctor : goal.invariant-loop-ctor
invariant-loop-ctor l = are_positive_at l.form (drop l.ctor-index l.ctors) ≡ are_positive_at l.form l.ctors
