use Rattle.std.proofs.Common.{◌≡◌, drop}
use Rattle.coq_syntax.specs.Forms.{constructors_of}
use Rattle.cic_rules.specs.Fuel.{IsSpentOf, left, calls_left}
use Rattle.vernac_exec.specs.Families.{elab_constructors}
use Rattle.vernac_exec.specs.Calls.{constructors_with}
use Rattle.vernac_exec.proofs.families.elab_constructors.Given as goal

abbrev pub invariant-loop-constructor : goal.invariant-loop-constructor
invariant-loop-constructor g l = record {
  run : constructors_with l.env l.params l.place l.constructors l.fn.fuel
      ≡ elab_constructors l.env (calls_left l.fuel) l.params l.place l.ctors (constructors_of (drop l.constructor-index l.constructors)) (left l.fuel);
  kept : IsSpentOf l.fn.fuel l.fuel;
}
