use Rattle.std.proofs.Common.{◌≡◌, drop}
use Rattle.cic_rules.specs.Fuel.{IsSpentOf, left, calls_left}
use Rattle.inductive_check.specs.Steps.{rows_with, rows_behind}
use Rattle.inductive_check.proofs.families.rows_of.Given as goal

abbrev pub invariant-loop-ctor : goal.invariant-loop-ctor
invariant-loop-ctor g l = record {
  run : rows_with l.env l.ctx l.d l.form.place l.ctors l.fn.fuel ≡ rows_behind l.env (calls_left l.fn.fuel) l.ctx l.d l.form.place l.rows (drop l.ctor-index l.ctors) (left l.fuel);
  kept : IsSpentOf l.fn.fuel l.fuel;
}
