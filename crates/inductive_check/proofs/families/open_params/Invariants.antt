use Rattle.std.proofs.Common.{◌≡◌, drop}
use Rattle.cic_rules.specs.Fuel.{IsSpentOf, left, calls_left}
use Rattle.cic_rules.specs.Inductive.{open_params}
use Rattle.cic_rules.specs.Judges.{MayJudge}
use Rattle.inductive_check.specs.Steps.{open_with}
use Rattle.inductive_check.proofs.families.open_params.Given as goal

abbrev pub invariant-loop-param : goal.invariant-loop-param
invariant-loop-param g l = record {
  run : open_with l.env l.params l.fn.fuel ≡ open_params l.env (calls_left l.fn.fuel) (drop l.param-index l.params) l.opened.ctx l.opened.used (left l.fuel);
  judged : MayJudge l.env l.opened.ctx;
  kept : IsSpentOf l.fn.fuel l.fuel;
}
