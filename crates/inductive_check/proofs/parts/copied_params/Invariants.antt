use Rattle.std.proofs.Common.{◌≡◌, ◌++◌, drop}
use Rattle.cic_rules.specs.Contexts.{AreParams}
use Rattle.inductive_check.proofs.parts.copied_params.Given as goal

abbrev pub invariant-loop-param : goal.invariant-loop-param
invariant-loop-param l = record {
  all : l.list ++ drop l.param-index l.params ≡ l.params;
  rest : AreParams (drop l.param-index l.params);
}
