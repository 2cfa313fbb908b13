use Rattle.std.proofs.Common.{◌≡◌, ◌+◌, ◌≤◌, drop}
use Rattle.cic_prover.specs.First.{sentences_at, after_all, cost_of}
use Rattle.cic_prover.proofs.first.run_all.Given as goal

abbrev pub invariant-loop-span : goal.invariant-loop-span
invariant-loop-span g l = record {
  state : after_all l.state (sentences_at l.text (drop l.span-index l.spans)) ≡ after_all l.initial.state (sentences_at l.text l.spans);
  work : l.steps + cost_of l.state (sentences_at l.text (drop l.span-index l.spans)) ≡ l.initial.steps + cost_of l.initial.state (sentences_at l.text l.spans);
  rises : l.initial.steps ≤ l.steps;
}
