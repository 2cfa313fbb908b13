-- All that the prover means.
use Rattle.prover_iface.specs.Meanings.{Meanings}
use Rattle.vernac_exec.specs.declared.state.State.{State}
use Rattle.vernac_exec.specs.Exec.{after, diagnosed, cost}
use Rattle.vernac_exec.specs.Outline.{outline_of}
use Rattle.vernac_exec.specs.States.{opened_by}
use Rattle.vernac_exec.specs.Views.{goals_of}
use Rattle.cic_prover.specs.First.{first, first_cost}

abbrev pub means : Meanings State
means = record {
  first = first;
  first_cost = first_cost;
  after = after;
  diagnosed = diagnosed;
  cost = cost;
  opened = λ m. opened_by m.opened;
  goals_of = λ m. goals_of m.env m.opened;
  outline_of = outline_of;
}
