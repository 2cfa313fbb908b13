-- What holds of every prover, of this one.
use Rattle.std.specs.Prelude.{◌<◌, ◌≤◌, List, [], length, All, IfSome}
use Rattle.base_core.specs.declared.limits.TheConstants.{COST_LIMIT}
use Rattle.prover_iface.specs.Sentences.{Sentence}
use Rattle.prover_iface.specs.Meanings.{state_behind}
use Rattle.prover_iface.specs.Laws.{TellsWithin, IsPast}
use Rattle.vernac_exec.specs.declared.state.State.{State}
use Rattle.vernac_exec.specs.Exec.{diagnosed, cost}
use Rattle.vernac_exec.specs.Outline.{outline_of}
use Rattle.vernac_exec.specs.States.{over, opened_by}
use Rattle.vernac_exec.proofs.UnitLaws.{costs_are_bounded}
use Rattle.vernac_exec.proofs.ProverLaws.{diags_are_placed, rows_are_past, proofs_are_past}
use Rattle.cic_prover.specs.First.{after_all, prelude_sentences, first}
use Rattle.cic_prover.specs.Exec.{means}

pub costs_fit : (m : State) (s : Sentence) → cost m s ≤ COST_LIMIT
costs_fit m s = (costs_are_bounded m s).1

pub told_within : TellsWithin diagnosed
told_within = diags_are_placed

pub declared_past : (sentences : List Sentence) → All (IsPast (length sentences)) (outline_of (state_behind means sentences))
unfolding first
declared_past sentences = rows_are_past (after_all (over []) prelude_sentences).env sentences

pub opened_past : (sentences : List Sentence) → IfSome (opened_by (state_behind means sentences).opened) (λ n. n < length sentences)
unfolding first
opened_past sentences = proofs_are_past (after_all (over []) prelude_sentences).env sentences
