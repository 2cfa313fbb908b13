-- One sentence in a state: the state behind it, what is told of it, and what it costs.
use Rattle.std.specs.Prelude.{ℕ, ◌+◌, ◌-◌, List}
use Rattle.base_core.specs.declared.limits.TheConstants.{UNIT_LIMIT}
use Rattle.prover_iface.specs.declared.diagnostics.RelDiag.{RelDiag}
use Rattle.prover_iface.specs.Sentences.{Sentence}
use Rattle.cic_rules.specs.Fuel.{NESTING_LIMIT}
use Rattle.cic_rules.specs.Runs.{Ran}
use Rattle.vernac_exec.specs.declared.deed.Deed.{Deed}
use Rattle.vernac_exec.specs.declared.state.State.{State}
use Rattle.vernac_exec.specs.Readings.{reading}
use Rattle.vernac_exec.specs.Sentences.{sentence_run}
use Rattle.vernac_exec.specs.States.{behind}
use Rattle.vernac_exec.specs.Diagnostics.{told}

-- a sentence with all the units that one has
abbrev pub whole_run : State → Sentence → Ran Deed
whole_run m s = sentence_run m.env NESTING_LIMIT m.opened s.kind s.text UNIT_LIMIT

-- one unit for the sentence, and those that it spends
abbrev pub cost : State → Sentence → ℕ
cost m s = 1 + (UNIT_LIMIT - (whole_run m s).left)

abbrev pub after : State → Sentence → State
after m s = behind m (reading s.kind s.text) (whole_run m s).answer

abbrev pub diagnosed : State → Sentence → List RelDiag
diagnosed m s = told s.text (whole_run m s).answer
