-- What came of a sentence that was run with so many units.
use Rattle.std.specs.Prelude.{◌≡◌, ℕ, ◌<◌, ◌≤◌, nat_lt, Bool, true, false, Result, Err}
use Rattle.base_core.specs.declared.limits.TheConstants.{UNIT_LIMIT}
use Rattle.base_core.specs.declared.refusals.Limit.TheVariants.{StepLimit}
use Rattle.base_core.specs.declared.refusals.Stop.{Stop}
use Rattle.base_core.specs.declared.refusals.Stop.TheVariants.{Out, NoMem}
use Rattle.prover_iface.specs.declared.prover.Outcome.{Outcome}
use Rattle.prover_iface.specs.declared.prover.Outcome.TheVariants.{Done, Interrupted}
use Rattle.prover_iface.specs.Sentences.{Sentence}
use Rattle.vernac_exec.specs.declared.deed.Deed.{Deed}
use Rattle.vernac_exec.specs.declared.state.State.{State}
use Rattle.vernac_exec.specs.Exec.{cost, after, diagnosed}

-- it is done exactly where the cost is at most the units, and then gives that state, those diagnostics and that cost
abbrev pub AnswersSentence : State → Sentence → ℕ → Outcome State → Type 0
AnswersSentence m s units (Done state diags spent) =
    (cost m s ≤ units) × (state ≡ after m s) × (diags ≡ diagnosed m s) × (spent ≡ cost m s)
AnswersSentence m s units Interrupted = units < cost m s

-- memory ran out
abbrev pub is_want : Result Deed Stop → Bool
is_want (Err NoMem) = true
is_want _ = false

-- a sentence ended for want of units, with fewer than one may have
abbrev pub is_starved : Result Deed Stop → ℕ → Bool
is_starved (Err (Out StepLimit)) grant = nat_lt grant UNIT_LIMIT
is_starved _ grant = false
