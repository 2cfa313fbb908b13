-- What came of a sentence, and what it cost.
use Rattle.std.specs.Prelude.{◌≡◌, ℕ, ◌+◌, ◌<◌, ◌≤◌, min, Result, Ok, Err}
use Rattle.prover_iface.specs.declared.prover.Outcome.{Outcome}
use Rattle.prover_iface.specs.declared.prover.Outcome.TheVariants.{Done, Interrupted}
use Rattle.prover_iface.specs.Sentences.{Sentence}
use Rattle.prover_iface.specs.Meanings.{Meanings}

-- it is done exactly where the cost is at most the units, and then gives that state, those
-- diagnostics and that cost
abbrev pub Answers : {S M : Type 0} → (S → M) → Meanings M → M → Sentence → ℕ → Outcome S → Type 0
Answers meaning means m s units (Done state diags cost) =
    (means.cost m s ≤ units) × (meaning state ≡ means.after m s) × (diags ≡ means.diagnosed m s) × (cost ≡ means.cost m s)
Answers meaning means m s units Interrupted = units < means.cost m s

-- the lesser of cost and units was counted, and where memory ran out at most that
abbrev pub Works : {A E : Type 0} → ℕ → ℕ → ℕ → ℕ → Result A E → Type 0
Works cost units before now (Ok answer) = now ≡ before + min cost units
Works cost units before now (Err error) = (before ≤ now) × (now ≤ before + min cost units)

-- this work was counted, and where memory ran out at most that
abbrev pub Worked : {A E : Type 0} → ℕ → ℕ → ℕ → Result A E → Type 0
Worked work before now (Ok answer) = now ≡ before + work
Worked work before now (Err error) = (before ≤ now) × (now ≤ before + work)
