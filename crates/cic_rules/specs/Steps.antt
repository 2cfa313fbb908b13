-- Steps that take no units: a value, a refusal at a place, or something too large; never want of units.
use Rattle.std.specs.Prelude.{ℕ, Result, Ok, Err, if◌then◌else◌}
use Rattle.base_core.specs.declared.refusals.Stop.{Stop}
use Rattle.base_core.specs.declared.refusals.Stop.TheVariants.{Refused, Out}
use Rattle.base_core.specs.declared.refusals.Place.{Place}
use Rattle.base_core.specs.declared.refusals.Limit.TheVariants.{SizeLimit}
use Rattle.core_term.specs.Tree.{Tree, is_small}
use Rattle.cic_rules.specs.Runs.{Run, give}

-- why a step gives no value
pub data Halt : Type 0 where
  Refuses : ℕ → Place → Halt
  TooLarge : Halt

abbrev pub Step : Type 0 → Type 0
Step A = Result A Halt

abbrev pub step_then : {A B : Type 0} → Step A → (A → Step B) → Step B
step_then (Ok x) rest = rest x
step_then (Err halt) rest = Err halt

infixl 10 ◌>>=◌
abbrev pub ◌>>=◌ : {A B : Type 0} → Step A → (A → Step B) → Step B
step >>= rest = step_then step rest

infixl 10 ◌>>◌
abbrev pub ◌>>◌ : {A : Type 0} → Step (Unit {0}) → Step A → Step A
step >> rest = step_then step (λ _. rest)

-- a refusal with its code at a place
abbrev pub refuse_step : {A : Type 0} → ℕ → Place → Step A
refuse_step code place = Err (Refuses code place)

-- a term that was made must not be too large
abbrev pub sized_step : Tree → Step (Unit {0})
sized_step t = if is_small t then Ok tt else Err TooLarge

abbrev pub stop_of : Halt → Stop
stop_of (Refuses code place) = Refused (record { code = code; place = place })
stop_of TooLarge = Out SizeLimit

-- what a step answers, as calls answer it
abbrev pub answer_of : {A : Type 0} → Step A → Result A Stop
answer_of (Ok x) = Ok x
answer_of (Err halt) = Err (stop_of halt)

-- a step as a run
abbrev pub take_step : {A : Type 0} → Step A → Run A
take_step step = give (answer_of step)
