-- Runs that are paid with units, and the steps that each definition of a judgement is put together from.
use Rattle.std.specs.Prelude.{ℕ, zero, suc, ◌-◌, nat_le, Bool, Option, Some, None, Result, Ok, Err, if◌then◌else◌}
use Rattle.base_core.specs.declared.refusals.Stop.{Stop}
use Rattle.base_core.specs.declared.refusals.Stop.TheVariants.{Refused, Out}
use Rattle.base_core.specs.declared.refusals.Place.{Place}
use Rattle.base_core.specs.declared.refusals.Place.TheVariants.{Whole}
use Rattle.base_core.specs.declared.refusals.Limit.{Limit}
use Rattle.base_core.specs.declared.refusals.Limit.TheVariants.{StepLimit, SizeLimit}
use Rattle.core_term.specs.Tree.{Tree, is_small}

-- what a run answers, and how many units it leaves
pub record Ran (A : Type 0) : Type 0 where
  pub answer : Result A Stop
  pub left : ℕ

-- a run has so many units to begin with
abbrev pub Run : Type 0 → Type 0
Run A = ℕ → Ran A

-- an answer at once, which costs nothing
abbrev pub give : {A : Type 0} → Result A Stop → Run A
give answer = λ left. record { answer = answer; left = left }

abbrev pub pure : {A : Type 0} → A → Run A
pure x = give (Ok x)

abbrev pub out_of : {A : Type 0} → Limit → Run A
out_of limit = give (Err (Out limit))

-- a refusal with its code, at a place of the sentence, or at the whole of it
abbrev pub refuse_at : {A : Type 0} → ℕ → Place → Run A
refuse_at code place = give (Err (Refused (record { code = code; place = place })))

abbrev pub refuse : {A : Type 0} → ℕ → Run A
refuse code = refuse_at code Whole

abbrev pub and_then : {A B : Type 0} → Result A Stop → (A → Run B) → Run B
and_then (Ok x) rest = rest x
and_then (Err stop) rest = give (Err stop)

-- a run, and where it has a value the rest with it
infixl 10 ◌>>=◌
abbrev pub ◌>>=◌ : {A B : Type 0} → Run A → (A → Run B) → Run B
run >>= rest = λ left. and_then (run left).answer rest (run left).left

-- a step that has no value of its own, and the rest
infixl 10 ◌>>◌
abbrev pub ◌>>◌ : {A : Type 0} → Run (Unit {0}) → Run A → Run A
step >> rest = λ left. and_then (step left).answer (λ _. rest) (step left).left

-- so many units: a charge that is more than what is left takes all
abbrev pub spend : ℕ → Run (Unit {0})
spend units = λ left. if nat_le units left then pure tt (left - units) else out_of StepLimit 0

-- a term that was made must not be too large
abbrev pub check_size : Tree → Run (Unit {0})
check_size t = if is_small t then pure tt else out_of SizeLimit

-- this must hold, or must not, else it is refused
abbrev pub require : Bool → ℕ → Run (Unit {0})
require test code = if test then pure tt else refuse code

abbrev pub forbid : Bool → ℕ → Run (Unit {0})
forbid test code = if test then refuse code else pure tt

-- a value that must be there
abbrev pub some_at : {A : Type 0} → ℕ → Place → Option A → Run A
some_at code place None = refuse_at code place
some_at code place (Some x) = pure x

abbrev pub some_or : {A : Type 0} → ℕ → Option A → Run A
some_or code None = refuse code
some_or code (Some x) = pure x

-- how a turn of a loop ends
pub data Turn (S A : Type 0) : Type 0 where
  Final : A → Turn S A
  GoOn : S → Turn S A

-- what follows a turn: nothing, or the next one
abbrev pub next_turn : {S A : Type 0} → (S → Run A) → Turn S A → Run A
next_turn loop (Final x) = pure x
next_turn loop (GoOn s) = loop s

-- at most so many turns; the bound is never met where each turn that goes on takes a unit and there are more turns than units
unfoldable pub repeat : {S A : Type 0} → (S → Run (Turn S A)) → ℕ → S → Run A
repeat turn zero s = out_of StepLimit
repeat turn (suc turns) s = turn s >>= next_turn (repeat turn turns)

-- turns until one is final
abbrev pub runs : {S A : Type 0} → (S → Run (Turn S A)) → S → Run A
runs turn s = λ left. repeat turn (suc left) s left
