-- Where the refusals of a run stand: at places of which something is true, or at the whole sentence. Step by step, and for whatever is put
-- together from steps.
use Rattle.std.proofs.Common.{◌≡◌, ℕ, zero, suc, ◌+◌, ◌^◌, nat_le, nat_lt, List, [], ◌∷◌, ◌++◌, length, Bool, true, false, Option, Some, None, Result, Ok, Err, refl, subst}
use Rattle.std.specs.Prelude.{if◌then◌else◌}
use Rattle.base_core.specs.declared.refusals.Place.{Place}
use Rattle.base_core.specs.declared.refusals.Place.TheVariants.{Whole, Part}
use Rattle.base_core.specs.declared.refusals.Stop.{Stop}
use Rattle.base_core.specs.declared.refusals.Stop.TheVariants.{Refused, Out, NoMem}
use Rattle.base_core.specs.declared.refusals.Limit.{Limit}
use Rattle.base_core.specs.declared.refusals.Limit.TheVariants.{StepLimit, SizeLimit}
use Rattle.core_term.specs.Tree.{Tree, is_small}
use Rattle.cic_rules.specs.declared.context.Hyp.{Hyp}
use Rattle.cic_rules.specs.declared.entries.Entry.{Entry}
use Rattle.cic_rules.specs.declared.env.Slot.{Slot}
use Rattle.cic_rules.specs.Convert.{with_hyp}
use Rattle.cic_rules.specs.Environments.{all_entered, entered, own_slot}
use Rattle.cic_rules.specs.Runs.{Run, give, pure, out_of, refuse, and_then, ◌>>=◌, ◌>>◌, spend, check_size, require, forbid, some_or, Turn, Final, GoOn, next_turn, repeat, runs}
use Rattle.cic_rules.specs.Steps.{Step, Refuses, TooLarge, step_then, take_step}

-- the whole sentence needs nothing
abbrev pub IsAt : (ℕ → ℕ → Type 0) → Place → Type 0
IsAt P Whole = Unit {0}
IsAt P (Part from to) = P from to

abbrev pub StopsAt : (ℕ → ℕ → Type 0) → Stop → Type 0
StopsAt P (Refused r) = IsAt P r.place
StopsAt P (Out limit) = Unit {0}
StopsAt P NoMem = Unit {0}

-- each refusal of the run stands so
pub record Stands {A : Type 0} (P : ℕ → ℕ → Type 0) (run : Run A) : Type 0 where
  pub stands : (left : ℕ) (stop : Stop) → (run left).answer ≡ Err stop → StopsAt P stop

pub stands_give : {A : Type 0} {P : ℕ → ℕ → Type 0} (answer : Result A Stop) → ((stop : Stop) → answer ≡ Err stop → StopsAt P stop) →
    Stands P (give answer)
stands_give answer holds = record { stands = λ left stop e. holds stop e }

pub stands_stop : {A : Type 0} {P : ℕ → ℕ → Type 0} (stop : Stop) → StopsAt P stop → Stands {A = A} P (give (Err stop))
stands_stop {P = P} stop holds = record { stands = λ left other e. let same : stop ≡ other = cc in subst (StopsAt P) same holds }

pub stands_pure : {A : Type 0} {P : ℕ → ℕ → Type 0} (x : A) → Stands P (pure x)
stands_pure x = record { stands = λ left stop e. cc }

pub stands_refuse : {A : Type 0} {P : ℕ → ℕ → Type 0} (code : ℕ) → Stands {A = A} P (refuse code)
stands_refuse code = stands_stop _ tt

pub stands_out : {A : Type 0} {P : ℕ → ℕ → Type 0} (limit : Limit) → Stands {A = A} P (out_of limit)
stands_out limit = stands_stop _ tt

-- a step that takes no units
abbrev pub StepAt : {A : Type 0} → (ℕ → ℕ → Type 0) → Step A → Type 0
StepAt P (Ok x) = Unit {0}
StepAt P (Err (Refuses code place)) = IsAt P place
StepAt P (Err TooLarge) = Unit {0}

pub step_at_then : {A B : Type 0} (P : ℕ → ℕ → Type 0) (step : Step A) (rest : A → Step B) → StepAt P step → ((x : A) → StepAt P (rest x)) →
    StepAt P (step_then step rest)
step_at_then P (Ok x) rest first more = more x
step_at_then P (Err (Refuses code place)) rest first more = first
step_at_then P (Err TooLarge) rest first more = tt

pub stands_step_of : {A : Type 0} (P : ℕ → ℕ → Type 0) (step : Step A) → StepAt P step → Stands P (take_step step)
stands_step_of P (Ok x) at = stands_pure x
stands_step_of P (Err (Refuses code place)) at = stands_stop _ at
stands_step_of P (Err TooLarge) at = stands_stop _ tt

pub stands_if : {A : Type 0} {P : ℕ → ℕ → Type 0} {f g : Run A} (b : Bool) → Stands P f → Stands P g → Stands P (if b then f else g)
stands_if true first second = first
stands_if false first second = second

pub stands_size : {P : ℕ → ℕ → Type 0} (t : Tree) → Stands P (check_size t)
stands_size t = stands_if (is_small t) (stands_pure tt) (stands_out SizeLimit)

pub stands_require : {P : ℕ → ℕ → Type 0} (test : Bool) (code : ℕ) → Stands P (require test code)
stands_require test code = stands_if test (stands_pure tt) (stands_refuse code)

pub stands_forbid : {P : ℕ → ℕ → Type 0} (test : Bool) (code : ℕ) → Stands P (forbid test code)
stands_forbid test code = stands_if test (stands_refuse code) (stands_pure tt)

pub stands_some : {A : Type 0} {P : ℕ → ℕ → Type 0} (code : ℕ) (found : Option A) → Stands P (some_or code found)
stands_some code None = stands_refuse code
stands_some code (Some x) = stands_pure x

room_at : {A : Type 0} (P : ℕ → ℕ → Type 0) (b : Bool) (x : A) (stop : Stop) → (if b then Ok x else Err (Out SizeLimit)) ≡ Err stop → StopsAt P stop
room_at P true x stop e = cc
room_at P false x stop e = let same : Out SizeLimit ≡ stop = cc in subst (StopsAt P) same tt

-- a value, where there is room for it
pub stands_room : {A : Type 0} {P : ℕ → ℕ → Type 0} (b : Bool) (x : A) → Stands P (give (if b then Ok x else Err (Out SizeLimit)))
stands_room {P = P} b x = stands_give _ (room_at P b x)

pub stands_hyp : {P : ℕ → ℕ → Type 0} (ctx : List Hyp) (h : Hyp) → Stands P (with_hyp ctx h)
stands_hyp ctx h = stands_room (nat_lt (length ctx) (2 ^ 31)) (h ∷ ctx)

pub stands_entered : {P : ℕ → ℕ → Type 0} (env slots : List Slot) → Stands P (give (all_entered env slots))
stands_entered env slots = stands_room (nat_le (length env + length slots) (2 ^ 31)) (env ++ slots)

pub stands_entry : {P : ℕ → ℕ → Type 0} (env : List Slot) (e : Entry) → Stands P (give (entered env e))
stands_entry env e = stands_entered env (own_slot e ∷ [])

spend_by : (P : ℕ → ℕ → Type 0) (b : Bool) (units left : ℕ) (stop : Stop) → nat_le units left ≡ b → (spend units left).answer ≡ Err stop → StopsAt P stop
spend_by P true units left stop is e = let none = rw is at e in cc
spend_by P false units left stop is e =
    let found = rw is at e in
    let same : Out StepLimit ≡ stop = cc in
    subst (StopsAt P) same tt

pub stands_spend : {P : ℕ → ℕ → Type 0} (units : ℕ) → Stands P (spend units)
stands_spend {P = P} units = record { stands = λ left stop e. spend_by P (nat_le units left) units left stop refl e }

then_by : {A B : Type 0} (P : ℕ → ℕ → Type 0) (answer : Result A Stop) (left : ℕ) (g : A → Run B) →
    ((stop : Stop) → answer ≡ Err stop → StopsAt P stop) → ((x : A) → Stands P (g x)) →
    (stop : Stop) → (and_then answer g left).answer ≡ Err stop → StopsAt P stop
then_by P (Ok x) left g first rest stop e = (rest x).stands left stop e
then_by P (Err other) left g first rest stop e = let same : other ≡ stop = cc in subst (StopsAt P) same (first other refl)

-- a run, and the rest with its value
pub stands_bind : {A B : Type 0} {P : ℕ → ℕ → Type 0} {f : Run A} {g : A → Run B} → Stands P f → ((x : A) → Stands P (g x)) → Stands P (f >>= g)
stands_bind {P = P} {f = f} {g = g} first rest =
    record { stands = λ left stop e. then_by P (f left).answer (f left).left g (first.stands left) rest stop e }

pub stands_step : {A : Type 0} {P : ℕ → ℕ → Type 0} {f : Run (Unit {0})} {g : Run A} → Stands P f → Stands P g → Stands P (f >> g)
stands_step {P = P} {f = f} {g = g} first rest =
    record { stands = λ left stop e. then_by P (f left).answer (f left).left (λ _. g) (first.stands left) (λ _. rest) stop e }

module _ {S A : Type 0} (P : ℕ → ℕ → Type 0) (turn : S → Run (Turn S A)) (turns : (s : S) → Stands P (turn s)) where
  next_stands : (loop : S → Run A) → ((s : S) → Stands P (loop s)) → (x : Turn S A) → Stands P (next_turn loop x)
  next_stands loop rest (Final x) = stands_pure x
  next_stands loop rest (GoOn s) = rest s

  repeat_stands : (k : ℕ) (s : S) → Stands P (repeat turn k s)
  unfolding repeat
  repeat_stands zero s = stands_out StepLimit
  repeat_stands (suc k) s = stands_bind (turns s) (next_stands (repeat turn k) (repeat_stands k))

  -- turns until one is final
  pub stands_loop : (s : S) → Stands P (runs turn s)
  stands_loop s = record { stands = λ left. (repeat_stands (suc left) s).stands left }

-- what search takes a run apart with
pub ruleset stands_laws = (stands_pure, stands_refuse, stands_out, stands_bind, stands_step, stands_spend, stands_size, stands_require, stands_forbid, stands_some, stands_if, stands_hyp, stands_entered, stands_entry)
