-- What calls that take a turn of reduction answer.
use Rattle.std.specs.Prelude.{◌≡◌, ℕ, List, Bool, true, Option, Some, None, Result, Ok, Err}
use Rattle.base_core.specs.declared.refusals.Stop.{Stop}
use Rattle.base_core.specs.declared.refusals.Stop.TheVariants.{Refused, Out, NoMem}
use Rattle.core_term.specs.Tree.{Tree, Constant, is_small}
use Rattle.core_term.specs.Places.{subst_of}
use Rattle.term_spine.specs.Spine.{IsHead, apply_all}
use Rattle.term_spine.specs.declared.spines.Spine.{Spine}
use Rattle.term_spine.specs.Spines.{tree_of_spine, IsSpineOf}
use Rattle.cic_rules.specs.declared.context.Hyp.{Hyp}
use Rattle.cic_rules.specs.declared.env.Slot.{Slot}
use Rattle.cic_rules.specs.Families.{iota}
use Rattle.cic_rules.specs.Runs.{Ran, Run, ◌>>=◌, Turn, Final, GoOn, runs}
use Rattle.cic_rules.specs.Fuel.{FuelState, left, calls_left}
use Rattle.cic_rules.specs.Judges.{Meets}
use Rattle.cic_rules.specs.Reduce.{contract, redex_of, reduce_redex, reduce_step, contract_iota, whnf_at}

-- a spine whose head applies nothing, of a term that no limit forbids
pub record IsSpine (s : Spine) : Type 0 where
  pub head : IsHead s.head
  pub small : is_small (tree_of_spine s) ≡ true

-- a call goes on with the spine as a turn does, unless memory runs out
abbrev pub GoesOn : Result Spine Stop → ℕ → Ran (Turn Tree Tree) → Type 0
GoesOn (Ok s) left ran = (Ok (GoOn (tree_of_spine s)) ≡ ran.answer) × (left ≡ ran.left) × IsSpine s
GoesOn (Err (Refused r)) left ran = ⊥
GoesOn (Err (Out l)) left ran = (Err (Out l) ≡ ran.answer) × (left ≡ ran.left)
GoesOn (Err NoMem) left ran = Unit {0}

-- the same, or it answers None where the turn is final with this term
abbrev pub Turns : Result (Option Spine) Stop → ℕ → Tree → Ran (Turn Tree Tree) → Type 0
Turns (Ok None) left t ran = (Ok (Final t) ≡ ran.answer) × (left ≡ ran.left)
Turns (Ok (Some s)) left t ran = (Ok (GoOn (tree_of_spine s)) ≡ ran.answer) × (left ≡ ran.left) × IsSpine s
Turns (Err (Refused r)) left t ran = ⊥
Turns (Err (Out l)) left t ran = (Err (Out l) ≡ ran.answer) × (left ≡ ran.left)
Turns (Err NoMem) left t ran = Unit {0}

module _ (env : List Slot) (delta : Bool) (calls : ℕ) (ctx : List Hyp) where
  -- a turn of a head with its arguments
  abbrev pub spine_step : Tree → List Tree → Run (Turn Tree Tree)
  spine_step head args = reduce_redex env delta (whnf_at env delta calls ctx) (apply_all head args) (redex_of env delta ctx head args)

  -- a turn of an eliminator with its arguments, by its major premise
  abbrev pub major_step : Tree → List Tree → Tree → Run (Turn Tree Tree)
  major_step head args major = whnf_at env delta calls ctx major >>= λ value. contract_iota (apply_all head args) (iota env head args value)

  -- turns from a term on, until one is final
  abbrev pub loop_from : Tree → Run Tree
  loop_from t = runs (reduce_step env delta (whnf_at env delta calls ctx) ctx) t

-- a call contracts to this term for so many units
abbrev pub Pays : Result Spine Stop → FuelState → FuelState → ℕ → Tree → Type 0
Pays result old new units to = GoesOn result (left new) (contract units to (left old))

-- a call takes the turn of a spine by this run
abbrev pub Takes : Result (Option Spine) Stop → FuelState → FuelState → Spine → (Spine → Run (Turn Tree Tree)) → Type 0
Takes result old new s run = Turns result (left new) (tree_of_spine s) (run s (left old))

-- a call reduces as a run does
abbrev pub Reduces : Result Tree Stop → FuelState → FuelState → Run Tree → Type 0
Reduces result old new run = Meets result (left new) (run (left old))

-- what a call gives stands for a run's value
abbrev pub IsOkAs : {A B : Type 0} → (A → B → Type 0) → A → Result B Stop → Type 0
IsOkAs R x (Ok y) = R x y
IsOkAs R x (Err stop) = ⊥

-- a call ends as a run does, with what stands for its value, unless memory runs out. It is never refused
abbrev pub EndsAs : {A B : Type 0} → (A → B → Type 0) → Result A Stop → ℕ → Ran B → Type 0
EndsAs R (Ok x) left ran = IsOkAs R x ran.answer × (left ≡ ran.left)
EndsAs R (Err (Refused r)) left ran = ⊥
EndsAs R (Err (Out l)) left ran = (Err (Out l) ≡ ran.answer) × (left ≡ ran.left)
EndsAs R (Err NoMem) left ran = Unit {0}

-- a call ends with the spine of what a run gives
abbrev pub ReducesTo : Result Spine Stop → FuelState → FuelState → Run Tree → Type 0
ReducesTo result old new run = EndsAs IsSpineOf result (left new) (run (left old))

module _ (env : List Slot) (delta : Bool) (ctx : List Hyp) (f : FuelState) where
  -- on some fuel: the turn of a spine, and of one whose head is the global at a place
  abbrev pub spine_turn : Spine → Run (Turn Tree Tree)
  spine_turn s = spine_step env delta (calls_left f) ctx s.head s.args

  abbrev pub global_turn : ℕ → Spine → Run (Turn Tree Tree)
  global_turn place s = spine_step env delta (calls_left f) ctx (Constant place) s.args

  -- the turn of an eliminator by its major premise
  abbrev pub by_major : Tree → Spine → Run (Turn Tree Tree)
  by_major major s = major_step env delta (calls_left f) ctx s.head s.args major

  -- turns from a term on
  abbrev pub loop_of : Tree → Run Tree
  loop_of t = loop_from env delta (calls_left f) ctx t

  -- weak head reduction
  abbrev pub reduce_of : Tree → Run Tree
  reduce_of t = whnf_at env delta (calls_left f) ctx t

-- iota of a spine on a value
abbrev pub iota_turn : List Slot → Tree → Spine → Run (Turn Tree Tree)
iota_turn env value s = contract_iota (tree_of_spine s) (iota env s.head s.args value)

-- a value put into a body, with what is applied to it
abbrev pub put_all : Tree → Tree → List Tree → Tree
put_all body value args = apply_all (subst_of body value 0) args
