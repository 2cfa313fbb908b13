-- Laws of the definitions.
use Rattle.std.specs.Prelude.{◌≡◌, ℕ, ◌+◌, ◌-◌, ◌<◌, ◌≤◌, min, List, ◌∷◌, ◌++◌, Option, Some, None, Err, slice_get}
use Rattle.base_core.specs.declared.kind.Kind.{Kind}
use Rattle.base_core.specs.declared.limits.TheConstants.{UNIT_LIMIT, COST_LIMIT}
use Rattle.base_core.specs.declared.refusals.Limit.TheVariants.{StepLimit}
use Rattle.base_core.specs.declared.refusals.Stop.{Stop}
use Rattle.base_core.specs.declared.refusals.Stop.TheVariants.{Out}
use Rattle.prover_iface.specs.declared.outline.ItemKind.{ItemKind}
use Rattle.prover_iface.specs.Sentences.{Sentence}
use Rattle.cic_rules.specs.declared.env.Slot.{Slot}
use Rattle.cic_rules.specs.Environments.{IsEnvironment}
use Rattle.cic_rules.specs.Fuel.{NESTING_LIMIT}
use Rattle.cic_rules.specs.Laws.{KeepsLawOfFuel}
use Rattle.cic_rules.specs.Runs.{Ran}
use Rattle.bullet_focus.specs.FocusState.{FocusState}
use Rattle.bullet_focus.specs.Laws.{all_goals}
use Rattle.proof_state.specs.IsProof.{times, IsProof}
use Rattle.proof_state.specs.Proof.{Proof, GoalStatus, Unsolved}
use Rattle.proof_state.specs.Scopes.{HaveGoalsIn}
use Rattle.vernac_exec.specs.declared.deed.Deed.{Deed}
use Rattle.vernac_exec.specs.declared.state.Theorem.{Theorem}
use Rattle.vernac_exec.specs.declared.state.OpenProof.{OpenProof}
use Rattle.vernac_exec.specs.declared.state.State.{State}
use Rattle.vernac_exec.specs.Sentences.{sentence_run}
use Rattle.vernac_exec.specs.Readings.{reading}
use Rattle.vernac_exec.specs.States.{over, passed, declared, began, went_on, dropped, refused}
use Rattle.vernac_exec.specs.Exec.{whole_run, cost, after}

-- a sentence under a lower limit
abbrev pub FuelOfSentences : Type 0
FuelOfSentences =
    (env : List Slot) (calls : ℕ) (opened : Option OpenProof) (kind : Kind) (text : List ℕ) → KeepsLawOfFuel (sentence_run env calls opened kind text)

-- a sentence costs its own unit at least, and at most all units besides
abbrev pub CostsAreBounded : Type 0
CostsAreBounded = (m : State) (s : Sentence) → (1 ≤ cost m s) × (cost m s ≤ COST_LIMIT)

-- of the units that are handed in, what a sentence may spend: one is its own
abbrev pub grant : ℕ → ℕ
grant units = min (units - 1) UNIT_LIMIT

-- a sentence with what it may spend of the units that are handed in
abbrev pub granted_run : State → Sentence → ℕ → Ran Deed
granted_run m s units = sentence_run m.env NESTING_LIMIT m.opened s.kind s.text (grant units)

-- that run had units enough: it did not end for want of them, or no run has more
abbrev pub HadEnough : State → Sentence → ℕ → Type 0
HadEnough m s units = (granted_run m s units).answer ≡ Err (Out StepLimit) → grant units ≡ UNIT_LIMIT

-- so it tells whether the cost fits, and where it does it is as good as a whole run
pub record IsDecided (m : State) (s : Sentence) (units : ℕ) : Type 0 where
  pub short : (granted_run m s units).answer ≡ Err (Out StepLimit) → grant units < UNIT_LIMIT → units < cost m s
  pub fits : HadEnough m s units → cost m s ≤ units
  pub answer : HadEnough m s units → (granted_run m s units).answer ≡ (whole_run m s).answer
  pub spent : HadEnough m s units → 1 + (grant units - (granted_run m s units).left) ≡ cost m s

abbrev pub OneRunDecides : Type 0
OneRunDecides = (m : State) (s : Sentence) (units : ℕ) → 1 ≤ units → IsDecided m s units

-- an environment with globals behind it, at least one
pub record Adds (env made : List Slot) : Type 0 where
  pub first : Slot
  pub more : List Slot
  pub parts : made ≡ env ++ first ∷ more

-- a state behind another: the sentence left all but the count; or it added globals, and a row for the first of them, and no proof is
-- under way any more; or it began a proof, took a step in it or dropped it, which leaves environment and outline
pub data Follows (m n : State) : Type 0 where
  Passes : n ≡ passed m → Follows m n
  Enters : (kind : ItemKind) (env : List Slot) → Adds m.env env → n ≡ declared m kind env → Follows m n
  Begins : (theorem : Theorem) (proof : Proof) → m.opened ≡ None → Adds m.env theorem.admitted → n ≡ began m theorem proof → Follows m n
  GoesOn : (o : OpenProof) (proof : Proof) (focus : FocusState) → m.opened ≡ Some o → n ≡ went_on m proof focus → Follows m n
  Drops : n ≡ dropped m → Follows m n

-- the theorem of a proof under way stands at the next place of the environment that was put by
abbrev pub PutsBy : List Slot → Option OpenProof → Type 0
PutsBy env None = Unit {0}
PutsBy env (Some o) = Adds env o.theorem.admitted × IsEnvironment o.theorem.admitted

-- a goal is in focus, or waits in a level, once where it is unsolved, and else never
abbrev pub unsolved_count : Option GoalStatus → ℕ
unsolved_count (Some (Unsolved g)) = 1
unsolved_count _ = 0

abbrev pub Agrees : List GoalStatus → FocusState → Type 0
Agrees goals focus = (n : ℕ) → times n (all_goals focus) ≡ unsolved_count (slice_get goals n)

-- the focus of the proof under way has exactly its unsolved goals
abbrev pub IsUnderWay : Option OpenProof → Type 0
IsUnderWay None = Unit {0}
IsUnderWay (Some o) = Agrees o.proof.goals o.focus

-- a proof under way is one as the steps of proofs keep them, and its goals are in scope
abbrev pub IsHeldProof : List Slot → Option OpenProof → Type 0
IsHeldProof env None = Unit {0}
IsHeldProof env (Some o) = IsProof o.proof × HaveGoalsIn env o.proof.goals

-- what is true of each state that sentences reach
pub record IsReached (m : State) : Type 0 where
  pub environment : IsEnvironment m.env
  pub put_by : PutsBy m.env m.opened
  pub under_way : IsUnderWay m.opened

-- what a sentence leaves
pub record SentencesKeepStates : Type 0 where
  pub first : (env : List Slot) → IsEnvironment env → IsReached (over env)
  pub keeps : (m : State) (s : Sentence) → IsReached m → IsReached (after m s)
  pub follows : (m : State) (s : Sentence) → PutsBy m.env m.opened → Follows m (after m s)
  -- a sentence that is refused, or that a limit ends, leaves all but the count, and where it is `Qed` or `Defined` of a proof under
  -- way it enters the theorem as an admitted one
  pub refusals : (m : State) (s : Sentence) (stop : Stop) → (whole_run m s).answer ≡ Err stop → after m s ≡ refused m (reading s.kind s.text)
  -- an environment that the program may hold stays one
  pub environments : (m : State) (s : Sentence) → IsEnvironment m.env → PutsBy m.env m.opened → IsEnvironment (after m s).env

-- a proof under way stays a proof, and its goals stay in scope
abbrev pub SentencesKeepProofs : Type 0
SentencesKeepProofs =
    (m : State) (s : Sentence) → IsEnvironment m.env → IsHeldProof m.env m.opened → IsHeldProof (after m s).env (after m s).opened
