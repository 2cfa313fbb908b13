-- What the entries of an outline rest on.
use Rattle.std.specs.Prelude.{◌≡◌, ℕ, ◌<◌, List, ◌∷◌, length, All, Bool, true, false, Option, Some, None, if◌then◌else◌}
use Rattle.prover_iface.specs.declared.outline.ItemKind.{ItemKind}
use Rattle.prover_iface.specs.declared.outline.ItemKind.TheVariants.{Axiom, Admitted}
use Rattle.prover_iface.specs.Sentences.{Sentence}
use Rattle.cic_rules.specs.declared.env.Slot.{Slot}
use Rattle.cic_rules.specs.Grounded.{is_assumption, axioms, IsGrounded}
use Rattle.cic_rules.specs.WellFormed.{WfEnv}
use Rattle.vernac_exec.specs.declared.state.Row.{Row}
use Rattle.vernac_exec.specs.declared.state.OpenProof.{OpenProof}
use Rattle.vernac_exec.specs.declared.state.State.{State}
use Rattle.vernac_exec.specs.Laws.{Adds}
use Rattle.vernac_exec.specs.States.{over}
use Rattle.vernac_exec.specs.Exec.{after}

-- what is shown as taken for granted
abbrev pub is_taken_for_granted : ItemKind → Bool
is_taken_for_granted Axiom = true
is_taken_for_granted Admitted = true
is_taken_for_granted _ = false

-- a row is of a global that is there, and is shown as taken for granted exactly where that is an assumption
pub record IsRowIn (env : List Slot) (row : Row) : Type 0 where
  pub there : row.place < length env
  pub kind : is_assumption env row.place ≡ is_taken_for_granted row.kind

-- the environment that a theorem waits in while its proof is under way
pub record WaitsIn (env admitted : List Slot) : Type 0 where
  pub environment : WfEnv admitted
  -- the theorem stands in it at the next place, as an assumption does
  pub next : Adds env admitted
  pub assumed : is_assumption admitted (length env) ≡ true

abbrev pub IsPutBy : List Slot → Option OpenProof → Type 0
IsPutBy env None = Unit {0}
IsPutBy env (Some o) = WaitsIn env o.theorem.admitted

-- a state with a well formed environment, and rows of it; so it is where the theorem of the proof under way is admitted
pub record IsSound (m : State) : Type 0 where
  pub environment : WfEnv m.env
  pub rows : All (IsRowIn m.env) m.outline
  pub put_by : IsPutBy m.env m.opened

-- what a row rests on: its axioms, and itself where it is taken for granted
abbrev pub rests_on : List Slot → Row → List ℕ
rests_on env row = if is_taken_for_granted row.kind then row.place ∷ axioms env row.place else axioms env row.place

-- each row has derivations in the written rules, all the way down to what it rests on
abbrev pub AreGrounded : State → Type 0
AreGrounded m = All (λ row. IsGrounded m.env (rests_on m.env row) row.place) m.outline

pub record StatesAreSound : Type 0 where
  pub first : (env : List Slot) → WfEnv env → IsSound (over env)
  -- a sentence keeps a well formed environment, whatever the rows
  pub formed : (m : State) (s : Sentence) → WfEnv m.env → IsPutBy m.env m.opened → WfEnv (after m s).env
  pub after : (m : State) (s : Sentence) → IsSound m → IsSound (after m s)
  pub grounded : (m : State) → IsSound m → AreGrounded m
