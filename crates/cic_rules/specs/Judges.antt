-- When a judgement may be asked for, and how a call gives what its definition answers.
use Rattle.std.specs.Prelude.{◌≡◌, ℕ, List, length, Bool, true, false, Result, Ok, Err}
use Rattle.base_core.specs.declared.memory.NoMem.{NoMem as NoMemory}
use Rattle.base_core.specs.declared.refusals.Stop.{Stop}
use Rattle.base_core.specs.declared.refusals.Stop.TheVariants.{Refused, Out, NoMem}
use Rattle.core_term.specs.Tree.{Tree}
use Rattle.cic_rules.specs.declared.context.Hyp.{Hyp}
use Rattle.cic_rules.specs.declared.env.Slot.{Slot}
use Rattle.cic_rules.specs.declared.judge.Answer.{Answer}
use Rattle.cic_rules.specs.declared.decls.Decl.{Decl}
use Rattle.cic_rules.specs.declared.decls.InductiveDecl.{InductiveDecl}
use Rattle.cic_rules.specs.declared.families.CheckedInductive.{CheckedInductive}
use Rattle.cic_rules.specs.declared.families.RowSorts.{RowSorts}
use Rattle.cic_rules.specs.declared.judge.Inferred.{Inferred}
use Rattle.cic_rules.specs.declared.judge.InferredSort.{InferredSort}
use Rattle.cic_rules.specs.declared.judge.Mode.{Mode}
use Rattle.cic_rules.specs.declared.judge.Answer.TheVariants.{Yes, No, Out as OutOf}
use Rattle.cic_rules.specs.Scopes.{IsScoped, IsScopedContext, IsJudged}
use Rattle.cic_rules.specs.Fuel.{FuelState, left, calls_left}
use Rattle.cic_rules.specs.Runs.{Ran}
use Rattle.cic_rules.specs.Reduce.{whnf_at}
use Rattle.cic_rules.specs.Convert.{conv_at}
use Rattle.cic_rules.specs.Infer.{infer_at, sort_of_at, check_at}
use Rattle.cic_rules.specs.Inductive.{row_at, check_inductive_at}
use Rattle.cic_rules.specs.Declare.{declare_at}

-- the context's globals are in the environment, and each hypothesis speaks of older ones alone
pub record MayJudge (env : List Slot) (ctx : List Hyp) : Type 0 where
  pub scoped : IsScopedContext (length env) ctx

-- the term's free variables are in the context, and its globals in the environment
abbrev pub IsTermIn : List Slot → List Hyp → Tree → Type 0
IsTermIn env ctx t = IsScoped (length ctx) (length env) t

-- a term with the type and the names that were found for it: all of it is in scope
pub record IsInferredIn (env : List Slot) (ctx : List Hyp) (t : Tree) (i : Inferred) : Type 0 where
  pub judged : IsJudged (length ctx) (length env) t i.used
  pub ty : IsTermIn env ctx i.ty

-- the judgements on some fuel: with its units, and so many more judgements in one another
abbrev pub whnf_with : List Slot → List Hyp → Tree → FuelState → Ran Tree
whnf_with env ctx t f = whnf_at env true (calls_left f) ctx t (left f)

abbrev pub conv_with : List Slot → List Hyp → Mode → Tree → Tree → FuelState → Ran Bool
conv_with env ctx mode t u f = conv_at env (calls_left f) ctx mode t u (left f)

abbrev pub infer_with : List Slot → List Hyp → Tree → FuelState → Ran Inferred
infer_with env ctx t f = infer_at env (calls_left f) ctx t (left f)

abbrev pub sort_of_with : List Slot → List Hyp → Tree → FuelState → Ran InferredSort
sort_of_with env ctx a f = sort_of_at env (calls_left f) ctx a (left f)

abbrev pub check_with : List Slot → List Hyp → Tree → Tree → FuelState → Ran (List ℕ)
check_with env ctx t wanted f = check_at env (calls_left f) ctx t wanted (left f)

abbrev pub row_with : List Slot → List Hyp → Tree → FuelState → Ran RowSorts
row_with env ctx t f = row_at env (calls_left f) ctx t (left f)

abbrev pub check_inductive_with : List Slot → InductiveDecl → FuelState → Ran CheckedInductive
check_inductive_with env d f = check_inductive_at env (calls_left f) d (left f)

abbrev pub declare_with : List Slot → Decl → FuelState → Ran (List Slot)
declare_with env d f = declare_at env (calls_left f) d (left f)

-- a call answers what a run does and leaves as many units, unless memory runs out
abbrev pub Meets : {A : Type 0} → Result A Stop → ℕ → Ran A → Type 0
Meets (Ok x) left ran = (Ok x ≡ ran.answer) × (left ≡ ran.left)
Meets (Err (Refused r)) left ran = (Err (Refused r) ≡ ran.answer) × (left ≡ ran.left)
Meets (Err (Out l)) left ran = (Err (Out l) ≡ ran.answer) × (left ≡ ran.left)
Meets (Err NoMem) left ran = Unit {0}

-- the same of a run that answers Yes or No
abbrev pub MeetsAnswer : Result Answer NoMemory → ℕ → Ran Bool → Type 0
MeetsAnswer (Ok Yes) left ran = (Ok true ≡ ran.answer) × (left ≡ ran.left)
MeetsAnswer (Ok No) left ran = (Ok false ≡ ran.answer) × (left ≡ ran.left)
MeetsAnswer (Ok (OutOf l)) left ran = (Err (Out l) ≡ ran.answer) × (left ≡ ran.left)
MeetsAnswer (Err _) left ran = Unit {0}

-- the call ends with no refusal
abbrev pub IsNeverRefused : {A : Type 0} → Result A Stop → Type 0
IsNeverRefused (Err (Refused r)) = ⊥
IsNeverRefused _ = Unit {0}
