-- The table of inference on some fuel, for the calls that infer by it.
use Rattle.std.specs.Prelude.{ℕ, suc, List, [], ◌∷◌, length, true, Result, Ok, Err, if◌then◌else◌}
use Rattle.base_core.specs.declared.refusals.Stop.{Stop}
use Rattle.base_core.specs.declared.refusals.Stop.TheVariants.{Out}
use Rattle.base_core.specs.declared.refusals.Limit.TheVariants.{SizeLimit}
use Rattle.core_term.specs.declared.sorts.Sort.{Sort}
use Rattle.core_term.specs.Tree.{Tree, Sorted, is_small}
use Rattle.cic_rules.specs.declared.context.Hyp.{Hyp}
use Rattle.cic_rules.specs.declared.env.Slot.{Slot}
use Rattle.cic_rules.specs.declared.judge.Arrow.{Arrow}
use Rattle.cic_rules.specs.declared.judge.Inferred.{Inferred}
use Rattle.cic_rules.specs.Contexts.{type_of_variable}
use Rattle.cic_rules.specs.Convert.{conv_at}
use Rattle.cic_rules.specs.Environments.{type_of_global}
use Rattle.cic_rules.specs.Fuel.{FuelState, left, calls_left}
use Rattle.cic_rules.specs.Infer.{as_arrow, infer_at, infer_by, inferred, type_of_sort}
use Rattle.cic_rules.specs.Judges.{IsTermIn, Meets}
use Rattle.cic_rules.specs.Reduce.{whnf_at}
use Rattle.cic_rules.specs.Runs.{Ran, Run, ◌>>=◌, ◌>>◌, pure, some_or, spend}
use Rattle.cic_rules.specs.Scopes.{AreNames, IsScoped}

-- the type of a term by its top, inside a judgement that was begun for it: so many more may stand in that one
abbrev pub table_at : List Slot → ℕ → List Hyp → Tree → Run Inferred
table_at env calls ctx t = infer_by (whnf_at env true calls) (conv_at env calls) (infer_at env calls) env ctx t

-- on some fuel
abbrev pub table_of : List Slot → List Hyp → Tree → FuelState → Ran Inferred
table_of env ctx t f = table_at env (calls_left f) ctx t (left f)

-- a call infers what is told on the fuel that it had
abbrev pub Infers : Result Inferred Stop → FuelState → FuelState → (FuelState → Ran Inferred) → Type 0
Infers result old new call = Meets result (left new) (call old)

-- a judgement that was begun takes its unit first
abbrev pub begun_with : List Slot → List Hyp → Tree → FuelState → Ran Inferred
begun_with env ctx t f = (spend 1 >> table_at env (calls_left f) ctx t) (left f)

-- the two sides of the type of what is applied
abbrev pub as_arrow_with : List Slot → List Hyp → Tree → List ℕ → FuelState → Ran Arrow
as_arrow_with env ctx ty used f =
    as_arrow (whnf_at env true (calls_left f)) (conv_at env (calls_left f)) (infer_at env (calls_left f)) ctx ty used (left f)

-- a call answers as a run that takes no units
abbrev pub Answers : Result Inferred Stop → Run Inferred → Type 0
Answers result run = (units : ℕ) → Meets result units (run units)

-- the types of a variable, a sort and a global
abbrev pub variable_run : List Hyp → ℕ → Run Inferred
variable_run ctx i = do
  ty ← some_or 20 (type_of_variable ctx i)
  pure (inferred ty [])

abbrev pub sort_run : Sort → Run Inferred
sort_run s = do
  r ← some_or 24 (type_of_sort s)
  pure (inferred (Sorted r) [])

abbrev pub global_run : List Slot → ℕ → Run Inferred
global_run env c = do
  ty ← some_or 20 (type_of_global env c)
  pure (inferred ty (c ∷ []))

-- a term that is not too large
abbrev pub sized : Tree → Result Tree Stop
sized t = if is_small t then Ok t else Err (Out SizeLimit)

-- both sides are in scope, the second behind the binder
pub record IsArrowIn (env : List Slot) (ctx : List Hyp) (p : Arrow) : Type 0 where
  pub domain : IsTermIn env ctx p.domain
  pub codomain : IsScoped (suc (length ctx)) (length env) p.codomain
  pub names : AreNames (length env) p.used
