-- The test of an inductive type in parts, each of which a call of its own answers.
use Rattle.std.specs.Prelude.{◌≡◌, ℕ, List, [], length, Result, Ok, Err, if◌then◌else◌}
use Rattle.base_core.specs.declared.refusals.Stop.{Stop}
use Rattle.base_core.specs.declared.refusals.Stop.TheVariants.{Refused, Out, NoMem}
use Rattle.base_core.specs.declared.refusals.Limit.TheVariants.{SizeLimit}
use Rattle.base_core.specs.declared.refusals.Place.TheVariants.{Whole}
use Rattle.core_term.specs.declared.sorts.Sort.{Sort}
use Rattle.core_term.specs.Tree.{Tree, is_small}
use Rattle.term_spine.specs.Globals.{globals_of, places_in}
use Rattle.cic_rules.specs.declared.context.Hyp.{Hyp}
use Rattle.cic_rules.specs.declared.decls.Ctor.{Ctor}
use Rattle.cic_rules.specs.declared.decls.InductiveDecl.{InductiveDecl}
use Rattle.cic_rules.specs.declared.entries.Entry.{Entry}
use Rattle.cic_rules.specs.declared.entries.EntryKind.TheVariants.{Assumed}
use Rattle.cic_rules.specs.declared.env.Slot.{Slot}
use Rattle.cic_rules.specs.declared.families.CheckedInductive.{CheckedInductive}
use Rattle.cic_rules.specs.declared.families.RowSorts.{RowSorts}
use Rattle.cic_rules.specs.Contexts.{plain_hyp}
use Rattle.cic_rules.specs.Environments.{entered}
use Rattle.cic_rules.specs.Judges.{IsTermIn}
use Rattle.cic_rules.specs.Scopes.{IsScoped}
use Rattle.cic_rules.specs.Fuel.{FuelState, left, calls_left}
use Rattle.cic_rules.specs.Runs.{Ran, Run, ◌>>=◌, ◌>>◌, give, pure, check_size, require}
use Rattle.cic_rules.specs.Convert.{with_hyp}
use Rattle.cic_rules.specs.Infer.{union, sort_of_at}
use Rattle.cic_rules.specs.Families.{count_params, count_indices}
use Rattle.cic_rules.specs.Eliminators.{type_of_decl}
use Rattle.cic_rules.specs.Inductive.{Opened as Params, opened, CtorSorts, open_params, row_at, rows_of, params_of, are_positive, rows_fit, checked, check_family}
use Rattle.inductive_check.specs.declared.families.Opened.{Opened}
use Rattle.inductive_check.specs.declared.forms.Form.{Form}
use Rattle.inductive_check.specs.Forms.{is_constructor_at}
use Rattle.inductive_check.specs.Rows.{told_rows, with_rows, row_domains, rows_used}

-- the parameters that a call opened
abbrev pub params_opened : Opened → Params
params_opened o = opened o.ctx o.used

-- a call opens parameters as a run does, and leaves as many units, unless memory runs out
abbrev pub MeetsOpened : Result Opened Stop → ℕ → Ran Params → Type 0
MeetsOpened (Ok o) left ran = (Ok (params_opened o) ≡ ran.answer) × (left ≡ ran.left)
MeetsOpened (Err (Refused r)) left ran = (Err (Refused r) ≡ ran.answer) × (left ≡ ran.left)
MeetsOpened (Err (Out l)) left ran = (Err (Out l) ≡ ran.answer) × (left ≡ ran.left)
MeetsOpened (Err NoMem) left ran = Unit {0}

-- the same of the rows of constructors
abbrev pub MeetsRows : Result (List RowSorts) Stop → ℕ → Ran CtorSorts → Type 0
MeetsRows (Ok rows) left ran = (Ok (told_rows rows) ≡ ran.answer) × (left ≡ ran.left)
MeetsRows (Err (Refused r)) left ran = (Err (Refused r) ≡ ran.answer) × (left ≡ ran.left)
MeetsRows (Err (Out l)) left ran = (Err (Out l) ≡ ran.answer) × (left ≡ ran.left)
MeetsRows (Err NoMem) left ran = Unit {0}

-- one more parameter
abbrev pub param_at : List Slot → ℕ → List Hyp → List ℕ → Hyp → Run Params
param_at env calls ctx used h = do
  s ← sort_of_at env calls ctx h.ty
  inner ← with_hyp ctx (plain_hyp h.name h.ty)
  pure (opened inner (union used s.used))

abbrev pub param_with : List Slot → List Hyp → List ℕ → Hyp → FuelState → Ran Params
param_with env ctx used h f = param_at env (calls_left f) ctx used h (left f)

abbrev pub opened_with : List Slot → Opened → Hyp → FuelState → Ran Params
opened_with env o h f = param_with env o.ctx o.used h f

abbrev pub open_with : List Slot → List Hyp → FuelState → Ran Params
open_with env hs f = open_params env (calls_left f) hs [] [] (left f)

-- one constructor
abbrev pub ctor_at : List Slot → ℕ → List Hyp → Form → Ctor → Run RowSorts
ctor_at inner calls ctx f c = do
  r ← row_at inner calls ctx c.ty
  require (is_constructor_at f 0 c.ty) 31
  pure r

abbrev pub ctor_with : List Slot → List Hyp → Form → Ctor → FuelState → Ran RowSorts
ctor_with inner ctx f c fuel = ctor_at inner (calls_left fuel) ctx f c (left fuel)

-- the rows of some constructors, and then of others
abbrev pub rows_behind : List Slot → ℕ → List Hyp → InductiveDecl → ℕ → List RowSorts → List Ctor → Run CtorSorts
rows_behind inner calls ctx d place rows cs = do
  q ← rows_of d inner place calls ctx cs
  pure (with_rows rows q)

abbrev pub rows_with : List Slot → List Hyp → InductiveDecl → ℕ → List Ctor → FuelState → Ran CtorSorts
rows_with inner ctx d place cs f = rows_of d inner place (calls_left f) ctx cs (left f)

-- a declaration at a place, as the form of its constructors sees it
abbrev pub form_of : ℕ → InductiveDecl → Form
form_of place d = record { place = place; params = count_params d; indices = count_indices d }

-- a type as an assumption, which uses the globals of its type
abbrev pub assumption_of : List ℕ → Tree → Entry
assumption_of name ty = record { name = name; ty = ty; kind = Assumed; used = places_in (globals_of ty) }

-- a term, where it has room
abbrev pub sized : Tree → Result Tree Stop
sized t = if is_small t then Ok t else Err (Out SizeLimit)

-- an arity in scope makes the whole type so
abbrev pub IsTypeOver : List Slot → InductiveDecl → List Hyp → Type 0
IsTypeOver env d ctx = IsTermIn env ctx d.arity → IsScoped 0 (length env) (type_of_decl d)

abbrev pub refused : {A : Type 0} → ℕ → Result A Stop
refused code = Err (Refused (record { code = code; place = Whole }))

-- what is asked of all constructors once all sorts are found
abbrev pub settled : InductiveDecl → List Slot → Sort → List RowSorts → List ℕ → Result CheckedInductive Stop
settled d env s rows used =
    if are_positive (length env) (params_of d) d.ctors
    then (if rows_fit s (row_domains rows) then Ok (checked d env s (row_domains rows) (union used (rows_used rows))) else refused 33)
    else refused 32

-- the test behind the parameters
abbrev pub behind_params : InductiveDecl → List Slot → ℕ → Sort → Params → Run CheckedInductive
behind_params d env calls s params = do
  arity ← sort_of_at env calls params.ctx d.arity
  check_size (type_of_decl d)
  inner ← give (entered env (assumption_of d.name (type_of_decl d)))
  found ← rows_of d inner (length env) calls params.ctx d.ctors
  require (are_positive (length env) (params_of d) d.ctors) 32
  require (rows_fit s found.rows) 33
  pure (checked d env s found.rows (union (union params.used arity.used) found.used))

abbrev pub behind_params_with : InductiveDecl → List Slot → Sort → Params → FuelState → Ran CheckedInductive
behind_params_with d env s params f = behind_params d env (calls_left f) s params (left f)

abbrev pub check_family_with : InductiveDecl → List Slot → Sort → FuelState → Ran CheckedInductive
check_family_with d env s f = check_family d env (calls_left f) s (left f)
