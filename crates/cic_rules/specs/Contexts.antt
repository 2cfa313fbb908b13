-- Contexts as lists of hypotheses, the newest first.
use Rattle.std.specs.Prelude.{◌≡◌, ℕ, ◌^◌, ◌≤◌, nat_lt, zero, suc, List, [], ◌∷◌, length, Option, Some, None, Result, Ok, Err, if◌then◌else◌, slice_get}
use Rattle.base_core.specs.declared.refusals.Stop.{Stop}
use Rattle.base_core.specs.declared.refusals.Stop.TheVariants.{Out}
use Rattle.base_core.specs.declared.refusals.Limit.TheVariants.{SizeLimit}
use Rattle.core_term.specs.Tree.{Tree, Prod, free_bound}
use Rattle.core_term.specs.Places.{lift_of}
use Rattle.cic_rules.specs.declared.context.Hyp.{Hyp}

-- the free variables of a term are in a context of n hypotheses
abbrev pub IsIn : ℕ → Tree → Type 0
IsIn n t = free_bound t ≤ n

-- so are those of a definition, where there is one
abbrev pub IsInIfAny : ℕ → Option Tree → Type 0
IsInIfAny n None = Unit {0}
IsInIfAny n (Some t) = IsIn n t

-- a hypothesis may stand before n others: its free variables are among them
pub record IsHypAt (n : ℕ) (h : Hyp) : Type 0 where
  pub ty : IsIn n h.ty
  pub value : IsInIfAny n h.value

-- each hypothesis may stand where it stands
abbrev pub AreHyps : List Hyp → Type 0
AreHyps [] = Unit {0}
AreHyps (h ∷ hs) = IsHypAt (length hs) h × AreHyps hs

-- what is true of each context that the program holds
pub record IsContext (ctx : List Hyp) : Type 0 where
  pub short : length ctx ≤ 2 ^ 31
  pub hyps : AreHyps ctx

-- the context with one more hypothesis, where it has room
abbrev pub extended : List Hyp → Hyp → Result (List Hyp) Stop
extended ctx h = if nat_lt (length ctx) (2 ^ 31) then Ok (h ∷ ctx) else Err (Out SizeLimit)

-- the context with another name at a place
abbrev pub renamed : List Hyp → ℕ → List ℕ → List Hyp
renamed [] i name = []
renamed (h ∷ hs) zero name = record h { name = name } ∷ hs
renamed (h ∷ hs) (suc i) name = h ∷ renamed hs i name

-- a hypothesis without a definition
abbrev pub plain_hyp : List ℕ → Tree → Hyp
plain_hyp name ty = record { name = name; ty = ty; value = None }

-- a hypothesis with one
abbrev pub defined_hyp : List ℕ → Tree → Tree → Hyp
defined_hyp name ty value = record { name = name; ty = ty; value = Some value }

abbrev pub lifted_type : ℕ → Option Hyp → Option Tree
lifted_type i None = None
lifted_type i (Some h) = Some (lift_of h.ty (suc i) 0)

-- the type of a variable, as it stands in the whole context
abbrev pub type_of_variable : List Hyp → ℕ → Option Tree
type_of_variable ctx i = lifted_type i (slice_get ctx i)

abbrev pub lifted_if_any : ℕ → Option Tree → Option Tree
lifted_if_any i None = None
lifted_if_any i (Some t) = Some (lift_of t (suc i) 0)

abbrev pub lifted_value : ℕ → Option Hyp → Option Tree
lifted_value i None = None
lifted_value i (Some h) = lifted_if_any i h.value

-- the definition of a variable, where the context has one, as it stands in the whole context
abbrev pub value_of_variable : List Hyp → ℕ → Option Tree
value_of_variable ctx i = lifted_value i (slice_get ctx i)

-- the products over hypotheses, oldest first
abbrev pub products_over : List Hyp → Tree → Tree
products_over [] t = t
products_over (h ∷ hs) t = Prod h.name h.ty (products_over hs t)

-- parameters are hypotheses without definitions
abbrev pub AreParams : List Hyp → Type 0
AreParams [] = Unit {0}
AreParams (h ∷ hs) = (h.value ≡ None) × AreParams hs
