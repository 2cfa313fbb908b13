-- What is shown of each constructor: the goal as a function of the indices, and of the value where the type is no proposition.
use Rattle.std.specs.Prelude.{ℕ, ◌+◌, ◌-◌, ◌==◌, List, [], ◌∷◌, ◌++◌, length, Bool, false, ◌&&◌, Option, Some, None, Ok, if◌then◌else◌}
use Rattle.core_term.specs.declared.sorts.Sort.{Sort}
use Rattle.core_term.specs.declared.sorts.Sort.TheVariants.{PropSort, SetSort, TypeSort}
use Rattle.core_term.specs.Tree.{Tree, Var, Constant, Prod, Lam, App, same_sort}
use Rattle.core_term.specs.Places.{lift_of}
use Rattle.term_spine.specs.Instantiate.{instantiate}
use Rattle.term_spine.specs.Spine.{eta_body}
use Rattle.cic_rules.specs.declared.context.Hyp.{Hyp}
use Rattle.cic_rules.specs.declared.decls.InductiveDecl.{InductiveDecl}
use Rattle.cic_rules.specs.declared.entries.Entry.{Entry}
use Rattle.cic_rules.specs.declared.entries.EntryKind.{EntryKind}
use Rattle.cic_rules.specs.declared.entries.EntryKind.TheVariants.{Eliminator}
use Rattle.cic_rules.specs.declared.env.Slot.{Slot}
use Rattle.cic_rules.specs.Eliminators.{is_in_prop, value_name}
use Rattle.cic_rules.specs.Environments.{entry_at}
use Rattle.cic_rules.specs.Families.{count_params, newest_first}
use Rattle.cic_rules.specs.Steps.{Step, ◌>>=◌}
use Rattle.move_elim.specs.declared.claims.Claim.{Claim}
use Rattle.move_elim.specs.declared.sites.Site.{Site}
use Rattle.move_elim.specs.declared.subjects.Subject.{Subject}
use Rattle.move_elim.specs.Sites.{own_site, stand_for_all}
use Rattle.move_elim.specs.Generalised.{generalised}
use Rattle.move_elim.specs.Steps.{sized}

-- the variables that the motive binds, the oldest first
abbrev pub bound_variables : Bool → Subject → List ℕ
bound_variables is_prop x = if is_prop then x.indices else x.indices ++ (x.variable ∷ [])

-- where the claim stands: below the motive's binders
abbrev pub claim_site : ℕ → Bool → Subject → Site
claim_site below is_prop x = stand_for_all (bound_variables is_prop x) (own_site below)

abbrev pub claim_with : ℕ → InductiveDecl → Subject → ℕ → Tree → Claim
claim_with below d x moved body =
    record { body = body; moved = moved; params = count_params d; indices = x.indices; below = below; is_prop = is_in_prop d }

-- the claim, under binders for the hypotheses at some places
abbrev pub claim_of : List Hyp → Tree → InductiveDecl → Subject → List ℕ → Step Claim
claim_of ctx goal d x moved = do
  body ← sized (generalised ctx (claim_site (length ctx) (is_in_prop d) x) moved goal)
  Ok (claim_with (length ctx) d x (length moved) body)

-- a term for each index; one that isn't given stays the variable that it is, below so many more binders
abbrev pub index_values : ℕ → List ℕ → List Tree → List Tree
index_values by [] ts = []
index_values by (i ∷ is) [] = Var (i + by) ∷ index_values by is []
index_values by (i ∷ is) (t ∷ ts) = t ∷ index_values by is ts

abbrev pub with_value : Bool → Tree → List Tree → List Tree
with_value is_prop value values = if is_prop then values else value ∷ values

-- what is put in for the motive's binders, the newest first
abbrev pub binder_values : Claim → ℕ → List Tree → Tree → List Tree
binder_values c by ts value = with_value c.is_prop value (newest_first (index_values by c.indices ts) [])

abbrev pub count_binders : Claim → ℕ
count_binders c = if c.is_prop then length c.indices else length c.indices + 1

-- the claim below so many binders in all, at indices and at a value
abbrev pub claim_at : Claim → ℕ → List Tree → Tree → Tree
claim_at c depth ts value = instantiate (binder_values c (depth - c.below) ts value) (lift_of c.body (depth - c.below) (count_binders c))

-- a term applied to arguments, the newest first
abbrev pub applied_to : Tree → List Tree → Step Tree
applied_to f [] = Ok f
applied_to f (t ∷ older) = do
  g ← applied_to f older
  sized (App g t)

-- a global at the parameters
abbrev pub at_params : ℕ → Subject → Step Tree
at_params place x = applied_to (Constant place) x.params

-- the family, where the motive is over a value: the inductive type at the parameters
abbrev pub family_of : InductiveDecl → Subject → Step (Option Tree)
family_of d x = if is_in_prop d then Ok None else (do
  t ← at_params x.place x
  Ok (Some t))

-- the same at one more index
abbrev pub at_index : Option Tree → Step (Option Tree)
at_index None = Ok None
at_index (Some t) = do
  u ← sized (eta_body t)
  Ok (Some u)

-- the motive over the value, whose type is the family
abbrev pub over_value : InductiveDecl → Option Tree → Tree → Step Tree
over_value d None body = Ok body
over_value d (Some family) body = sized (Lam (value_name d) family body)

-- .. and over an index of this name and type
abbrev pub over_index : Option Tree → List ℕ → Tree → (Option Tree → Step Tree) → Step Tree
over_index family n a rest = do
  deeper ← at_index family
  body ← rest deeper
  sized (Lam n a body)

-- the motive over so many indices, whose types are those of the arity at the parameters; the family is the type at what was met so far
abbrev pub motive_over : InductiveDecl → Option Tree → ℕ → Tree → Tree → Step Tree
motive_over d family count (Prod n a b) body =
    if count == 0 then over_value d family body else over_index family n a (λ deeper. motive_over d deeper (count - 1) b body)
motive_over d family count _ body = over_value d family body

abbrev pub motive_of : InductiveDecl → Subject → Tree → Step Tree
motive_of d x body = do
  arity ← sized (instantiate x.params d.arity)
  family ← family_of d x
  motive_over d family (length x.indices) arity body

-- the eliminators stand behind the constructors, into Prop, Set and Type in this order, as far as they are there
abbrev pub sort_rank : Sort → ℕ
sort_rank PropSort = 0
sort_rank SetSort = 1
sort_rank (TypeSort _) = 2

abbrev pub eliminates : ℕ → Sort → EntryKind → Bool
eliminates place sort (Eliminator of into) = of == place && same_sort into sort
eliminates place sort _ = false

abbrev pub if_eliminator : ℕ → Sort → ℕ → Option Entry → Option ℕ
if_eliminator place sort at None = None
if_eliminator place sort at (Some e) = if eliminates place sort e.kind then Some at else None

-- the eliminator of an inductive type with so many constructors into a sort
abbrev pub eliminator_into : List Slot → ℕ → ℕ → Sort → Option ℕ
eliminator_into env place count sort =
    if_eliminator place sort (place + 1 + count + sort_rank sort) (entry_at env (place + 1 + count + sort_rank sort))
