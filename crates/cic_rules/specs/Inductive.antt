-- Inductive declarations: their refusals in order, and the sorts that their eliminators may go into.
use Rattle.std.specs.Prelude.{ℕ, zero, suc, ◌+◌, ◌==◌, List, [], ◌∷◌, ◌++◌, length, take, drop, Bool, true, false, ◌&&◌, Option, Some, None, if◌then◌else◌}
use Rattle.base_core.specs.declared.refusal_codes.TheConstants.{WRONG_RESULT, NOT_POSITIVE, ARGUMENT_UNIVERSE, DUPLICATE_NAME, NAME_TAKEN, NOT_AN_ARITY}
use Rattle.base_core.specs.declared.refusals.Limit.TheVariants.{DepthLimit}
use Rattle.core_term.specs.declared.sorts.Sort.{Sort}
use Rattle.core_term.specs.declared.sorts.Sort.TheVariants.{PropSort, SetSort, TypeSort}
use Rattle.core_term.specs.Sorts.{sort_below, sort_of_product}
use Rattle.core_term.specs.Tree.{Tree, Sorted, Constant, Prod}
use Rattle.term_spine.specs.Globals.{globals_of, mentions, any_mentions, places_in}
use Rattle.term_spine.specs.Spine.{head_of, arguments_of, end_of_products, same_trees, shift_all, variables_of}
use Rattle.cic_rules.specs.declared.context.Hyp.{Hyp}
use Rattle.cic_rules.specs.declared.decls.InductiveDecl.{InductiveDecl}
use Rattle.cic_rules.specs.declared.decls.Ctor.{Ctor}
use Rattle.cic_rules.specs.declared.entries.Entry.{Entry}
use Rattle.cic_rules.specs.declared.entries.EntryKind.TheVariants.{Assumed}
use Rattle.cic_rules.specs.declared.env.Slot.{Slot}
use Rattle.cic_rules.specs.declared.judge.InferredSort.{InferredSort}
use Rattle.cic_rules.specs.declared.families.RowSorts.{RowSorts}
use Rattle.cic_rules.specs.declared.families.CheckedInductive.{CheckedInductive}
use Rattle.cic_rules.specs.Contexts.{plain_hyp}
use Rattle.cic_rules.specs.Environments.{entered, is_taken, without}
use Rattle.cic_rules.specs.Families.{count_params, count_indices}
use Rattle.cic_rules.specs.Convert.{with_hyp}
use Rattle.cic_rules.specs.Infer.{union, sort_of_at}
use Rattle.cic_rules.specs.Eliminators.{has_name, eliminator_name, type_of_decl}
use Rattle.cic_rules.specs.Runs.{Run, ◌>>=◌, ◌>>◌, give, pure, out_of, spend, check_size, require, forbid, some_or}

-- a name stands twice in the list
abbrev pub has_twice : List (List ℕ) → Bool
has_twice [] = false
has_twice (n ∷ ns) = if has_name ns n then true else has_twice ns

abbrev pub ctor_names : List Ctor → List (List ℕ)
ctor_names [] = []
ctor_names (c ∷ cs) = c.name ∷ ctor_names cs

-- the names of a declaration: the type, its constructors, and its three eliminators, whether they are permitted or not
abbrev pub names_of : InductiveDecl → List (List ℕ)
names_of d =
    d.name
    ∷ (ctor_names d.ctors ++ (eliminator_name d PropSort ∷ eliminator_name d SetSort ∷ eliminator_name d (TypeSort 1) ∷ []))

abbrev pub any_taken : List Slot → List (List ℕ) → Bool
any_taken env [] = false
any_taken env (n ∷ ns) = if is_taken env n then true else any_taken env ns

-- a row of products with nothing before its end
abbrev pub no_domains : InferredSort → RowSorts
no_domains s = record { sort = s.sort; domains = []; tails = []; used = s.used }

-- .. and with one more domain
abbrev pub with_domain : InferredSort → RowSorts → RowSorts
with_domain s r =
    record { sort = sort_of_product s.sort r.sort; domains = s.sort ∷ r.domains; tails = r.sort ∷ r.tails; used = union s.used r.used }

-- the context of the parameters, and the names used so far
pub record Opened : Type 0 where
  pub ctx : List Hyp
  pub used : List ℕ

abbrev pub opened : List Hyp → List ℕ → Opened
opened ctx used = record { ctx = ctx; used = used }

-- the sorts of each constructor's arguments
pub record CtorSorts : Type 0 where
  pub rows : List (List Sort)
  pub used : List ℕ

abbrev pub ctor_sorts : List (List Sort) → List ℕ → CtorSorts
ctor_sorts rows used = record { rows = rows; used = used }

module _ (env : List Slot) where
  -- the sort of a type as `sort_of` finds it, for the same units, with the sorts that it finds of the leading domains, and of what
  -- stands behind each
  unfoldable pub row_at : ℕ → List Hyp → Tree → Run RowSorts
  row_at zero ctx t = out_of DepthLimit
  row_at (suc calls) ctx (Prod n a b) = do
    spend 1
    s ← sort_of_at env calls ctx a
    inner ← with_hyp ctx (plain_hyp n a)
    r ← row_at calls inner b
    pure (with_domain s r)
  row_at (suc calls) ctx t = do
    s ← sort_of_at env (suc calls) ctx t
    pure (no_domains s)

  -- the parameters, each of a type that has a sort in the context of those before it
  abbrev pub open_params : ℕ → List Hyp → List Hyp → List ℕ → Run Opened
  open_params calls [] ctx used = pure (opened ctx used)
  open_params calls (h ∷ hs) ctx used = do
    s ← sort_of_at env calls ctx h.ty
    inner ← with_hyp ctx (plain_hyp h.name h.ty)
    open_params calls hs inner (union used s.used)

-- the form of a constructor's type, for an inductive type at a place; ps are the parameters as the term sees them
module _ (place : ℕ) where
  abbrev pub is_family : Tree → Bool
  is_family (Constant c) = c == place
  is_family _ = false

  abbrev pub is_absent : List Tree → Bool
  is_absent ts = if any_mentions place ts then false else true

  -- the type applied to exactly the parameters, and then to indices in which it does not stand
  abbrev pub is_applied : List Tree → Tree → Bool
  is_applied ps t =
      is_family (head_of t) && same_trees (take (length ps) (arguments_of t)) ps && is_absent (drop (length ps) (arguments_of t))

  -- a row of products that ends in the type so applied, with as many indices as there should be
  abbrev pub is_constructors : List Tree → ℕ → Tree → Bool
  is_constructors ps count (Prod n a b) = is_constructors (shift_all ps) count b
  is_constructors ps count t = is_applied ps t && (length (arguments_of t) == length ps + count)

  -- a row of products whose domains don't have the type, and that ends in it so applied
  abbrev pub is_recursive : List Tree → Tree → Bool
  is_recursive ps (Prod n a b) = is_absent (a ∷ []) && is_recursive (shift_all ps) b
  is_recursive ps t = is_applied ps t

  -- each argument of a constructor does not have the type, or has this form
  abbrev pub is_positive : List Tree → Tree → Bool
  is_positive ps (Prod n a b) = (if mentions place a then is_recursive ps a else true) && is_positive (shift_all ps) b
  is_positive ps t = true

  abbrev pub are_positive : List Tree → List Ctor → Bool
  are_positive ps [] = true
  are_positive ps (c ∷ cs) = is_positive ps c.ty && are_positive ps cs

-- each sort is below the type's, where that is not Prop
abbrev pub row_fits : Sort → List Sort → Bool
row_fits PropSort rs = true
row_fits s [] = true
row_fits s (r ∷ rs) = sort_below r s && row_fits s rs

abbrev pub rows_fit : Sort → List (List Sort) → Bool
rows_fit s [] = true
rows_fit s (r ∷ rs) = row_fits s r && rows_fit s rs

abbrev pub is_prop_sort : Sort → Bool
is_prop_sort PropSort = true
is_prop_sort _ = false

abbrev pub are_props : List Sort → Bool
are_props [] = true
are_props (s ∷ ss) = is_prop_sort s && are_props ss

abbrev pub ALL_SORTS : List Sort
ALL_SORTS = PropSort ∷ SetSort ∷ TypeSort 1 ∷ []

-- the sorts that a type's eliminators may go into: all three, but Prop alone for a proposition with several constructors, or with
-- one that has an argument that is not in Prop
abbrev pub permitted : Sort → List (List Sort) → List Sort
permitted PropSort [] = ALL_SORTS
permitted PropSort (r ∷ []) = if are_props r then ALL_SORTS else PropSort ∷ []
permitted PropSort (r ∷ q ∷ rs) = PropSort ∷ []
permitted _ rows = ALL_SORTS

-- the sort at the end of an arity
abbrev pub sort_at_end : Tree → Option Sort
sort_at_end (Sorted s) = Some s
sort_at_end _ = None

-- the type as an assumption, while its constructors are judged: it uses the globals of its type
abbrev pub assumed_type : InductiveDecl → Entry
assumed_type d = record { name = d.name; ty = type_of_decl d; kind = Assumed; used = places_in (globals_of (type_of_decl d)) }

module _ (d : InductiveDecl) where
  -- the parameters as the constructors see them
  abbrev pub params_of : List Tree
  params_of = variables_of (count_params d)

  -- the constructors in order, each of a type that has a sort with the type assumed, and that is of a constructor's form
  abbrev pub rows_of : List Slot → ℕ → ℕ → List Hyp → List Ctor → Run CtorSorts
  rows_of inner place calls ctx [] = pure (ctor_sorts [] [])
  rows_of inner place calls ctx (c ∷ cs) = do
    r ← row_at inner calls ctx c.ty
    require (is_constructors place params_of (count_indices d) c.ty) WRONG_RESULT
    more ← rows_of inner place calls ctx cs
    pure (ctor_sorts (r.domains ∷ more.rows) (union r.used more.used))

  -- what passes all tests, to stand at the next place: the sorts that its eliminators may go into, and the names used but its own
  abbrev pub checked : List Slot → Sort → List (List Sort) → List ℕ → CheckedInductive
  checked env s rows used =
      record { decl = d; place = length env; used = without (length env) used; sorts = permitted s rows }

  -- the parameters and the arity, then the constructors, last positivity of all of them and then their universes
  abbrev pub check_family : List Slot → ℕ → Sort → Run CheckedInductive
  check_family env calls s = do
    params ← open_params env calls d.params [] []
    arity ← sort_of_at env calls params.ctx d.arity
    check_size (type_of_decl d)
    inner ← give (entered env (assumed_type d))
    found ← rows_of inner (length env) calls params.ctx d.ctors
    require (are_positive (length env) params_of d.ctors) NOT_POSITIVE
    require (rows_fit s found.rows) ARGUMENT_UNIVERSE
    pure (checked env s found.rows (union (union params.used arity.used) found.used))

-- an inductive declaration, tested in the order of its refusals
abbrev pub check_inductive_at : List Slot → ℕ → InductiveDecl → Run CheckedInductive
check_inductive_at env calls d = do
  forbid (has_twice (names_of d)) DUPLICATE_NAME
  forbid (any_taken env (names_of d)) NAME_TAKEN
  s ← some_or NOT_AN_ARITY (sort_at_end (end_of_products d.arity))
  check_family d env calls s
