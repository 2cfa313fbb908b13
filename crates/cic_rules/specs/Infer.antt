-- Inference of types, with units and the names used.
use Rattle.std.specs.Prelude.{ℕ, zero, suc, ◌+◌, nat_le, nat_lt, List, [], ◌∷◌, length, Bool, true, ◌&&◌, Option, Some, None, if◌then◌else◌}
use Rattle.base_core.specs.declared.refusal_codes.TheConstants.{UNIVERSE_TOO_LARGE, NOT_A_TYPE, NOT_A_FUNCTION, TYPE_MISMATCH, UNBOUND}
use Rattle.base_core.specs.declared.refusals.Limit.TheVariants.{DepthLimit}
use Rattle.core_term.specs.declared.sorts.Sort.{Sort}
use Rattle.core_term.specs.declared.sorts.Sort.TheVariants.{PropSort, SetSort, TypeSort}
use Rattle.core_term.specs.Sorts.{sort_of_product}
use Rattle.core_term.specs.Tree.{Tree, Var, Sorted, Constant, Prod, Lam, LetIn, App, same_tree}
use Rattle.core_term.specs.Places.{subst_of}
use Rattle.cic_rules.specs.declared.context.Hyp.{Hyp}
use Rattle.cic_rules.specs.declared.env.Slot.{Slot}
use Rattle.cic_rules.specs.declared.judge.Mode.{Mode}
use Rattle.cic_rules.specs.declared.judge.Mode.TheVariants.{Below}
use Rattle.cic_rules.specs.declared.judge.Inferred.{Inferred}
use Rattle.cic_rules.specs.declared.judge.InferredSort.{InferredSort}
use Rattle.cic_rules.specs.declared.judge.Arrow.{Arrow}
use Rattle.cic_rules.specs.Contexts.{plain_hyp, defined_hyp, type_of_variable}
use Rattle.cic_rules.specs.Environments.{type_of_global}
use Rattle.cic_rules.specs.Reduce.{whnf_at}
use Rattle.cic_rules.specs.Convert.{compare_cost, conv_at, with_hyp}
use Rattle.cic_rules.specs.Runs.{Run, ◌>>=◌, ◌>>◌, pure, out_of, refuse, spend, check_size, require, some_or}

-- two ascending lists of places as one, over a bound of the turns
abbrev pub merge_in : ℕ → List ℕ → List ℕ → List ℕ
merge_in turns [] vs = vs
merge_in turns us [] = us
merge_in zero us vs = []
merge_in (suc turns) (u ∷ us) (v ∷ vs) =
    if nat_lt u v then u ∷ merge_in turns us (v ∷ vs)
    else (if nat_lt v u then v ∷ merge_in turns (u ∷ us) vs else u ∷ merge_in turns us vs)

-- the places of both lists, ascending, each once
abbrev pub union : List ℕ → List ℕ → List ℕ
union us vs = merge_in (length us + length vs) us vs

-- the type of a sort; the last level has none, and there is no level 0
abbrev pub type_of_sort : Sort → Option Sort
type_of_sort PropSort = Some (TypeSort 1)
type_of_sort SetSort = Some (TypeSort 1)
type_of_sort (TypeSort i) = if nat_le 1 i && nat_lt i 1000 then Some (TypeSort (i + 1)) else None

-- an inferred type, the sort of a type, and the two sides of a function's type, each with the names used
abbrev pub inferred : Tree → List ℕ → Inferred
inferred ty used = record { ty = ty; used = used }

abbrev pub inferred_sort : Sort → List ℕ → InferredSort
inferred_sort sort used = record { sort = sort; used = used }

abbrev pub arrow : Tree → Tree → List ℕ → Arrow
arrow domain codomain used = record { domain = domain; codomain = codomain; used = used }

-- what a type was reduced to must be a sort, and that must have a type
abbrev pub must_be_sort : List ℕ → Tree → Run InferredSort
must_be_sort used (Sorted s) = do
  _ ← some_or UNIVERSE_TOO_LARGE (type_of_sort s)
  pure (inferred_sort s used)
must_be_sort used _ = refuse NOT_A_TYPE

-- over the judgements that inference calls: weak head reduction, conversion and inference
module _ (whnf : List Hyp → Tree → Run Tree) (conv : List Hyp → Mode → Tree → Tree → Run Bool) (infer : List Hyp → Tree → Run Inferred) where
  -- a type that is a sort is the answer as it stands
  abbrev pub as_sort : List Hyp → Tree → List ℕ → Run InferredSort
  as_sort ctx (Sorted s) used = pure (inferred_sort s used)
  as_sort ctx ty used = do
    reduced ← whnf ctx ty
    must_be_sort used reduced

  -- the sort of a type
  abbrev pub sort_of : List Hyp → Tree → Run InferredSort
  sort_of ctx a = do
    i ← infer ctx a
    as_sort ctx i.ty i.used

  -- what a type was reduced to must be a product, and that must have a sort
  abbrev pub must_be_arrow : List Hyp → List ℕ → Tree → Run Arrow
  must_be_arrow ctx used (Prod n a b) = do
    s ← sort_of ctx (Prod n a b)
    pure (arrow a b (union used s.used))
  must_be_arrow ctx used _ = refuse NOT_A_FUNCTION

  -- a type that is a product is the answer as it stands
  abbrev pub as_arrow : List Hyp → Tree → List ℕ → Run Arrow
  as_arrow ctx (Prod n a b) used = pure (arrow a b used)
  as_arrow ctx ty used = do
    reduced ← whnf ctx ty
    must_be_arrow ctx used reduced

  -- a term checked against a type: the names used
  abbrev pub check : List Hyp → Tree → Tree → Run (List ℕ)
  check ctx t wanted = do
    i ← infer ctx t
    spend (compare_cost i.ty wanted)
    if same_tree i.ty wanted then pure i.used else (do
      fits ← conv ctx Below i.ty wanted
      require fits TYPE_MISMATCH
      s ← sort_of ctx wanted
      pure (union i.used s.used))

  -- the table of inference, by the top of the term
  abbrev pub infer_by : List Slot → List Hyp → Tree → Run Inferred
  infer_by env ctx (Var i) = do
    ty ← some_or UNBOUND (type_of_variable ctx i)
    pure (inferred ty [])
  infer_by env ctx (Sorted s) = do
    r ← some_or UNIVERSE_TOO_LARGE (type_of_sort s)
    pure (inferred (Sorted r) [])
  infer_by env ctx (Constant c) = do
    ty ← some_or UNBOUND (type_of_global env c)
    pure (inferred ty (c ∷ []))
  infer_by env ctx (Prod n a b) = do
    s ← sort_of ctx a
    inner ← with_hyp ctx (plain_hyp n a)
    r ← sort_of inner b
    pure (inferred (Sorted (sort_of_product s.sort r.sort)) (union s.used r.used))
  infer_by env ctx (Lam n a b) = do
    s ← sort_of ctx a
    inner ← with_hyp ctx (plain_hyp n a)
    i ← infer inner b
    r ← sort_of inner i.ty
    check_size (Prod n a i.ty)
    pure (inferred (Prod n a i.ty) (union s.used (union i.used r.used)))
  infer_by env ctx (LetIn n a t b) = do
    s ← sort_of ctx a
    used ← check ctx t a
    inner ← with_hyp ctx (defined_hyp n a t)
    i ← infer inner b
    check_size (subst_of i.ty t 0)
    pure (inferred (subst_of i.ty t 0) (union (union s.used used) i.used))
  infer_by env ctx (App f v) = do
    i ← infer ctx f
    p ← as_arrow ctx i.ty i.used
    used ← check ctx v p.domain
    check_size (subst_of p.codomain v 0)
    pure (inferred (subst_of p.codomain v 0) (union p.used used))

module _ (env : List Slot) where
  -- inference takes a unit at each call; so many more judgements may stand in one another
  unfoldable pub infer_at : ℕ → List Hyp → Tree → Run Inferred
  infer_at zero ctx t = out_of DepthLimit
  infer_at (suc calls) ctx t = do
    spend 1
    infer_by (whnf_at env true calls) (conv_at env calls) (infer_at calls) env ctx t

  -- the sort of a type, and a term checked against a type, by judgements of which so many may stand in one another
  abbrev pub sort_of_at : ℕ → List Hyp → Tree → Run InferredSort
  sort_of_at calls ctx a = sort_of (whnf_at env true calls) (conv_at env calls) (infer_at calls) ctx a

  abbrev pub check_at : ℕ → List Hyp → Tree → Tree → Run (List ℕ)
  check_at calls ctx t wanted = check (whnf_at env true calls) (conv_at env calls) (infer_at calls) ctx t wanted
