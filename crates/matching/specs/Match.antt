-- Match: values for a pattern's variables with which it is a term. Each call costs 1 unit.
use Rattle.std.specs.Prelude.{ℕ, zero, suc, ◌+◌, ◌-◌, List, Option, Some, None, if◌then◌else◌, slice_set}
use Rattle.base_core.specs.declared.refusals.Limit.TheVariants.{DepthLimit}
use Rattle.core_term.specs.Tree.{Tree, Var, Prod, Lam, LetIn, App}
use Rattle.cic_rules.specs.declared.context.Hyp.{Hyp}
use Rattle.cic_rules.specs.declared.env.Slot.{Slot}
use Rattle.cic_rules.specs.declared.judge.Mode.TheVariants.{Same}
use Rattle.cic_rules.specs.Contexts.{plain_hyp, defined_hyp}
use Rattle.cic_rules.specs.Convert.{conv_at, with_hyp}
use Rattle.cic_rules.specs.Runs.{Run, ◌>>=◌, ◌>>◌, pure, out_of, spend, check_size}
use Rattle.matching.specs.Lowering.{without_binders}
use Rattle.matching.specs.Patterns.{Values, has_unset, fill}

-- values with a term for the unset variable at a place
abbrev pub set_value : Values → ℕ → Option Tree → Option Values
set_value values at None = None
set_value values at (Some v) = Some (slice_set values at (Some v))

-- the rest of a match, where the parts so far match
abbrev pub if_matched : Option Values → (Values → Run (Option Values)) → Run (Option Values)
if_matched None rest = pure None
if_matched (Some values) rest = rest values

-- over the match of parts
module _ (inner : List Hyp → ℕ → Tree → Tree → Values → Run (Option Values)) where
  -- parts under one more binder: the context gets that of the term's side
  abbrev pub match_under : List Hyp → Hyp → ℕ → Tree → Tree → Values → Run (Option Values)
  match_under ctx h binders p t values = do
    deeper ← with_hyp ctx h
    inner deeper (binders + 1) p t values

  -- a part, and then the part under the binder
  abbrev pub match_binder : List Hyp → Hyp → ℕ → Tree → Tree → Tree → Tree → Values → Run (Option Values)
  match_binder ctx h binders p t q u values = do
    found ← inner ctx binders p t values
    if_matched found (match_under ctx h binders q u)

  -- a part, and then another
  abbrev pub match_pair : List Hyp → ℕ → Tree → Tree → Tree → Tree → Values → Run (Option Values)
  match_pair ctx binders p t q u values = do
    found ← inner ctx binders p t values
    if_matched found (inner ctx binders q u)

  -- a part, and then two of which the second stands under the binder
  abbrev pub match_let : List Hyp → Hyp → ℕ → Tree → Tree → Tree → Tree → Tree → Tree → Values → Run (Option Values)
  match_let ctx h binders p t v w q u values = do
    found ← inner ctx binders p t values
    if_matched found (match_binder ctx h binders v w q u)

  -- a pattern in which an unset variable stands: that variable itself, or a node of the term's kind whose parts match, from the left
  abbrev pub match_nodes : List Hyp → ℕ → Tree → Tree → Values → Run (Option Values)
  match_nodes ctx binders (Var i) t values = pure (set_value values (i - binders) (without_binders t binders))
  match_nodes ctx binders (Prod n p q) (Prod m t u) values = match_binder ctx (plain_hyp m t) binders p t q u values
  match_nodes ctx binders (Lam n p q) (Lam m t u) values = match_binder ctx (plain_hyp m t) binders p t q u values
  match_nodes ctx binders (LetIn n p v q) (LetIn m t w u) values = match_let ctx (defined_hyp m t w) binders p t v w q u values
  match_nodes ctx binders (App p q) (App t u) values = match_pair ctx binders p t q u values
  match_nodes ctx binders _ _ values = pure None

module _ (env : List Slot) where
  -- a pattern whose variables all have values is compared with the term
  abbrev pub match_filled : ℕ → List Hyp → Tree → Tree → Values → Run (Option Values)
  match_filled calls ctx p t values = do
    check_size p
    same ← conv_at env calls ctx Same p t
    pure (if same then Some values else None)

  -- a match in the judgement that was begun for it: a pattern in which no unset variable stands is compared
  abbrev pub match_inside : ℕ → (List Hyp → ℕ → Tree → Tree → Values → Run (Option Values)) → List Hyp → ℕ → Tree → Tree → Values → Run (Option Values)
  match_inside calls inner ctx binders p t values =
      if has_unset values p binders then match_nodes inner ctx binders p t values else match_filled calls ctx (fill values p binders) t values

  -- the values after a match, under so many binders; none where there is no match. So many more judgements may stand in one another
  unfoldable pub match_at : ℕ → List Hyp → ℕ → Tree → Tree → Values → Run (Option Values)
  match_at zero ctx binders p t values = out_of DepthLimit
  match_at (suc calls) ctx binders p t values = spend 1 >> match_inside calls (match_at calls) ctx binders p t values
