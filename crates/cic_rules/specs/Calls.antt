-- Parts of judgements that calls of their own answer.
use Rattle.std.specs.Prelude.{ℕ, List, true}
use Rattle.core_term.specs.Tree.{Tree}
use Rattle.cic_rules.specs.declared.context.Hyp.{Hyp}
use Rattle.cic_rules.specs.declared.env.Slot.{Slot}
use Rattle.cic_rules.specs.declared.families.RowSorts.{RowSorts}
use Rattle.cic_rules.specs.declared.judge.InferredSort.{InferredSort}
use Rattle.cic_rules.specs.Fuel.{FuelState, left, calls_left}
use Rattle.cic_rules.specs.Runs.{Ran, Run, ◌>>=◌, ◌>>◌, pure, spend}
use Rattle.cic_rules.specs.Reduce.{whnf_at}
use Rattle.cic_rules.specs.Contexts.{plain_hyp}
use Rattle.cic_rules.specs.Convert.{conv_at, with_hyp}
use Rattle.cic_rules.specs.Infer.{infer_at, as_sort, sort_of_at}
use Rattle.cic_rules.specs.Inductive.{row_at, no_domains, with_domain}

-- the sort that a type is, as it stands or reduced
abbrev pub as_sort_with : List Slot → List Hyp → Tree → List ℕ → FuelState → Ran InferredSort
as_sort_with env ctx ty used f =
    as_sort (whnf_at env true (calls_left f)) (conv_at env (calls_left f)) (infer_at env (calls_left f)) ctx ty used (left f)

-- the row of a type that is no product
abbrev pub leaf_row_at : List Slot → ℕ → List Hyp → Tree → Run RowSorts
leaf_row_at env calls ctx t = do
  s ← sort_of_at env calls ctx t
  pure (no_domains s)

abbrev pub leaf_row_with : List Slot → List Hyp → Tree → FuelState → Ran RowSorts
leaf_row_with env ctx t f = leaf_row_at env (calls_left f) ctx t (left f)

-- the sorts of a product's domains, in the judgement that was begun for it
abbrev pub product_row_at : List Slot → ℕ → List Hyp → List ℕ → Tree → Tree → Run RowSorts
product_row_at env calls ctx n a b = do
  spend 1
  s ← sort_of_at env calls ctx a
  inner ← with_hyp ctx (plain_hyp n a)
  r ← row_at env calls inner b
  pure (with_domain s r)

abbrev pub product_row_with : List Slot → List Hyp → List ℕ → Tree → Tree → FuelState → Ran RowSorts
product_row_with env ctx n a b f = product_row_at env (calls_left f) ctx n a b (left f)
