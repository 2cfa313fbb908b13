-- The sort of a row of products is the one that `sort_of` finds, for the same units and with the same names.
use Rattle.std.proofs.Common.{◌≡◌, ℕ, zero, suc, ◌-◌, nat_le, List, Bool, true, false, Result, Ok, Err, refl, ap, ◌∙◌}
use Rattle.base_core.specs.declared.refusals.Stop.{Stop}
use Rattle.core_term.specs.Sorts.{sort_of_product}
use Rattle.core_term.specs.Tree.{Tree, Sorted, Prod}
use Rattle.cic_rules.specs.declared.context.Hyp.{Hyp}
use Rattle.cic_rules.specs.declared.env.Slot.{Slot}
use Rattle.cic_rules.specs.declared.families.RowSorts.{RowSorts}
use Rattle.cic_rules.specs.declared.judge.Inferred.{Inferred}
use Rattle.cic_rules.specs.declared.judge.InferredSort.{InferredSort}
use Rattle.cic_rules.specs.Contexts.{plain_hyp}
use Rattle.cic_rules.specs.Reduce.{whnf_at}
use Rattle.cic_rules.specs.Convert.{conv_at, with_hyp}
use Rattle.cic_rules.specs.Infer.{union, inferred, as_sort, infer_at, sort_of_at}
use Rattle.cic_rules.specs.Inductive.{no_domains, with_domain, row_at}
use Rattle.cic_rules.specs.Laws.{without_domains, RowsAreSorted}
use Rattle.cic_rules.specs.Runs.{Ran, Run, give, and_then, ◌>>=◌, ◌>>◌, pure, spend}

-- two runs, each with what follows it, are one
pub record AreSame {A B C : Type 0} (f : Run A) (j : A → Run C) (g : Run B) (k : B → Run C) : Type 0 where
  pub same : (left : ℕ) → (f >>= j) left ≡ (g >>= k) left

bind_same_by : {A B C D : Type 0} (answer : Result D Stop) (left : ℕ) (g : D → Run A) (j : A → Run C) (h : D → Run B) (k : B → Run C) →
    ((x : D) → AreSame (g x) j (h x) k) →
    and_then (and_then answer g left).answer j (and_then answer g left).left ≡ and_then (and_then answer h left).answer k (and_then answer h left).left
bind_same_by (Ok x) left g j h k same = (same x).same left
bind_same_by (Err stop) left g j h k same = refl

-- behind one run
pub under_bind : {A B C D : Type 0} {g : D → Run A} {j : A → Run C} {h : D → Run B} {k : B → Run C} (f : Run D) →
    ((x : D) → AreSame (g x) j (h x) k) → AreSame (f >>= g) j (f >>= h) k
under_bind {g = g} {j = j} {h = h} {k = k} f same = record { same = λ left. bind_same_by (f left).answer (f left).left g j h k same }

spend_same_by : {A B C : Type 0} (enough : Bool) (units left : ℕ) (g : Run A) (j : A → Run C) (h : Run B) (k : B → Run C) →
    nat_le units left ≡ enough → AreSame g j h k → ((spend units >> g) >>= j) left ≡ ((spend units >> h) >>= k) left
spend_same_by true units left g j h k is same = rw is (same.same (left - units))
spend_same_by false units left g j h k is same = rw is refl

-- behind one charge
pub under_spend : {A B C : Type 0} {g : Run A} {j : A → Run C} {h : Run B} {k : B → Run C} (units : ℕ) → AreSame g j h k →
    AreSame (spend units >> g) j (spend units >> h) k
under_spend {g = g} {j = j} {h = h} {k = k} units same =
    record { same = λ left. spend_same_by (nat_le units left) units left g j h k refl same }

-- a type that is no product
no_product : (answer : Result InferredSort Stop) (left : ℕ) →
    and_then (and_then answer (λ s. pure (no_domains s)) left).answer without_domains (and_then answer (λ s. pure (no_domains s)) left).left
    ≡ give answer left
no_product (Ok s) left = refl
no_product (Err stop) left = refl

module _ (env : List Slot) (calls : ℕ) (ctx : List Hyp) (s : InferredSort) where
  abbrev product_of : InferredSort → Run Inferred
  product_of r = pure (inferred (Sorted (sort_of_product s.sort r.sort)) (union s.used r.used))

  -- the sort of what was inferred
  abbrev sort_after : Inferred → Run InferredSort
  sort_after i = as_sort (whnf_at env true (suc calls)) (conv_at env (suc calls)) (infer_at env (suc calls)) ctx i.ty i.used

  abbrev product_after : Ran InferredSort → Ran InferredSort
  product_after r = and_then (and_then r.answer product_of r.left).answer sort_after (and_then r.answer product_of r.left).left

  row_after : (answer : Result RowSorts Stop) (left : ℕ) →
      and_then (and_then answer (λ r. pure (with_domain s r)) left).answer without_domains (and_then answer (λ r. pure (with_domain s r)) left).left
      ≡ product_after (and_then answer without_domains left)
  row_after (Ok r) left = refl
  row_after (Err stop) left = refl

  tails_same : (inner : List Hyp) (b : Tree) →
      ((left : ℕ) → (row_at env calls inner b >>= without_domains) left ≡ sort_of_at env calls inner b left) →
      AreSame (row_at env calls inner b >>= (λ r. pure (with_domain s r))) without_domains (sort_of_at env calls inner b >>= product_of) sort_after
  tails_same inner b same =
      record { same = λ left. row_after (row_at env calls inner b left).answer (row_at env calls inner b left).left ∙ ap product_after (same left) }

product_same : (env : List Slot) (calls : ℕ) (ctx : List Hyp) (n : List ℕ) (a b : Tree) →
    ((inner : List Hyp) (left : ℕ) → (row_at env calls inner b >>= without_domains) left ≡ sort_of_at env calls inner b left) → (left : ℕ) →
    (row_at env (suc calls) ctx (Prod n a b) >>= without_domains) left ≡ sort_of_at env (suc calls) ctx (Prod n a b) left
unfolding row_at infer_at
product_same env calls ctx n a b same left =
    let one : AreSame (row_at env (suc calls) ctx (Prod n a b)) without_domains (infer_at env (suc calls) ctx (Prod n a b))
    (λ i. as_sort (whnf_at env true (suc calls)) (conv_at env (suc calls)) (infer_at env (suc calls)) ctx i.ty i.used)
    = under_spend 1 (under_bind (sort_of_at env calls ctx a) (λ s. under_bind (with_hyp ctx (plain_hyp n a))
    (λ inner. tails_same env calls ctx s inner b (same inner)))) in
    one.same left

pub rows_are_sorted : RowsAreSorted
unfolding row_at infer_at
rows_are_sorted env zero ctx t left = refl
rows_are_sorted env (suc calls) ctx (Prod n a b) left = product_same env calls ctx n a b (λ inner l. rows_are_sorted env calls inner b l) left
rows_are_sorted env (suc calls) ctx t left = no_product (sort_of_at env (suc calls) ctx t left).answer (sort_of_at env (suc calls) ctx t left).left
