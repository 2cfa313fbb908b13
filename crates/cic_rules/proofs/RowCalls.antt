-- A row of domains, as the calls find it.
use Rattle.std.specs.Prelude.{◌≡◌, ℕ, zero, suc, ◌-◌, ◌<◌, ◌≤◌, nat_le, List, true, Result, Ok, Err, if◌then◌else◌, refl}
use Rattle.std.proofs.Common.{arith, ap, ◌∙◌, sym, subst}
use Rattle.std.proofs.lemmas.Bool.Decides.{nat_tests}
use Rattle.base_core.specs.declared.refusals.Stop.{Stop}
use Rattle.base_core.specs.declared.refusals.Stop.TheVariants.{Out}
use Rattle.base_core.specs.declared.refusals.Limit.TheVariants.{DepthLimit, StepLimit}
use Rattle.core_term.specs.Tree.{Tree, Prod}
use Rattle.core_term.specs.declared.terms.Node.{Node}
use Rattle.core_term.specs.declared.terms.Node.TheVariants as node
use Rattle.core_term.specs.Nodes.{tree_of}
use Rattle.cic_rules.specs.declared.context.Hyp.{Hyp}
use Rattle.cic_rules.specs.declared.env.Slot.{Slot}
use Rattle.cic_rules.specs.declared.families.RowSorts.{RowSorts}
use Rattle.cic_rules.specs.declared.judge.InferredSort.{InferredSort}
use Rattle.cic_rules.specs.Contexts.{extended, plain_hyp}
use Rattle.cic_rules.specs.Convert.{with_hyp}
use Rattle.cic_rules.specs.Fuel.{FuelState, IsSpentOf, NESTING_LIMIT, left, calls_left, nested}
use Rattle.cic_rules.specs.Scopes.{AreNames, UsesOnly}
use Rattle.cic_rules.specs.Runs.{Ran, Run, and_then, ◌>>=◌, ◌>>◌, pure, out_of, spend}
use Rattle.cic_rules.specs.Infer.{infer_at, sort_of_at}
use Rattle.cic_rules.specs.Inductive.{row_at, with_domain}
use Rattle.cic_rules.specs.Judges.{Meets, row_with, sort_of_with}
use Rattle.cic_rules.specs.Calls.{leaf_row_at, leaf_row_with, product_row_at, product_row_with}
use Rattle.cic_rules.proofs.UsedLaws.{names_union, uses_first, uses_second}

-- a product, by the judgements that may stand in this one
row_product : (env : List Slot) (calls : ℕ) (ctx : List Hyp) (n : List ℕ) (a b : Tree) (units : ℕ) →
    row_at env (suc calls) ctx (Prod n a b) units ≡ product_row_at env calls ctx n a b units
unfolding row_at
row_product env calls ctx n a b units = refl

pub row_begun : (env : List Slot) (ctx : List Hyp) (n : List ℕ) (a b : Tree) (f : FuelState) → f.nesting < NESTING_LIMIT →
    row_with env ctx (Prod n a b) f ≡ product_row_with env ctx n a b (nested true f)
row_begun env ctx n a b f room =
    let more : calls_left f ≡ suc (calls_left (nested true f)) = omega arith in
    ap (λ calls. row_at env calls ctx (Prod n a b) (left f)) more ∙ row_product env (calls_left (nested true f)) ctx n a b (left f)

-- no judgement may be begun
row_ended : (env : List Slot) (ctx : List Hyp) (t : Tree) (units : ℕ) → row_at env zero ctx t units ≡ out_of DepthLimit units
unfolding row_at
row_ended env ctx t units = refl

pub row_full : (env : List Slot) (ctx : List Hyp) (t : Tree) (f : FuelState) → NESTING_LIMIT ≤ f.nesting → row_with env ctx t f ≡ out_of DepthLimit (left f)
row_full env ctx t f full =
    let none : calls_left f ≡ zero = omega arith in
    ap (λ calls. row_at env calls ctx t (left f)) none ∙ row_ended env ctx t (left f)

-- what is no product is a type with no domains
row_leaf : (env : List Slot) (calls : ℕ) (ctx : List Hyp) (top : Node) → ((n : List ℕ) (a b : Tree) → top ≡ node.Prod n a b → ⊥) → (units : ℕ) →
    row_at env calls ctx (tree_of top) units ≡ leaf_row_at env calls ctx (tree_of top) units
unfolding row_at infer_at
row_leaf env zero ctx top apart units = refl
row_leaf env (suc calls) ctx (node.Prod n a b) apart units = absurd (apart n a b refl)
row_leaf env (suc calls) ctx (node.Var _) apart units = refl
row_leaf env (suc calls) ctx (node.Sorted _) apart units = refl
row_leaf env (suc calls) ctx (node.Constant _) apart units = refl
row_leaf env (suc calls) ctx (node.Lam _ _ _) apart units = refl
row_leaf env (suc calls) ctx (node.LetIn _ _ _ _) apart units = refl
row_leaf env (suc calls) ctx (node.App _ _) apart units = refl

-- so its row meets the definition
pub leaf_meets : (env : List Slot) (ctx : List Hyp) (t : Tree) (top : Node) (f : FuelState) (r : Result RowSorts Stop) (units : ℕ) → tree_of top ≡ t →
    ((n : List ℕ) (a b : Tree) → top ≡ node.Prod n a b → ⊥) → Meets r units (leaf_row_with env ctx t f) → Meets r units (row_with env ctx t f)
leaf_meets env ctx t top f r units is apart meets =
    let at_top : row_with env ctx (tree_of top) f ≡ leaf_row_with env ctx (tree_of top) f = row_leaf env (calls_left f) ctx top apart (left f) in
    let here : row_with env ctx t f ≡ leaf_row_with env ctx t f = rw is at at_top in
    let P : Ran RowSorts → Type 0 = λ ran. Meets r units ran in
    subst P (sym here) meets

-- where no judgement may be begun
pub full_meets : (env : List Slot) (ctx : List Hyp) (t : Tree) (f : FuelState) (units : ℕ) → NESTING_LIMIT ≤ f.nesting → units ≡ left f →
    (Err (Out DepthLimit) ≡ (row_with env ctx t f).answer) × (units ≡ (row_with env ctx t f).left)
full_meets env ctx t f units full is =
    let here = row_full env ctx t f full in
    let P : Ran RowSorts → Type 0 = λ ran. (Err (Out DepthLimit) ≡ ran.answer) × (units ≡ ran.left) in
    subst P (sym here) (refl, is)

-- and where one was begun for a product
pub product_meets : (env : List Slot) (ctx : List Hyp) (t : Tree) (n : List ℕ) (a b : Tree) (f g : FuelState) (r : Result RowSorts Stop) (units : ℕ) →
    Prod n a b ≡ t → f.nesting < NESTING_LIMIT → g ≡ nested true f → Meets r units (product_row_with env ctx n a b g) → Meets r units (row_with env ctx t f)
product_meets env ctx t n a b f g r units is room begun meets =
    let at_product = row_begun env ctx n a b f room in
    let begun_there : product_row_with env ctx n a b g ≡ product_row_with env ctx n a b (nested true f) = ap (λ h. product_row_with env ctx n a b h) begun in
    let here : row_with env ctx t f ≡ product_row_with env ctx n a b g = ap (λ u. row_with env ctx u f) (sym is) ∙ (at_product ∙ sym begun_there) in
    let P : Ran RowSorts → Type 0 = λ ran. Meets r units ran in
    subst P (sym here) meets

-- the value of a run, and the rest with it
after_value : {A B : Type 0} (f : Run A) (g : A → Run B) (units : ℕ) (x : A) → Ok x ≡ (f units).answer → (f >>= g) units ≡ g x (f units).left
after_value f g units x is = ap (λ answer. and_then answer g (f units).left) (sym is)

after_charge : {A : Type 0} (g : Run A) (units : ℕ) → 1 ≤ units → (spend 1 >> g) units ≡ g (units - 1)
after_charge g units enough =
    let is : nat_le 1 units ≡ true = grind (arith, nat_tests) in
    ap (λ b. and_then (if b then pure tt (units - 1) else out_of StepLimit 0).answer (λ _. g) (if b then pure tt (units - 1) else out_of StepLimit 0).left) is

-- the row of a product from its parts
row_of_parts : (env : List Slot) (calls : ℕ) (ctx inner : List Hyp) (n : List ℕ) (a b : Tree) (s : InferredSort) (r : RowSorts) (units : ℕ) → 1 ≤ units →
    Ok s ≡ (sort_of_at env calls ctx a (units - 1)).answer → Ok inner ≡ extended ctx (plain_hyp n a) →
    Ok r ≡ (row_at env calls inner b (sort_of_at env calls ctx a (units - 1)).left).answer →
    product_row_at env calls ctx n a b units ≡ pure (with_domain s r) (row_at env calls inner b (sort_of_at env calls ctx a (units - 1)).left).left
row_of_parts env calls ctx inner n a b s r units enough first room rest =
    after_charge _ units enough
    ∙ (after_value (sort_of_at env calls ctx a) _ (units - 1) s first
    ∙ (after_value (with_hyp ctx (plain_hyp n a)) _ _ inner room
    ∙ after_value (row_at env calls inner b) _ _ r rest))

parts_meet : (env : List Slot) (ctx inner : List Hyp) (n : List ℕ) (a b : Tree) (s : InferredSort) (r : RowSorts) (f0 f1 f2 : FuelState) (units : ℕ) →
    1 ≤ left f0 → left f1 ≡ left f0 - 1 → IsSpentOf f0 f1 → Ok s ≡ (sort_of_with env ctx a f1).answer → left f2 ≡ (sort_of_with env ctx a f1).left →
    IsSpentOf f1 f2 → Ok inner ≡ extended ctx (plain_hyp n a) → Ok r ≡ (row_with env inner b f2).answer → units ≡ (row_with env inner b f2).left →
    (Ok (with_domain s r) ≡ (product_row_with env ctx n a b f0).answer) × (units ≡ (product_row_with env ctx n a b f0).left)
parts_meet env ctx inner n a b s r f0 f1 f2 units enough paid first_kept first first_left rest_kept room rest rest_left =
    let calls1 : calls_left f1 ≡ calls_left f0 = ap (λ k. 2000 - k) first_kept.nesting in
    let calls2 : calls_left f2 ≡ calls_left f0 = ap (λ k. 2000 - k) rest_kept.nesting ∙ calls1 in
    let sorted : sort_of_with env ctx a f1 ≡ sort_of_at env (calls_left f0) ctx a (left f0 - 1) =
    ap (λ k. sort_of_at env k ctx a (left f1)) calls1 ∙ ap (λ k. sort_of_at env (calls_left f0) ctx a k) paid in
    let more_left : left f2 ≡ (sort_of_at env (calls_left f0) ctx a (left f0 - 1)).left = first_left ∙ ap (λ ran. ran.left) sorted in
    let rowed : row_with env inner b f2 ≡ row_at env (calls_left f0) inner b (sort_of_at env (calls_left f0) ctx a (left f0 - 1)).left =
    ap (λ k. row_at env k inner b (left f2)) calls2 ∙ ap (λ k. row_at env (calls_left f0) inner b k) more_left in
    let whole = row_of_parts env (calls_left f0) ctx inner n a b s r (left f0) enough (first ∙ ap (λ ran. ran.answer) sorted) room (rest ∙ ap (λ ran. ran.answer) rowed) in
    let P : Ran RowSorts → Type 0 = λ ran. (Ok (with_domain s r) ≡ ran.answer) × (units ≡ ran.left) in
    subst P (sym whole) (refl, rest_left ∙ ap (λ ran. ran.left) rowed)

-- so the row that is made of what the parts answered meets the definition
pub made_meets : (env : List Slot) (ctx inner : List Hyp) (n : List ℕ) (a b : Tree) (s : InferredSort) (r w : RowSorts) (f0 f1 f2 : FuelState) (units : ℕ) →
    1 ≤ left f0 → left f1 ≡ left f0 - 1 → IsSpentOf f0 f1 → (Ok s ≡ (sort_of_with env ctx a f1).answer) × (left f2 ≡ (sort_of_with env ctx a f1).left) →
    IsSpentOf f1 f2 → Ok inner ≡ extended ctx (plain_hyp n a) → (Ok r ≡ (row_with env inner b f2).answer) × (units ≡ (row_with env inner b f2).left) →
    w ≡ with_domain s r → (Ok w ≡ (product_row_with env ctx n a b f0).answer) × (units ≡ (product_row_with env ctx n a b f0).left)
made_meets env ctx inner n a b s r w f0 f1 f2 units enough paid first_kept first rest_kept room rest is =
    let meets = parts_meet env ctx inner n a b s r f0 f1 f2 units enough paid first_kept first.0 first.1 rest_kept room rest.0 rest.1 in
    (ap Ok is ∙ meets.0, meets.1)

-- and its names are those of the parts
pub made_names : (m : ℕ) (s : InferredSort) (r w : RowSorts) → w ≡ with_domain s r → AreNames m s.used → AreNames m r.used → AreNames m w.used
made_names m s r w is first rest =
    let P : RowSorts → Type 0 = λ x. AreNames m x.used in
    subst P (sym is) (names_union m s.used r.used first rest)

pub made_uses : (n : List ℕ) (a b : Tree) (s : InferredSort) (r w : RowSorts) → w ≡ with_domain s r → UsesOnly s.used a → UsesOnly r.used b →
    UsesOnly w.used (Prod n a b)
made_uses n a b s r w is first rest =
    let P : RowSorts → Type 0 = λ x. UsesOnly x.used (Prod n a b) in
    subst P (sym is) (uses_first s.used r.used a first, uses_second s.used r.used b rest)
