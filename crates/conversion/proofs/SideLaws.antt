-- Which rule is for two sides.
use Rattle.std.specs.Prelude.{◌≡◌, ℕ, ◌<◌, List, [], ◌∷◌, length, Bool, refl}
use Rattle.std.proofs.Common.{arith}
use Rattle.core_term.specs.Tree.{Tree, Var, Sorted, Constant, Prod, Lam, LetIn, App}
use Rattle.term_spine.specs.Spine.{apply_all}
use Rattle.cic_rules.specs.declared.context.Hyp.{Hyp}
use Rattle.cic_rules.specs.declared.env.Slot.{Slot}
use Rattle.cic_rules.specs.declared.judge.Mode.{Mode}
use Rattle.cic_rules.specs.Convert.{conv_reduced}
use Rattle.cic_rules.specs.Runs.{Run}
use Rattle.cic_rules.specs.Scopes.{IsScoped}
use Rattle.conversion.specs.declared.sides.Form.{Form}
use Rattle.conversion.specs.declared.sides.Form.TheVariants.{OfSort, Product, Function, Neutral}
use Rattle.conversion.specs.Sides.{form_in, rule_for, rule_in, rule_step, IsScopedBinder, IsScopedRule}

-- what applies something is neutral
app_neutral : (f a : Tree) (args : List Tree) → form_in (apply_all (App f a) args) ≡ Neutral
app_neutral f a [] = refl
app_neutral f a (b ∷ more) = app_neutral (App f a) b more

pub applied_neutral : (h : Tree) (args : List Tree) → 0 < length args → form_in (apply_all h args) ≡ Neutral
applied_neutral h [] some = let none : ⊥ = omega (arith, some) in absurd none
applied_neutral h (a ∷ more) some = app_neutral h a more

-- without arguments a spine is its head
pub not_applied : (h : Tree) (args : List Tree) → length args ≡ 0 → apply_all h args ≡ h
not_applied h [] none = refl
not_applied h (a ∷ more) none = let no : ⊥ = omega (arith, none) in absurd no

-- the written rules do with two sides what the rule for them does
pub reduced_is : (env : List Slot) (calls : ℕ) (head : List Hyp → Tree → Run Tree) (conv : List Hyp → Mode → Tree → Tree → Run Bool) (ctx : List Hyp)
    (mode : Mode) (t u : Tree) → conv_reduced env calls head conv ctx mode t u ≡ rule_step env calls head conv ctx (rule_in mode t u) t u
reduced_is env calls head conv ctx mode (Sorted s) (Sorted r) = refl
reduced_is env calls head conv ctx mode (Prod n a b) (Prod m c d) = refl
reduced_is env calls head conv ctx mode (Lam n a b) (Lam m c d) = refl
reduced_is env calls head conv ctx mode (Lam n a b) u = refl
reduced_is env calls head conv ctx mode t (Lam m c d) = refl
reduced_is env calls head conv ctx mode t u = refl

-- and its parts are parts of them
abbrev IsScopedForm : ℕ → ℕ → Form → Type 0
IsScopedForm n m (Product b) = IsScopedBinder n m b
IsScopedForm n m (Function b) = IsScopedBinder n m b
IsScopedForm n m _ = Unit {0}

form_scoped : (n m : ℕ) (t : Tree) → IsScoped n m t → IsScopedForm n m (form_in t)
form_scoped n m (Sorted _) h = tt
form_scoped n m (Prod _ a b) h = h
form_scoped n m (Lam _ a b) h = h
form_scoped n m (Var _) h = tt
form_scoped n m (Constant _) h = tt
form_scoped n m (LetIn _ _ _ _) h = tt
form_scoped n m (App _ _) h = tt

for_scoped : (n m : ℕ) (mode : Mode) (f g : Form) → IsScopedForm n m f → IsScopedForm n m g → IsScopedRule n m (rule_for mode f g)
for_scoped n m mode (Product b) (Product c) h k = (h, k)
for_scoped n m mode (Function b) (Function c) h k = (h, k)
for_scoped n m mode (Function b) Neutral h k = h
for_scoped n m mode Neutral (Function c) h k = k
for_scoped n m mode (OfSort s) (OfSort r) h k = tt
for_scoped n m mode (OfSort s) (Product c) h k = tt
for_scoped n m mode (OfSort s) (Function c) h k = tt
for_scoped n m mode (OfSort s) Neutral h k = tt
for_scoped n m mode (Product b) (OfSort r) h k = tt
for_scoped n m mode (Product b) (Function c) h k = tt
for_scoped n m mode (Product b) Neutral h k = tt
for_scoped n m mode (Function b) (OfSort r) h k = tt
for_scoped n m mode (Function b) (Product c) h k = tt
for_scoped n m mode Neutral (OfSort r) h k = tt
for_scoped n m mode Neutral (Product c) h k = tt
for_scoped n m mode Neutral Neutral h k = tt

pub rule_scoped : (n m : ℕ) (mode : Mode) (t u : Tree) → IsScoped n m t → IsScoped n m u → IsScopedRule n m (rule_in mode t u)
rule_scoped n m mode t u h k = for_scoped n m mode (form_in t) (form_in u) (form_scoped n m t h) (form_scoped n m u k)
