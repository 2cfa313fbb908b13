-- What is taken out of binders, and put back.
use Rattle.std.specs.Prelude.{if◌then◌else◌, nat_le, nat_lt, ◌||◌}
use Rattle.std.proofs.Common.{◌≡◌, ℕ, suc, ◌+◌, ◌-◌, ◌^◌, ◌<◌, ◌≤◌, Bool, true, false, Some, None, Ok, IfSome, refl, sym, ap, ◌∙◌, arith}
use Rattle.std.proofs.lemmas.Bool.{or_parts, or_from}
use Rattle.std.proofs.lemmas.Bool.Decides.{nat_tests}
use Rattle.core_term.specs.Tree.{Tree, Var, Sorted, Constant, Prod, Lam, LetIn, App, size_of, depth_of, free_bound, is_small, IsTerm}
use Rattle.core_term.specs.Answers.{within_limits}
use Rattle.core_term.proofs.Bounds.{bounded-term}
use Rattle.cic_rules.specs.Scopes.{IsScoped}
use Rattle.core_term.specs.Places.{lift_of}
use Rattle.matching.specs.Lowering.{has_bound, lower_of, without_binders}
use Rattle.matching.specs.Laws.{LowersUndoLifts}

variable_back : (i by from : ℕ) → has_bound (Var i) by from ≡ false → lift_of (lower_of (Var i) by from) by from ≡ Var i
variable_back i by from free = grind (arith, nat_tests)

-- a term without the variables in question, lowered and lifted again
pub lift_lower : (t : Tree) (by from : ℕ) → has_bound t by from ≡ false → lift_of (lower_of t by from) by from ≡ t
lift_lower (Var i) by from free = variable_back i by from free
lift_lower (Sorted s) by from free = refl
lift_lower (Constant c) by from free = refl
lift_lower (Prod n a b) by from free =
    let parts = or_parts (has_bound a by from) (has_bound b by (from + 1)) free in
    cc (lift_lower a by from parts.0, lift_lower b by (from + 1) parts.1)
lift_lower (Lam n a b) by from free =
    let parts = or_parts (has_bound a by from) (has_bound b by (from + 1)) free in
    cc (lift_lower a by from parts.0, lift_lower b by (from + 1) parts.1)
lift_lower (LetIn n a t b) by from free =
    let parts = or_parts (has_bound a by from) (has_bound t by from || has_bound b by (from + 1)) free in
    let more = or_parts (has_bound t by from) (has_bound b by (from + 1)) parts.1 in
    cc (lift_lower a by from parts.0, lift_lower t by from more.0, lift_lower b by (from + 1) more.1)
lift_lower (App f a) by from free =
    let parts = or_parts (has_bound f by from) (has_bound a by from) free in
    cc (lift_lower f by from parts.0, lift_lower a by from parts.1)

back_by : (t : Tree) (binders : ℕ) (b : Bool) → has_bound t binders 0 ≡ b →
    IfSome (if b then None else Some (lower_of t binders 0)) (λ v. lift_of v binders 0 ≡ t)
back_by t binders true is = tt
back_by t binders false is = lift_lower t binders 0 is

pub lowers_undo_lifts : LowersUndoLifts
lowers_undo_lifts t binders = back_by t binders (has_bound t binders 0) refl

-- a term without variables from a place on has none of those in question, and is lowered to itself
variable_free : (i count from : ℕ) → i + 1 ≤ from → has_bound (Var i) count from ≡ false
variable_free i count from above = grind (arith, nat_tests)

variable_stays : (i by from : ℕ) → i + 1 ≤ from → lower_of (Var i) by from ≡ Var i
variable_stays i by from above = grind (arith, nat_tests)

pub free_above : (t : Tree) (count from : ℕ) → free_bound t ≤ from → has_bound t count from ≡ false
free_above (Var i) count from above = variable_free i count from above
free_above (Sorted s) count from above = refl
free_above (Constant c) count from above = refl
free_above (Prod n a b) count from above =
    or_from (has_bound a count from) (has_bound b count (from + 1)) (free_above a count from (omega arith)) (free_above b count (from + 1) (omega arith))
free_above (Lam n a b) count from above =
    or_from (has_bound a count from) (has_bound b count (from + 1)) (free_above a count from (omega arith)) (free_above b count (from + 1) (omega arith))
free_above (LetIn n a t b) count from above =
    or_from (has_bound a count from) (has_bound t count from || has_bound b count (from + 1)) (free_above a count from (omega arith))
    (or_from (has_bound t count from) (has_bound b count (from + 1)) (free_above t count from (omega arith)) (free_above b count (from + 1) (omega arith)))
free_above (App f a) count from above =
    or_from (has_bound f count from) (has_bound a count from) (free_above f count from (omega arith)) (free_above a count from (omega arith))

pub lower_above : (t : Tree) (by from : ℕ) → free_bound t ≤ from → lower_of t by from ≡ t
lower_above (Var i) by from above = variable_stays i by from above
lower_above (Sorted s) by from above = refl
lower_above (Constant c) by from above = refl
lower_above (Prod n a b) by from above = cc (lower_above a by from (omega arith), lower_above b by (from + 1) (omega arith))
lower_above (Lam n a b) by from above = cc (lower_above a by from (omega arith), lower_above b by (from + 1) (omega arith))
lower_above (LetIn n a t b) by from above =
    cc (lower_above a by from (omega arith), lower_above t by from (omega arith), lower_above b by (from + 1) (omega arith))
lower_above (App f a) by from above = cc (lower_above f by from (omega arith), lower_above a by from (omega arith))

-- lowering changes neither size nor depth, so it is never too large
lower_size : (t : Tree) (by from : ℕ) → size_of (lower_of t by from) ≡ size_of t
lower_size (Var i) by from = refl
lower_size (Sorted s) by from = refl
lower_size (Constant c) by from = refl
lower_size (Prod n a b) by from = omega (arith, lower_size a by from, lower_size b by (from + 1))
lower_size (Lam n a b) by from = omega (arith, lower_size a by from, lower_size b by (from + 1))
lower_size (LetIn n a t b) by from = omega (arith, lower_size a by from, lower_size t by from, lower_size b by (from + 1))
lower_size (App f a) by from = omega (arith, lower_size f by from, lower_size a by from)

lower_depth : (t : Tree) (by from : ℕ) → depth_of (lower_of t by from) ≡ depth_of t
lower_depth (Var i) by from = refl
lower_depth (Sorted s) by from = refl
lower_depth (Constant c) by from = refl
lower_depth (Prod n a b) by from = omega (arith, lower_depth a by from, lower_depth b by (from + 1))
lower_depth (Lam n a b) by from = omega (arith, lower_depth a by from, lower_depth b by (from + 1))
lower_depth (LetIn n a t b) by from = omega (arith, lower_depth a by from, lower_depth t by from, lower_depth b by (from + 1))
lower_depth (App f a) by from = omega (arith, lower_depth f by from, lower_depth a by from)

fits_by : (size depth : ℕ) (u : Tree) → size_of u ≡ size → depth_of u ≡ depth → size ≤ 2 ^ 20 → depth ≤ 1000 → within_limits u ≡ Ok u
fits_by size depth u e f small shallow = grind (arith, nat_tests, e, f, small, shallow)

pub lower_fits : (t : Tree) (by : ℕ) → IsTerm t → within_limits (lower_of t by 0) ≡ Ok (lower_of t by 0)
lower_fits t by is = fits_by (size_of t) (depth_of t) (lower_of t by 0) (lower_size t by 0) (lower_depth t by 0) is.small is.shallow

pub limits_above : (t : Tree) (by from : ℕ) → IsTerm t → free_bound t ≤ from → Ok t ≡ within_limits (lower_of t by from)
limits_above t by from is above = sym (ap within_limits (lower_above t by from above) ∙ bounded-term t is)

-- what is taken out of binders is in scope without them
variable_within : (b : Bool) (i by from n k : ℕ) → nat_le from i ≡ b → n ≡ k + by → from ≤ k → i < n → has_bound (Var i) by from ≡ false →
    (if b then i - by else i) < k
variable_within true i by from n k is e low h free = let past : from + by ≤ i = grind (arith, nat_tests, is, free) in omega (arith, e, h, past)
variable_within false i by from n k is e low h free = let under : i < from = grind (arith, nat_tests, is) in omega (arith, low, under)

pub lower_scoped : (n m k by from : ℕ) (t : Tree) → n ≡ k + by → from ≤ k → IsScoped n m t → has_bound t by from ≡ false → IsScoped k m (lower_of t by from)
lower_scoped n m k by from (Var i) e low h free = variable_within (nat_le from i) i by from n k refl e low h free
lower_scoped n m k by from (Sorted s) e low h free = tt
lower_scoped n m k by from (Constant c) e low h free = h
lower_scoped n m k by from (Prod x a b) e low h free =
    let parts = or_parts (has_bound a by from) (has_bound b by (from + 1)) free in (
      lower_scoped n m k by from a e low h.0 parts.0,
      lower_scoped (suc n) m (suc k) by (from + 1) b (omega (arith, e)) (omega (arith, low)) h.1 parts.1,
    )
lower_scoped n m k by from (Lam x a b) e low h free =
    let parts = or_parts (has_bound a by from) (has_bound b by (from + 1)) free in (
      lower_scoped n m k by from a e low h.0 parts.0,
      lower_scoped (suc n) m (suc k) by (from + 1) b (omega (arith, e)) (omega (arith, low)) h.1 parts.1,
    )
lower_scoped n m k by from (LetIn x a t b) e low h free =
    let parts = or_parts (has_bound a by from) (has_bound t by from || has_bound b by (from + 1)) free in
    let more = or_parts (has_bound t by from) (has_bound b by (from + 1)) parts.1 in (
      lower_scoped n m k by from a e low h.0 parts.0,
      lower_scoped n m k by from t e low h.1 more.0,
      lower_scoped (suc n) m (suc k) by (from + 1) b (omega (arith, e)) (omega (arith, low)) h.2 more.1,
    )
lower_scoped n m k by from (App f a) e low h free =
    let parts = or_parts (has_bound f by from) (has_bound a by from) free in
    (lower_scoped n m k by from f e low h.0 parts.0, lower_scoped n m k by from a e low h.1 parts.1)
