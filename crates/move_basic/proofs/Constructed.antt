-- A constructor at parameters in scope.
use Rattle.std.specs.Prelude.{◌≡◌, ◌==◌, ◌<◌, ℕ, List, length, take, Bool, true, false, Option, Some, None, Ok, Err, refl, if◌then◌else◌, slice_get}
use Rattle.std.proofs.Common.{subst, ap}
use Rattle.base_core.specs.declared.refusals.Place.TheVariants.{Whole}
use Rattle.core_term.specs.Tree.{Tree, Constant, is_small}
use Rattle.term_spine.specs.Spine.{head_of, arguments_of}
use Rattle.cic_rules.specs.declared.decls.Ctor.{Ctor}
use Rattle.cic_rules.specs.declared.decls.InductiveDecl.{InductiveDecl}
use Rattle.cic_rules.specs.declared.env.Slot.{Slot}
use Rattle.cic_rules.specs.Scopes.{IsScoped}
use Rattle.cic_rules.specs.Steps.{Refuses, Step, TooLarge, answer_of}
use Rattle.cic_rules.proofs.PlaceLaws.{place_below}
use Rattle.cic_rules.proofs.ScopeLaws.{scoped_take, scoped_arguments, scoped_apply_all}
use Rattle.move_basic.specs.Constructors.{place_of, at_params, at_place, constructor_by, decl_of_place, constructor_term}
use Rattle.fresh_names.specs.Letters.{constant_of}

sized_by : (n m : ℕ) (b : Bool) (t u : Tree) → IsScoped n m t → (if b then Ok t else Err TooLarge) ≡ Ok u → IsScoped n m u
sized_by n m true t u scoped e = let same : t ≡ u = cc in subst (IsScoped n m) same scoped
sized_by n m false t u scoped e = absurd (cc)

params_scoped : (n m params place : ℕ) (t : Tree) → place < m → IsScoped n m t → IsScoped n m (at_params params place t)
params_scoped n m params place t below scoped =
    scoped_apply_all n m (Constant place) (take params (arguments_of t)) below (scoped_take n m params (arguments_of t) (scoped_arguments n m t scoped))

place_scoped : (env : List Slot) (n code params : ℕ) (t u : Tree) (found : Option ℕ) → ((place : ℕ) → found ≡ Some place → place < length env) →
    IsScoped n (length env) t → at_place code params t found ≡ Ok u → IsScoped n (length env) u
place_scoped env n code params t u None below scoped e = absurd (cc)
place_scoped env n code params t u (Some place) below scoped e =
    let made = at_params params place t in
    sized_by n (length env) (is_small made) made u (params_scoped n (length env) params place t (below place refl) scoped) e

place_there : (env : List Slot) (c : Option Ctor) (place : ℕ) → place_of env c ≡ Some place → place < length env
place_there env None place e = absurd (cc)
place_there env (Some c) place e = place_below env c.name place e

test_scoped : (env : List Slot) (n code params : ℕ) (t u : Tree) (c : Option Ctor) (b : Bool) → IsScoped n (length env) t →
    (if b then at_place code params t (place_of env c) else Err (Refuses code Whole)) ≡ Ok u → IsScoped n (length env) u
test_scoped env n code params t u c true scoped e = place_scoped env n code params t u (place_of env c) (place_there env c) scoped e
test_scoped env n code params t u c false scoped e = absurd (cc)

by_decl : (env : List Slot) (n count index code : ℕ) (t u : Tree) (d : Option InductiveDecl) → IsScoped n (length env) t →
    constructor_by env count index code t d ≡ Ok u → IsScoped n (length env) u
by_decl env n count index code t u None scoped e = absurd (cc)
by_decl env n count index code t u (Some d) scoped e =
    test_scoped env n code (length d.params) t u (slice_get d.ctors index) (length d.ctors == count) scoped e

answer_is : (step : Step Tree) (u : Tree) → Ok u ≡ answer_of step → step ≡ Ok u
answer_is (Ok x) u e = let same : x ≡ u = cc in ap Ok same
answer_is (Err halt) u e = absurd (cc)

pub constructor_scoped : (env : List Slot) (n count index code : ℕ) (t u : Tree) → IsScoped n (length env) t →
    Ok u ≡ answer_of (constructor_term env count index code t) → IsScoped n (length env) u
constructor_scoped env n count index code t u scoped e =
    by_decl env n count index code t u (decl_of_place env (constant_of (head_of t))) scoped (answer_is (constructor_term env count index code t) u e)
