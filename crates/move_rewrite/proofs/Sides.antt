-- The sides of an equation: what stands in scope.
use Rattle.std.specs.Prelude.{◌≡◌, ◌==◌, ◌<◌, ◌||◌, ℕ, suc, ◌+◌, ◌-◌, List, length, Bool, true, false, Option, Some, None, refl, if◌then◌else◌, codes}
use Rattle.std.proofs.Common.{subst, sym, ap, ◌∙◌, arith}
use Rattle.std.proofs.lemmas.Bool.{or_parts}
use Rattle.coq_syntax.specs.declared.moves.Direction.{Direction}
use Rattle.coq_syntax.specs.declared.moves.Direction.TheVariants.{Unmarked, Forward, Backward}
use Rattle.core_term.specs.Tree.{Tree, Var, Sorted, Constant, Prod, Lam, LetIn, App}
use Rattle.term_spine.specs.Spine.{count_products, end_of_products}
use Rattle.cic_rules.specs.declared.context.Hyp.{Hyp}
use Rattle.cic_rules.specs.declared.env.Slot.{Slot}
use Rattle.cic_rules.specs.Environments.{place_in}
use Rattle.cic_rules.specs.Scopes.{IsScoped}
use Rattle.cic_rules.proofs.PlaceLaws.{place_below}
use Rattle.cic_rules.proofs.ScopeLaws.{scoped_shift}
use Rattle.matching.specs.Patterns.{Values, has_unset}
use Rattle.matching.specs.Scopes.{AreValues, IsPatternIn}
use Rattle.move_rewrite.specs.declared.equations.Equation.{Equation}
use Rattle.move_rewrite.specs.Equations.{sides_of, equation_by, equation_of, pattern_of, other_of, is_unsettled}
use Rattle.move_rewrite.specs.Scopes.{IsEquationIn}
use Rattle.move_rewrite.specs.Terms.{turning}

-- what stands behind the products of a type
end_scoped : (n m : ℕ) (t : Tree) → IsScoped n m t → IsScoped (n + count_products t) m (end_of_products t)
end_scoped n m (Prod x a b) h =
    let deeper : suc n + count_products b ≡ n + suc (count_products b) = omega arith in
    subst (λ k. IsScoped k m (end_of_products b)) deeper (end_scoped (suc n) m b h.1)
end_scoped n m (Var i) h = let same : n ≡ n + 0 = omega arith in subst (λ k. i < k) same h
end_scoped n m (Sorted s) h = tt
end_scoped n m (Constant c) h = h
end_scoped n m (Lam x a b) h = let same : n ≡ n + 0 = omega arith in subst (λ k. IsScoped k m (Lam x a b)) same h
end_scoped n m (LetIn x a t b) h = let same : n ≡ n + 0 = omega arith in subst (λ k. IsScoped k m (LetIn x a t b)) same h
end_scoped n m (App f a) h = let same : n ≡ n + 0 = omega arith in subst (λ k. IsScoped k m (App f a)) same h

-- the equation that it is
made_by : (vars globals : ℕ) (b : Bool) (eq same by : ℕ) (a l r : Tree) (e : Equation) →
    (if b then Some (record { eq = eq; same = same; by = by; ty = a; left = l; right = r }) else None) ≡ Some e →
    eq < globals → same < globals → by < globals → IsScoped vars globals a → IsScoped vars globals l → IsScoped vars globals r →
    IsEquationIn vars globals e
made_by vars globals true eq same by a l r e is one two three ty left right =
    let made : record { eq = eq; same = same; by = by; ty = a; left = l; right = r } ≡ e = cc in
    subst (IsEquationIn vars globals) made (record { eq = one; same = two; by = three; ty = ty; left = left; right = right })
made_by vars globals false eq same by a l r e is one two three ty left right = absurd (cc)

sides_scoped : (vars globals eq same by : ℕ) (t : Tree) (e : Equation) → sides_of eq same by t ≡ Some e →
    eq < globals → same < globals → by < globals → IsScoped vars globals t → IsEquationIn vars globals e
sides_scoped vars globals eq same by (App (App (App (Constant c) a) l) r) e is one two three scoped =
    made_by vars globals (c == eq) eq same by a l r e is one two three scoped.0.0.1 scoped.0.1 scoped.1
sides_scoped vars globals eq same by _ e is one two three scoped = absurd (cc)

by_places : (vars globals : ℕ) (one two three : Option ℕ) (t : Tree) (e : Equation) → equation_by one two three t ≡ Some e →
    ((place : ℕ) → one ≡ Some place → place < globals) → ((place : ℕ) → two ≡ Some place → place < globals) →
    ((place : ℕ) → three ≡ Some place → place < globals) → IsScoped vars globals t → IsEquationIn vars globals e
by_places vars globals (Some eq) (Some same) (Some by) t e is first second third scoped =
    sides_scoped vars globals eq same by t e is (first eq refl) (second same refl) (third by refl) scoped
by_places vars globals None two three t e is first second third scoped = absurd (cc)
by_places vars globals (Some eq) None three t e is first second third scoped = absurd (cc)
by_places vars globals (Some eq) (Some same) None t e is first second third scoped = absurd (cc)

equation_scoped : (env : List Slot) (vars : ℕ) (t : Tree) (e : Equation) → equation_of env t ≡ Some e → IsScoped vars (length env) t →
    IsEquationIn vars (length env) e
equation_scoped env vars t e is scoped =
    by_places vars (length env) (place_in env (codes "eq")) (place_in env (codes "eq_refl")) (place_in env (codes "eq_ind")) t e is
    (λ place found. place_below env (codes "eq") place found) (λ place found. place_below env (codes "eq_refl") place found)
    (λ place found. place_below env (codes "eq_ind") place found) scoped

-- the equation in which the type of a term ends
pub ends_in : (env : List Slot) (vars count : ℕ) (t end : Tree) (found : Option Equation) (e : Equation) → IsScoped vars (length env) t →
    count ≡ count_products t → end ≡ end_of_products t → found ≡ equation_of env end → found ≡ Some e → IsEquationIn (vars + count) (length env) e
ends_in env vars count t end found e scoped counted is made some =
    subst (λ k. IsEquationIn (vars + k) (length env) e) (sym counted)
    (equation_scoped env (vars + count_products t) (end_of_products t) e (ap (equation_of env) (sym is) ∙ sym made ∙ some)
    (end_scoped vars (length env) t scoped))

-- its sides
pub pattern_scoped : (d : Direction) (vars globals : ℕ) (e : Equation) → IsEquationIn vars globals e → IsScoped vars globals (pattern_of d e)
pattern_scoped Unmarked vars globals e is = is.left
pattern_scoped (Forward place) vars globals e is = is.left
pattern_scoped (Backward place) vars globals e is = is.right

pub other_scoped : (d : Direction) (vars globals : ℕ) (e : Equation) → IsEquationIn vars globals e → IsScoped vars globals (other_of d e)
other_scoped Unmarked vars globals e is = is.right
other_scoped (Forward place) vars globals e is = is.right
other_scoped (Backward place) vars globals e is = is.left

-- a side as a pattern, all of whose variables have values
pub side_pattern : (env : List Slot) (ctx : List Hyp) (values : Values) (p : Tree) → IsScoped (length ctx + length values) (length env) p →
    AreValues (length ctx - 0) (length env) values → IsPatternIn env ctx 0 values p
side_pattern env ctx values p scoped found = record { within = omega arith; pattern = scoped; found = found }

pub settled_sides : (values : Values) (e : Equation) → is_unsettled values e ≡ false →
    (has_unset values e.ty 0 ≡ false) × (has_unset values e.left 0 ≡ false) × (has_unset values e.right 0 ≡ false)
settled_sides values e is =
    let parts = or_parts (has_unset values e.ty 0) (has_unset values e.left 0 || has_unset values e.right 0) is in
    let more = or_parts (has_unset values e.left 0) (has_unset values e.right 0) parts.1 in
    (parts.0, more.0, more.1)

-- the term that turns it round
pub turning_scoped : (n m : ℕ) (e : Equation) → IsEquationIn n m e → IsScoped n m (turning e)
turning_scoped n m e is =
    (((((is.by, is.ty), is.left), (is.ty, (((is.eq, scoped_shift n m e.ty is.ty), omega arith), scoped_shift n m e.left is.left))), ((is.same, is.ty), is.left)), is.right)
