-- What `rewrite` gives is in scope of the goal.
use Rattle.std.proofs.Common.{◌≡◌, ◌<◌, ◌≤◌, ℕ, suc, ◌+◌, ◌-◌, ◌==◌, nat_lt, List, length, Bool, true, false, Option, Some, None, Result, Ok, Err, refl, sym, subst, arith}
use Rattle.std.specs.Prelude.{if◌then◌else◌, codes}
use Rattle.base_core.specs.Answers.{Gives}
use Rattle.base_core.specs.declared.refusals.Stop.{Stop}
use Rattle.base_core.specs.declared.refusal_codes.TheConstants.{NOT_DETERMINED, NOT_PERMITTED, NO_SUBTERM, VARIABLE_HEAD, NOT_AN_EQUATION}
use Rattle.coq_syntax.specs.declared.moves.Direction.{Direction}
use Rattle.coq_syntax.specs.Trees.{Term}
use Rattle.core_term.specs.declared.sorts.Sort.{Sort}
use Rattle.core_term.specs.declared.sorts.Sort.TheVariants.{PropSort, SetSort, TypeSort}
use Rattle.core_term.specs.Tree.{Tree, Var, Sorted, Constant, Prod, Lam, LetIn, App}
use Rattle.core_term.specs.Places.{occurrences}
use Rattle.term_spine.specs.Spine.{count_products, end_of_products}
use Rattle.cic_rules.specs.declared.context.Hyp.{Hyp}
use Rattle.cic_rules.specs.declared.env.Slot.{Slot}
use Rattle.cic_rules.specs.Environments.{IsEnvironment, place_in}
use Rattle.cic_rules.specs.Infer.{sort_of_at}
use Rattle.cic_rules.specs.Judges.{MayJudge, IsTermIn}
use Rattle.cic_rules.specs.Laws.{Tells}
use Rattle.cic_rules.specs.Runs.{Run, ◌>>=◌}
use Rattle.cic_rules.specs.Scopes.{IsScoped}
use Rattle.cic_rules.specs.Steps.{answer_of, take_step}
use Rattle.cic_rules.proofs.JudgeScopes.{scope_of_inference}
use Rattle.cic_rules.proofs.PlaceLaws.{place_below}
use Rattle.cic_rules.proofs.TellsLaws.{tells_give, tells_pure, tells_bind, tells_if, tells_forbid, tells_some}
use Rattle.elaborator.proofs.InsideLaws.{elab_inside}
use Rattle.matching.specs.Lowering.{without_binders}
use Rattle.matching.specs.Patterns.{Values, unset_values}
use Rattle.matching.specs.Scopes.{AreValues, Finds}
use Rattle.move_basic.proofs.Arguments.{all_left, next_codomain}
use Rattle.proof_state.specs.declared.goals.Goal.{Goal}
use Rattle.proof_state.specs.declared.state.Filling.TheVariants.{Give}
use Rattle.proof_state.specs.Partial.{Partial, Ready, Applies}
use Rattle.proof_state.specs.Scopes.{IsGoalIn, IsSketchIn, IsFillingIn}
use Rattle.move_rewrite.specs.declared.equations.Equation.{Equation}
use Rattle.move_rewrite.specs.declared.searching.Found.{Found}
use Rattle.move_rewrite.specs.Arguments.{with_arguments}
use Rattle.move_rewrite.specs.Equations.{equation_of, pattern_of, has_variable_head, is_unsettled}
use Rattle.move_rewrite.specs.Moves.{by_rewrite}
use Rattle.move_rewrite.specs.Rewrite.{eliminator_into, by_proof, by_equation, rewrite}
use Rattle.move_rewrite.specs.Scopes.{IsEquationIn, IsFound, IsFoundFor}
use Rattle.move_rewrite.specs.Search.{same_head, found_with, or_later, first_in, matched, tried, first_found}
use Rattle.move_rewrite.specs.Terms.{rewritten}
use Rattle.move_rewrite.proofs.Sides.{ends_in}
use Rattle.move_rewrite.proofs.SketchScopes.{rewritten_scoped}
use Rattle.move_rewrite.proofs.Subterms.{lowered_scoped, found_by_match}
use Rattle.vernac_exec.proofs.ScopesOfMoves.{any, match_found, unset_in, argument_in}

-- what an answer gives is what it holds
gives_by : {A : Type 0} (answer : Result A Stop) (x : A) → answer ≡ Ok x → Gives (Ok x) answer
gives_by (Ok y) x e = cc
gives_by (Err stop) x e = absurd (cc)

-- an eliminator is there
level_below : (env : List Slot) (b : Bool) (place : ℕ) → (if b then place_in env (codes "eq_rect") else None) ≡ Some place → place < length env
level_below env true place e = place_below env (codes "eq_rect") place e
level_below env false place e = absurd (cc)

eliminator_below : (env : List Slot) (s : Sort) (place : ℕ) → eliminator_into env s ≡ Some place → place < length env
eliminator_below env PropSort place e = place_below env (codes "eq_ind") place e
eliminator_below env SetSort place e = place_below env (codes "eq_rec") place e
eliminator_below env (TypeSort level) place e = level_below env (level == 1) place e

module _ (env : List Slot) (calls : ℕ) (ctx : List Hyp) (count : ℕ) (pattern : Tree) where
  -- what is found
  later_found : (later : Run (Option Found)) (found : Option Found) → IsFoundFor env ctx count found → Tells later (IsFoundFor env ctx count) →
      Tells (or_later later found) (IsFoundFor env ctx count)
  later_found later None one more = more
  later_found later (Some x) one more = tells_pure (Some x) one

  first_one : (run later : Run (Option Found)) → Tells run (IsFoundFor env ctx count) → Tells later (IsFoundFor env ctx count) →
      Tells (first_in run later) (IsFoundFor env ctx count)
  first_one run later one more = tells_bind one (λ found is. later_found later found is more)

  with_values : (t : Tree) (values : Option Values) → IsTermIn env ctx t → Finds env ctx 0 (unset_values count) values →
      IsFoundFor env ctx count (found_with t values)
  with_values t None scoped finds = tt
  with_values t (Some found) scoped finds = found_by_match env ctx count (unset_values count) found t refl finds scoped

  matched_in : (t : Option Tree) → ((u : Tree) → t ≡ Some u → IsTermIn env ctx u) → Tells (matched env calls ctx count pattern t) (IsFoundFor env ctx count)
  matched_in None scoped = tells_pure None tt
  matched_in (Some t) scoped =
      tells_bind (match_found env calls ctx 0 pattern t (unset_values count) (omega arith)
      (unset_in env (length ctx - 0) count) (scoped t refl))
      (λ values finds. tells_pure (found_with t values) (with_values t values (scoped t refl) finds))

  tried_in : (binders : ℕ) (t : Tree) → IsScoped (length ctx + binders) (length env) t → Tells (tried env calls ctx count pattern binders t) (IsFoundFor env ctx count)
  tried_in binders t scoped =
      tells_if (same_head count binders pattern t)
      (λ _. matched_in (without_binders t binders) (λ u e. lowered_scoped (length ctx) (length env) binders t u e scoped))
      (λ _. tells_pure None tt)

  deeper : (binders : ℕ) (t : Tree) → IsScoped (suc (length ctx + binders)) (length env) t → IsScoped (length ctx + (binders + 1)) (length env) t
  deeper binders t scoped =
      let e : suc (length ctx + binders) ≡ length ctx + (binders + 1) = omega arith in subst (λ k. IsScoped k (length env) t) e scoped

  found_in : (binders : ℕ) (t : Tree) → IsScoped (length ctx + binders) (length env) t →
      Tells (first_found env calls ctx count pattern binders t) (IsFoundFor env ctx count)
  found_in binders (Var i) scoped = first_one _ _ (tried_in binders (Var i) scoped) (tells_pure None tt)
  found_in binders (Sorted s) scoped = first_one _ _ (tried_in binders (Sorted s) scoped) (tells_pure None tt)
  found_in binders (Constant c) scoped = first_one _ _ (tried_in binders (Constant c) scoped) (tells_pure None tt)
  found_in binders (Prod n a b) scoped =
      first_one _ _ (tried_in binders (Prod n a b) scoped)
      (first_one _ _ (found_in binders a scoped.0) (found_in (binders + 1) b (deeper binders b scoped.1)))
  found_in binders (Lam n a b) scoped =
      first_one _ _ (tried_in binders (Lam n a b) scoped)
      (first_one _ _ (found_in binders a scoped.0) (found_in (binders + 1) b (deeper binders b scoped.1)))
  found_in binders (LetIn n a t b) scoped =
      first_one _ _ (tried_in binders (LetIn n a t b) scoped)
      (first_one _ _ (found_in binders a scoped.0)
      (first_one _ _ (found_in binders t scoped.1) (found_in (binders + 1) b (deeper binders b scoped.2))))
  found_in binders (App f a) scoped =
      first_one _ _ (tried_in binders (App f a) scoped)
      (first_one _ _ (found_in binders f scoped.0) (found_in binders a scoped.1))

module _ (env : List Slot) (is : IsEnvironment env) (calls : ℕ) (ctx : List Hyp) (judged : MayJudge env ctx) where
  -- its arguments
  arguments_in : (values : Values) (count : ℕ) (ty : Tree) (function : Partial Goal) → AreValues (length ctx) (length env) values → count ≤ length values →
      count ≡ count_products ty → IsScoped (length ctx + (length values - count)) (length env) ty → IsSketchIn env ctx function →
      Tells (with_arguments env calls ctx values count ty function) (IsSketchIn env ctx)
  arguments_in values count (Prod n a b) function all within counted scoped sketch =
      let some : 1 ≤ count = omega (arith, counted) in
      tells_bind (argument_in env is calls ctx values count a (nat_lt 0 (occurrences b 0)) judged.scoped all within scoped.0) (λ x one.
      arguments_in values (count - 1) b (Applies function x) all (omega (arith, within)) (omega (arith, counted))
      (next_codomain (length ctx) (length env) (length values) count b some within scoped.1) (sketch, one))
  arguments_in values count (Var i) function all within counted scoped sketch = tells_pure function sketch
  arguments_in values count (Sorted s) function all within counted scoped sketch = tells_pure function sketch
  arguments_in values count (Constant c) function all within counted scoped sketch = tells_pure function sketch
  arguments_in values count (Lam n a b) function all within counted scoped sketch = tells_pure function sketch
  arguments_in values count (LetIn n a t b) function all within counted scoped sketch = tells_pure function sketch
  arguments_in values count (App f a) function all within counted scoped sketch = tells_pure function sketch

  -- the term
  term_in : (d : Direction) (goal : Tree) (eliminator : ℕ) (e : Equation) (x : Found) (proof : Partial Goal) → IsTermIn env ctx goal → eliminator < length env →
      IsEquationIn (length ctx + length x.values) (length env) e → IsFound env ctx x → is_unsettled x.values e ≡ false → IsSketchIn env ctx proof →
      Tells (take_step (rewritten d ctx goal eliminator e x proof)) (IsSketchIn env ctx)
  term_in d goal eliminator e x proof scoped below equation found settled sketch =
      tells_give (answer_of (rewritten d ctx goal eliminator e x proof)) (λ s made.
      rewritten_scoped env ctx d goal eliminator e x proof (Ok s) (gives_by (answer_of (rewritten d ctx goal eliminator e x proof)) s made)
      judged scoped below equation found settled sketch)

  by_proof_in : (d : Direction) (goal : Tree) (e : Equation) (x : Found) (proof : Partial Goal) → IsTermIn env ctx goal →
      IsEquationIn (length ctx + length x.values) (length env) e → IsFound env ctx x → IsSketchIn env ctx proof →
      Tells (by_proof env calls d ctx goal e x proof) (IsSketchIn env ctx)
  by_proof_in d goal e x proof scoped equation found sketch =
      tells_forbid (is_unsettled x.values e) NOT_DETERMINED (λ settled.
      tells_bind (any (sort_of_at env calls ctx goal)) (λ s _.
      tells_bind (tells_some NOT_PERMITTED (eliminator_into env s.sort) (λ place there. eliminator_below env s.sort place there)) (λ place below.
      term_in d goal place e x proof scoped below equation found settled sketch)))

  by_found_in : (d : Direction) (goal t ty : Tree) (count : ℕ) (e : Equation) (x : Found) → IsTermIn env ctx goal → IsTermIn env ctx t → IsTermIn env ctx ty →
      count ≡ count_products ty → IsEquationIn (length ctx + count) (length env) e → IsFound env ctx x → length x.values ≡ count →
      Tells (with_arguments env calls ctx x.values count ty (Ready t) >>= (λ proof. by_proof env calls d ctx goal e x proof)) (IsSketchIn env ctx)
  by_found_in d goal t ty count e x scoped term typed counted equation found length_is =
      let whole : count ≡ length x.values = sym length_is in
      let left : IsScoped (length ctx + (length x.values - count)) (length env) ty =
      subst (λ k. IsScoped (length ctx + (k - count)) (length env) ty) whole (all_left (length ctx) (length env) count ty typed) in
      let sides : IsEquationIn (length ctx + length x.values) (length env) e =
      subst (λ k. IsEquationIn (length ctx + k) (length env) e) whole equation in
      let all : AreValues (length ctx) (length env) x.values =
      (let same : length ctx - 0 ≡ length ctx = omega arith in subst (λ k. AreValues k (length env) x.values) same found.values) in
      tells_bind (arguments_in x.values count ty (Ready t) all (omega (arith, whole)) counted left term) (λ proof sketch.
      by_proof_in d goal e x proof scoped sides found sketch)

  by_equation_in : (d : Direction) (goal t ty : Tree) (count : ℕ) (e : Equation) → IsTermIn env ctx goal → IsTermIn env ctx t → IsTermIn env ctx ty →
      count ≡ count_products ty → IsEquationIn (length ctx + count) (length env) e → Tells (by_equation env calls d ctx goal t ty count e) (IsSketchIn env ctx)
  by_equation_in d goal t ty count e scoped term typed counted equation =
      let here : IsScoped (length ctx + 0) (length env) goal =
      (let same : length ctx ≡ length ctx + 0 = omega arith in subst (λ k. IsScoped k (length env) goal) same scoped) in
      tells_forbid (has_variable_head count (pattern_of d e)) VARIABLE_HEAD (λ _.
      tells_bind (found_in env calls ctx count (pattern_of d e) 0 goal here) (λ found one.
      tells_bind (tells_some NO_SUBTERM found (λ x there. subst (IsFoundFor env ctx count) there one)) (λ x is.
      by_found_in d goal t ty count e x scoped term typed counted equation is.0 is.1)))

  rewrite_in : (d : Direction) (goal t : Tree) → IsTermIn env ctx goal → IsTermIn env ctx t → Tells (rewrite env calls d ctx goal t) (IsSketchIn env ctx)
  rewrite_in d goal t scoped term =
      tells_bind (scope_of_inference env is calls ctx judged.scoped t) (λ i found.
      tells_bind (tells_some NOT_AN_EQUATION (equation_of env (end_of_products i.ty)) (λ e there.
      ends_in env (length ctx) (count_products i.ty) i.ty (end_of_products i.ty) (equation_of env (end_of_products i.ty)) e found.ty refl refl refl there))
      (λ e equation. by_equation_in d goal t i.ty (count_products i.ty) e scoped term found.ty refl equation))

-- the move
module _ (env : List Slot) (is : IsEnvironment env) (calls : ℕ) where
  pub by_rewrite_in : (g : Goal) (d : Direction) (s : Term) → IsGoalIn env g → Tells (by_rewrite env calls g d s) (IsFillingIn env g.ctx)
  by_rewrite_in g d s goal =
      tells_bind (elab_inside env is calls g.ctx s goal.judged.scoped) (λ t term.
      tells_bind (rewrite_in env is calls g.ctx goal.judged d g.ty t goal.ty term) (λ sketch in_scope. tells_pure (Give sketch) in_scope))
