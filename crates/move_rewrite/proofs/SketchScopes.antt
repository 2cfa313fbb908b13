-- The term for a goal that is rewritten stands in scope of the goal.
use Rattle.std.specs.Prelude.{◌≡◌, ◌<◌, ℕ, suc, ◌+◌, ◌-◌, List, length, false, Result, Ok, Err, IfOk, refl}
use Rattle.std.proofs.Common.{subst}
use Rattle.base_core.specs.Answers.{Gives}
use Rattle.base_core.specs.declared.refusals.Stop.{Stop}
use Rattle.base_core.specs.declared.refusals.Stop.TheVariants.{Refused, Out, NoMem}
use Rattle.coq_syntax.specs.declared.moves.Direction.{Direction}
use Rattle.coq_syntax.specs.declared.moves.Direction.TheVariants.{Unmarked, Forward, Backward}
use Rattle.core_term.specs.Tree.{Tree}
use Rattle.core_term.specs.Places.{subst_of}
use Rattle.cic_rules.specs.declared.context.Hyp.{Hyp}
use Rattle.cic_rules.specs.declared.env.Slot.{Slot}
use Rattle.cic_rules.specs.Judges.{MayJudge, IsTermIn}
use Rattle.cic_rules.specs.Scopes.{IsScoped}
use Rattle.cic_rules.specs.Steps.{Step, step_then, ◌>>=◌, ◌>>◌, sized_step, answer_of}
use Rattle.matching.specs.Patterns.{Values, fill}
use Rattle.matching.specs.Scopes.{AreValues}
use Rattle.matching.proofs.MatchCalls.{filled_in}
use Rattle.move_basic.specs.Intro.{hole}
use Rattle.proof_state.specs.declared.goals.Goal.{Goal}
use Rattle.proof_state.specs.Partial.{Partial, Ready, Applies}
use Rattle.proof_state.specs.Scopes.{IsSketchIn}
use Rattle.move_rewrite.specs.declared.equations.Equation.{Equation}
use Rattle.move_rewrite.specs.declared.searching.Found.{Found}
use Rattle.move_rewrite.specs.Equations.{pattern_of, other_of, is_unsettled, at_values, filled_equation}
use Rattle.move_rewrite.specs.Replacement.{abstracted}
use Rattle.move_rewrite.specs.Scopes.{IsEquationIn, IsFound}
use Rattle.move_rewrite.specs.Terms.{eliminator_at, turning, turned, rewritten_by, rewritten}
use Rattle.move_rewrite.proofs.Replacements.{abstracted_scoped, side_scoped}
use Rattle.move_rewrite.proofs.Sides.{pattern_scoped, other_scoped, side_pattern, settled_sides, turning_scoped}

-- a step that has a value, and the rest with it
then_ok : {A B Q : Type 0} (s : Step A) (f : A → Step B) (y : B) → step_then s f ≡ Ok y → ((x : A) → s ≡ Ok x → f x ≡ Ok y → Q) → Q
then_ok (Ok x) f y e found = found x refl e
then_ok (Err halt) f y e found = cc

-- the equation at values of its variables
values_scoped : (env : List Slot) (ctx : List Hyp) (values : Values) (e : Equation) → IsEquationIn (length ctx + length values) (length env) e →
    AreValues (length ctx - 0) (length env) values → is_unsettled values e ≡ false → IsEquationIn (length ctx) (length env) (at_values values e)
values_scoped env ctx values e is found settled =
    let sides = settled_sides values e settled in
    record {
      eq = is.eq;
      same = is.same;
      by = is.by;
      ty = filled_in env ctx 0 values e.ty (side_pattern env ctx values e.ty is.ty found) sides.0;
      left = filled_in env ctx 0 values e.left (side_pattern env ctx values e.left is.left found) sides.1;
      right = filled_in env ctx 0 values e.right (side_pattern env ctx values e.right is.right found) sides.2;
    }

filled_is : (values : Values) (e at : Equation) → filled_equation values e ≡ Ok at → at_values values e ≡ at
filled_is values e at is =
    then_ok (sized_step (fill values e.ty 0)) (λ _. sized_step (fill values e.left 0) >> (sized_step (fill values e.right 0) >> Ok (at_values values e))) at is (λ x one rest.
    then_ok (sized_step (fill values e.left 0)) (λ _. sized_step (fill values e.right 0) >> Ok (at_values values e)) at rest (λ y two more.
    then_ok (sized_step (fill values e.right 0)) (λ _. Ok (at_values values e)) at more (λ z three same. cc)))

-- the proof of the equation, turned round where it must be
turned_scoped : (env : List Slot) (ctx : List Hyp) (d : Direction) (e : Equation) (proof s : Partial Goal) → turned d e proof ≡ Ok s →
    IsEquationIn (length ctx) (length env) e → IsSketchIn env ctx proof → IsSketchIn env ctx s
turned_scoped env ctx (Backward place) e proof s is scoped holds = let same : proof ≡ s = cc in subst (IsSketchIn env ctx) same holds
turned_scoped env ctx Unmarked e proof s is scoped holds =
    then_ok (sized_step (turning e)) (λ _. Ok (Applies (Ready (turning e)) proof)) s is (λ x small rest.
    let same : Applies (Ready (turning e)) proof ≡ s = cc in
    subst (IsSketchIn env ctx) same (turning_scoped (length ctx) (length env) e scoped, holds))
turned_scoped env ctx (Forward place) e proof s is scoped holds =
    then_ok (sized_step (turning e)) (λ _. Ok (Applies (Ready (turning e)) proof)) s is (λ x small rest.
    let same : Applies (Ready (turning e)) proof ≡ s = cc in
    subst (IsSketchIn env ctx) same (turning_scoped (length ctx) (length env) e scoped, holds))

-- the eliminator at its goal, at a side and at the proof
at_goal_scoped : (env : List Slot) (ctx : List Hyp) (d : Direction) (eliminator : ℕ) (e : Equation) (body : Tree) (x : Partial Goal) →
    MayJudge env ctx → eliminator < length env → IsEquationIn (length ctx) (length env) e → IsScoped (suc (length ctx)) (length env) body →
    IsSketchIn env ctx x →
    IsSketchIn env ctx
    (Applies (Applies (Applies (Ready (eliminator_at d eliminator e body)) (hole ctx (subst_of body (other_of d e) 0))) (Ready (pattern_of d e))) x)
at_goal_scoped env ctx d eliminator e body x judged below is scoped proof =
    let other = other_scoped d (length ctx) (length env) e is in
    let goal = side_scoped (length ctx) (length env) body (other_of d e) scoped other in
    let function : IsSketchIn env ctx (Ready (eliminator_at d eliminator e body)) = (((below, is.ty), other), (is.ty, scoped)) in
    let here : IsSketchIn env ctx (hole ctx (subst_of body (other_of d e) 0)) = (refl, record { judged = judged; ty = goal }) in
    (((function, here), pattern_scoped d (length ctx) (length env) e is), proof)

by_body_scoped : (env : List Slot) (ctx : List Hyp) (d : Direction) (eliminator : ℕ) (e : Equation) (body : Tree) (proof s : Partial Goal) →
    rewritten_by d ctx eliminator e body proof ≡ Ok s → MayJudge env ctx → eliminator < length env → IsEquationIn (length ctx) (length env) e →
    IsScoped (suc (length ctx)) (length env) body → IsSketchIn env ctx proof → IsSketchIn env ctx s
by_body_scoped env ctx d eliminator e body proof s is judged below equation scoped holds =
    let at : Partial Goal → Partial Goal =
    (λ x. Applies (Applies (Applies (Ready (eliminator_at d eliminator e body)) (hole ctx (subst_of body (other_of d e) 0))) (Ready (pattern_of d e))) x) in
    then_ok (sized_step (eliminator_at d eliminator e body)) (λ _. sized_step (subst_of body (other_of d e) 0) >> (turned d e proof >>= (λ x. Ok (at x)))) s is (λ one small rest.
    then_ok (sized_step (subst_of body (other_of d e) 0)) (λ _. turned d e proof >>= (λ x. Ok (at x))) s rest (λ two fits more.
    then_ok (turned d e proof) (λ x. Ok (at x)) s more (λ x made last.
    let same : at x ≡ s = cc in
    subst (IsSketchIn env ctx) same
    (at_goal_scoped env ctx d eliminator e body x judged below equation scoped (turned_scoped env ctx d e proof x made equation holds)))))

whole_scoped : (env : List Slot) (ctx : List Hyp) (d : Direction) (goal : Tree) (eliminator : ℕ) (e : Equation) (x : Found) (proof s : Partial Goal) →
    rewritten d ctx goal eliminator e x proof ≡ Ok s → MayJudge env ctx → IsTermIn env ctx goal → eliminator < length env →
    IsEquationIn (length ctx + length x.values) (length env) e → IsFound env ctx x → is_unsettled x.values e ≡ false → IsSketchIn env ctx proof →
    IsSketchIn env ctx s
whole_scoped env ctx d goal eliminator e x proof s is judged term below equation found settled holds =
    then_ok (filled_equation x.values e) (λ at. rewritten_by d ctx eliminator at (abstracted x.subterm goal 0) proof) s is (λ at made rest.
    by_body_scoped env ctx d eliminator at (abstracted x.subterm goal 0) proof s rest judged below
    (subst (IsEquationIn (length ctx) (length env)) (filled_is x.values e at made) (values_scoped env ctx x.values e equation found.values settled))
    (abstracted_scoped x.subterm goal (length ctx) (length env) term) holds)

-- what a call gives of a step
given : {A : Type 0} (P : A → Type 0) (step : Step A) (result : Result A Stop) → ((x : A) → step ≡ Ok x → P x) → Gives result (answer_of step) → IfOk result P
given P (Ok x) (Ok y) holds gives = let same : x ≡ y = cc in subst P same (holds x refl)
given P (Err halt) (Ok y) holds gives = absurd (cc)
given P step (Err (Refused r)) holds gives = tt
given P step (Err (Out l)) holds gives = tt
given P step (Err NoMem) holds gives = tt

pub rewritten_scoped : (env : List Slot) (ctx : List Hyp) (d : Direction) (goal : Tree) (eliminator : ℕ) (e : Equation) (x : Found) (proof : Partial Goal)
    (result : Result (Partial Goal) Stop) → Gives result (answer_of (rewritten d ctx goal eliminator e x proof)) → MayJudge env ctx → IsTermIn env ctx goal →
    eliminator < length env → IsEquationIn (length ctx + length x.values) (length env) e → IsFound env ctx x → is_unsettled x.values e ≡ false →
    IsSketchIn env ctx proof → IfOk result (IsSketchIn env ctx)
rewritten_scoped env ctx d goal eliminator e x proof result gives judged term below equation found settled holds =
    given (IsSketchIn env ctx) (rewritten d ctx goal eliminator e x proof) result
    (λ s is. whole_scoped env ctx d goal eliminator e x proof s is judged term below equation found settled holds) gives
