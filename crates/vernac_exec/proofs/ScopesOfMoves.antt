-- What a basic proof move gives is in scope of its goal.
use Rattle.std.proofs.Common.{◌≡◌, ℕ, zero, suc, ◌+◌, ◌-◌, ◌==◌, ◌≤◌, List, [], ◌∷◌, length, Bool, true, false, Option, Some, None, refl, sym, ◌∙◌, subst, arith}
use Rattle.std.specs.Prelude.{if◌then◌else◌, IfSome}
use Rattle.std.proofs.lemmas.Bool.Decides.{nat_tests}
use Rattle.base_core.specs.declared.refusal_codes.TheConstants.{NO_PRODUCT, NOT_AN_EQUALITY, NOT_CONVERTIBLE, NOT_DETERMINED}
use Rattle.coq_syntax.specs.declared.words.Word.{Word}
use Rattle.coq_syntax.specs.MoveTrees.{Move, Intro, Intros, Exact, Apply, Assumption, Split, Left, Right, Reflexivity, Simpl, Unfold, Destruct, Induction, Rewrite}
use Rattle.coq_syntax.specs.MoveTrees as move
use Rattle.core_term.specs.declared.sorts.Sort.TheVariants.{PropSort}
use Rattle.core_term.specs.Tree.{Tree, Var, Sorted, Constant, Prod, Lam, LetIn, App}
use Rattle.core_term.specs.Places.{lift_of}
use Rattle.cic_rules.specs.declared.context.Hyp.{Hyp}
use Rattle.cic_rules.specs.declared.env.Slot.{Slot}
use Rattle.cic_rules.specs.declared.judge.Mode.TheVariants.{Same}
use Rattle.cic_rules.specs.Contexts.{plain_hyp, defined_hyp}
use Rattle.cic_rules.specs.Convert.{conv_at}
use Rattle.cic_rules.specs.Environments.{IsEnvironment}
use Rattle.cic_rules.specs.Judges.{IsTermIn}
use Rattle.cic_rules.specs.Laws.{Tells}
use Rattle.cic_rules.specs.Runs.{Run, ◌>>=◌, pure, spend, check_size}
use Rattle.cic_rules.specs.Scopes.{IsScoped, IsScopedHyp, IsScopedContext}
use Rattle.cic_rules.specs.Steps.{answer_of, take_step}
use Rattle.cic_rules.proofs.JudgeScopes.{scope_of_reduction, scope_of_inference, scope_of_checks}
use Rattle.cic_rules.proofs.ScopeLaws.{scoped_lift}
use Rattle.cic_rules.proofs.TellsLaws.{tells_give, tells_pure, tells_stop, tells_bind, tells_step, tells_if, tells_require, tells_forbid, tells_some, tells_within}
use Rattle.elaborator.proofs.InsideLaws.{elab_inside}
use Rattle.fresh_names.specs.Shown.{shown_names}
use Rattle.matching.specs.Lowering.{without_binders}
use Rattle.matching.specs.Patterns.{Values, unset_values, value_at, has_unset, fill}
use Rattle.matching.specs.Match.{set_value, if_matched, match_under, match_binder, match_nodes, match_filled, match_at}
use Rattle.matching.specs.Scopes.{AreValues, IsFoundIn, Finds}
use Rattle.matching.proofs.Fillings.{fill_scoped}
use Rattle.matching.proofs.MatchCalls.{variable_found}
use Rattle.proof_state.specs.declared.goals.Goal.{Goal}
use Rattle.proof_state.specs.declared.state.Filling.TheVariants.{Give, Admit}
use Rattle.proof_state.specs.Partial.{Partial, Ready, Applies}
use Rattle.proof_state.specs.Scopes.{IsGoalIn, IsSketchIn, IsFillingIn}
use Rattle.move_basic.specs.declared.equality.Equation.{Equation}
use Rattle.move_basic.specs.declared.opening.Opening.{Opening}
use Rattle.move_basic.specs.Scopes.{IsOpeningIn, IsEquationIn}
use Rattle.move_basic.specs.Names.{new_name}
use Rattle.move_basic.specs.Intro.{hole, named, under_hyp, opening_of, entered, opened_by, intro, intros_named, intros_all, intros}
use Rattle.move_basic.specs.Terms.{exact, tried, assumed}
use Rattle.move_basic.specs.Apply.{is_used_later, or_else, matched, last_match, first_match, match_at_end, argument_by, argument, with_arguments, apply, apply_to_all}
use Rattle.move_basic.specs.Constructors.{constructor_term, construct}
use Rattle.move_basic.specs.Equality.{equation_of, reflexive, by_sides, reflexivity}
use Rattle.move_basic.specs.Moves.{solved, run_basic}
use Rattle.move_basic.proofs.Arguments.{all_left, next_codomain}
use Rattle.move_basic.proofs.Constructed.{constructor_scoped}
use Rattle.move_basic.proofs.Equations.{equation_scoped, reflexive_scoped}
use Rattle.move_basic.proofs.Openings.{opening_scoped, renamed_hyp, sketch_under}

pub any : {A : Type 0} (f : Run A) → Tells f (λ _. Unit {0})
any f = record { tells = λ left x e. tt }

module _ (env : List Slot) where
  -- matches: the values that are set come from the term
  finds_on : (ctx : List Hyp) (binders : ℕ) (values found : Values) (x : Option Values) → IsFoundIn env ctx binders values found →
      Finds env ctx binders found x → Finds env ctx binders values x
  finds_on ctx binders values found None one more = tt
  finds_on ctx binders values found (Some last) one more = record { count = more.count ∙ one.count; scoped = more.scoped }

  finds_outside : (ctx : List Hyp) (h : Hyp) (binders : ℕ) (values : Values) (x : Option Values) → Finds env (h ∷ ctx) (binders + 1) values x →
      Finds env ctx binders values x
  finds_outside ctx h binders values None found = tt
  finds_outside ctx h binders values (Some last) found =
      let e : suc (length ctx) - (binders + 1) ≡ length ctx - binders = omega arith in
      record { count = found.count; scoped = subst (λ k. AreValues k (length env) last) e found.scoped }

  same_found : (ctx : List Hyp) (binders : ℕ) (values : Values) (same : Bool) → AreValues (length ctx - binders) (length env) values →
      Finds env ctx binders values (if same then Some values else None)
  same_found ctx binders values true all = record { count = refl; scoped = all }
  same_found ctx binders values false all = tt

  then_found : (ctx : List Hyp) (binders : ℕ) (values : Values) (found : Option Values) (rest : Values → Run (Option Values)) →
      Finds env ctx binders values found →
      ((vs : Values) → AreValues (length ctx - binders) (length env) vs → Tells (rest vs) (Finds env ctx binders vs)) →
      Tells (if_matched found rest) (Finds env ctx binders values)
  then_found ctx binders values None rest one rests = tells_pure None tt
  then_found ctx binders values (Some vs) rest one rests =
      record { tells = λ left x e. finds_on ctx binders values vs x one ((rests vs one.scoped).tells left x e) }

  module _ (inner : List Hyp → ℕ → Tree → Tree → Values → Run (Option Values))
      (inners : (ctx : List Hyp) (binders : ℕ) (p t : Tree) (values : Values) → binders ≤ length ctx →
      AreValues (length ctx - binders) (length env) values → IsTermIn env ctx t →
      Tells (inner ctx binders p t values) (Finds env ctx binders values)) where
    under_found : (ctx : List Hyp) (h : Hyp) (binders : ℕ) (p t : Tree) (values : Values) → binders ≤ length ctx →
        AreValues (length ctx - binders) (length env) values → IsScoped (suc (length ctx)) (length env) t →
        Tells (match_under inner ctx h binders p t values) (Finds env ctx binders values)
    under_found ctx h binders p t values within all scoped =
        let e : length ctx - binders ≡ suc (length ctx) - (binders + 1) = omega arith in
        let deeper = inners (h ∷ ctx) (binders + 1) p t values (omega (arith, within)) (subst (λ k. AreValues k (length env) values) e all) scoped in
        tells_within ctx h (λ c. inner c (binders + 1) p t values)
        (record { tells = λ left x e. finds_outside ctx h binders values x (deeper.tells left x e) })

    binder_found : (ctx : List Hyp) (h : Hyp) (binders : ℕ) (p t q u : Tree) (values : Values) → binders ≤ length ctx →
        AreValues (length ctx - binders) (length env) values → IsTermIn env ctx t → IsScoped (suc (length ctx)) (length env) u →
        Tells (match_binder inner ctx h binders p t q u values) (Finds env ctx binders values)
    binder_found ctx h binders p t q u values within all first second =
        tells_bind (inners ctx binders p t values within all first) (λ found one.
        then_found ctx binders values found (match_under inner ctx h binders q u) one (λ vs more. under_found ctx h binders q u vs within more second))

    nodes_found : (ctx : List Hyp) (binders : ℕ) (p t : Tree) (values : Values) → binders ≤ length ctx →
        AreValues (length ctx - binders) (length env) values → IsTermIn env ctx t →
        Tells (match_nodes inner ctx binders p t values) (Finds env ctx binders values)
    nodes_found ctx binders (Var i) t values within all scoped =
        tells_pure _ (variable_found env ctx binders (i - binders) values (Sorted PropSort) t (set_value values (i - binders) (without_binders t binders))
        (record { within = within; pattern = tt; found = all }) scoped refl)
    nodes_found ctx binders (Prod n p q) (Prod m t u) values within all scoped =
        binder_found ctx (plain_hyp m t) binders p t q u values within all scoped.0 scoped.1
    nodes_found ctx binders (Lam n p q) (Lam m t u) values within all scoped =
        binder_found ctx (plain_hyp m t) binders p t q u values within all scoped.0 scoped.1
    nodes_found ctx binders (LetIn n p v q) (LetIn m t w u) values within all scoped =
        tells_bind (inners ctx binders p t values within all scoped.0) (λ found one.
        then_found ctx binders values found (match_binder inner ctx (defined_hyp m t w) binders v w q u) one
        (λ vs more. binder_found ctx (defined_hyp m t w) binders v w q u vs within more scoped.1 scoped.2))
    nodes_found ctx binders (App p q) (App t u) values within all scoped =
        tells_bind (inners ctx binders p t values within all scoped.0) (λ found one.
        then_found ctx binders values found (inner ctx binders q u) one (λ vs more. inners ctx binders q u vs within more scoped.1))
    nodes_found ctx binders _ _ values within all scoped = tells_pure None tt

  filled_found : (calls : ℕ) (ctx : List Hyp) (binders : ℕ) (p t : Tree) (values : Values) → AreValues (length ctx - binders) (length env) values →
      Tells (match_filled env calls ctx p t values) (Finds env ctx binders values)
  filled_found calls ctx binders p t values all =
      tells_step (check_size p) (tells_bind (any (conv_at env calls ctx Same p t)) (λ same _. tells_pure _ (same_found ctx binders values same all)))

  pub match_found : (calls : ℕ) (ctx : List Hyp) (binders : ℕ) (p t : Tree) (values : Values) → binders ≤ length ctx →
      AreValues (length ctx - binders) (length env) values → IsTermIn env ctx t →
      Tells (match_at env calls ctx binders p t values) (Finds env ctx binders values)
  unfolding match_at
  match_found zero ctx binders p t values within all scoped = tells_stop _
  match_found (suc calls) ctx binders p t values within all scoped =
      tells_step (spend 1)
      (tells_if (has_unset values p binders)
      (λ _. nodes_found (match_at env calls) (match_found calls) ctx binders p t values within all scoped)
      (λ _. filled_found calls ctx binders (fill values p binders) t values all))

  -- the values of an application
  abbrev AreSet : List Hyp → Values → Type 0
  AreSet ctx values = AreValues (length ctx) (length env) values

  pub unset_in : (n count : ℕ) → AreValues n (length env) (unset_values count)
  unset_in n zero = tt
  unset_in n (suc count) = (tt, unset_in n count)

  found_set : (ctx : List Hyp) (values : Values) (x : Option Values) → Finds env ctx 0 values x → IfSome x (AreSet ctx)
  found_set ctx values None found = tt
  found_set ctx values (Some vs) found = let e : length ctx - 0 ≡ length ctx = omega arith in subst (λ k. AreValues k (length env) vs) e found.scoped

  or_else_set : (ctx : List Hyp) (found : Option Values) (rest : Run Values) → IfSome found (AreSet ctx) → Tells rest (AreSet ctx) →
      Tells (or_else found rest) (AreSet ctx)
  or_else_set ctx None rest one more = more
  or_else_set ctx (Some values) rest one more = tells_pure values one

  module _ (calls : ℕ) where
    matched_set : (ctx : List Hyp) (ty : Tree) (count : ℕ) (t : Tree) → IsTermIn env ctx ty → Tells (matched env calls ctx ty count t) (λ x. IfSome x (AreSet ctx))
    matched_set ctx ty count t scoped =
        let found = match_found calls ctx 0 t ty (unset_values count) (omega arith) (unset_in (length ctx - 0) count) scoped in
        record { tells = λ left x e. found_set ctx (unset_values count) x (found.tells left x e) }

    next_set : (ctx : List Hyp) (ty : Tree) (count : ℕ) (t : Tree) (rest : Run Values) → IsTermIn env ctx ty → Tells rest (AreSet ctx) →
        Tells (matched env calls ctx ty count t >>= (λ found. or_else found rest)) (AreSet ctx)
    next_set ctx ty count t rest scoped more = tells_bind (matched_set ctx ty count t scoped) (λ found one. or_else_set ctx found rest one more)

    last_set : (ctx : List Hyp) (ty : Tree) (count : ℕ) (t : Tree) → IsTermIn env ctx ty → Tells (last_match env calls ctx ty count t) (AreSet ctx)
    last_set ctx ty count t scoped = next_set ctx ty count t _ scoped (tells_stop _)

    first_set : (ctx : List Hyp) (ty : Tree) (count : ℕ) (t : Tree) → IsTermIn env ctx ty → Tells (first_match env calls ctx ty count t) (AreSet ctx)
    first_set ctx ty count (Prod n a b) scoped = next_set ctx ty count (Prod n a b) _ scoped (first_set ctx ty (count + 1) b scoped)
    first_set ctx ty count (Var i) scoped = last_set ctx ty count (Var i) scoped
    first_set ctx ty count (Sorted s) scoped = last_set ctx ty count (Sorted s) scoped
    first_set ctx ty count (Constant c) scoped = last_set ctx ty count (Constant c) scoped
    first_set ctx ty count (Lam n a b) scoped = last_set ctx ty count (Lam n a b) scoped
    first_set ctx ty count (LetIn n a t b) scoped = last_set ctx ty count (LetIn n a t b) scoped
    first_set ctx ty count (App f a) scoped = last_set ctx ty count (App f a) scoped

    end_set : (ctx : List Hyp) (ty : Tree) (count : ℕ) (t : Tree) → IsTermIn env ctx ty → Tells (match_at_end env calls ctx ty count t) (AreSet ctx)
    end_set ctx ty count (Prod n a b) scoped = end_set ctx ty (count + 1) b scoped
    end_set ctx ty count (Var i) scoped = last_set ctx ty count (Var i) scoped
    end_set ctx ty count (Sorted s) scoped = last_set ctx ty count (Sorted s) scoped
    end_set ctx ty count (Constant c) scoped = last_set ctx ty count (Constant c) scoped
    end_set ctx ty count (Lam n a b) scoped = last_set ctx ty count (Lam n a b) scoped
    end_set ctx ty count (LetIn n a t b) scoped = last_set ctx ty count (LetIn n a t b) scoped
    end_set ctx ty count (App f a) scoped = last_set ctx ty count (App f a) scoped

  module _ (is : IsEnvironment env) (calls : ℕ) where
    hole_in : (ctx : List Hyp) (ty : Tree) → IsScopedContext (length env) ctx → IsTermIn env ctx ty → IsSketchIn env ctx (hole ctx ty)
    hole_in ctx ty hyps scoped = (refl, record { judged = record { scoped = hyps }; ty = scoped })

    -- arguments
    argument_by_in : (ctx : List Hyp) (a : Tree) (used : Bool) (v : Option Tree) → IsScopedContext (length env) ctx → IsTermIn env ctx a →
        Tells (argument_by env calls ctx a used v) (IsSketchIn env ctx)
    argument_by_in ctx a used None hyps scoped =
        tells_forbid used NOT_DETERMINED (λ _. tells_step (check_size a) (tells_pure (hole ctx a) (hole_in ctx a hyps scoped)))
    argument_by_in ctx a used (Some v) hyps scoped =
        tells_step (check_size a) (tells_bind (scope_of_checks env is calls ctx hyps v a) (λ used_names judged. tells_pure (Ready v) judged.term))

    pub argument_in : (ctx : List Hyp) (values : Values) (count : ℕ) (a : Tree) (used : Bool) → IsScopedContext (length env) ctx → AreSet ctx values →
        count ≤ length values → IsScoped (length ctx + (length values - count)) (length env) a → Tells (argument env calls ctx values count a used) (IsSketchIn env ctx)
    argument_in ctx values count a used hyps all within scoped =
        let whole : length ctx + length values ≡ length ctx + (length values - count) + count = omega (arith, within) in
        let lifted : IsScoped (length ctx + length values) (length env) (lift_of a count 0) =
        scoped_lift (length ctx + (length values - count)) (length ctx + length values) (length env) count 0 a whole scoped in
        tells_forbid (has_unset values (lift_of a count 0) 0) NOT_DETERMINED (λ settled.
        argument_by_in ctx (fill values (lift_of a count 0) 0) used (value_at values (count - 1)) hyps
        (fill_scoped (length ctx) (length env) (length ctx + length values) (length ctx) 0 values (lift_of a count 0) refl (omega arith) lifted all settled))

    arguments_in : (ctx : List Hyp) (values : Values) (count : ℕ) (ty : Tree) (function : Partial Goal) →
        IsScopedContext (length env) ctx → AreSet ctx values →
        count ≤ length values → IsScoped (length ctx + (length values - count)) (length env) ty → IsSketchIn env ctx function →
        Tells (with_arguments env calls ctx values count ty function) (IsSketchIn env ctx)
    arguments_in ctx values count (Prod n a b) function hyps all within scoped sketch =
        tells_if (count == 0) (λ _. tells_pure function sketch) (λ some.
        tells_bind (argument_in ctx values count a (is_used_later (count - 1) b 0) hyps all within scoped.0) (λ x one.
        arguments_in ctx values (count - 1) b (Applies function x) hyps all (omega (arith, within))
        (next_codomain (length ctx) (length env) (length values) count b (grind (arith, nat_tests, some)) within scoped.1) (sketch, one)))
    arguments_in ctx values count (Var i) function hyps all within scoped sketch = tells_pure function sketch
    arguments_in ctx values count (Sorted s) function hyps all within scoped sketch = tells_pure function sketch
    arguments_in ctx values count (Constant c) function hyps all within scoped sketch = tells_pure function sketch
    arguments_in ctx values count (Lam n a b) function hyps all within scoped sketch = tells_pure function sketch
    arguments_in ctx values count (LetIn n a t b) function hyps all within scoped sketch = tells_pure function sketch
    arguments_in ctx values count (App f a) function hyps all within scoped sketch = tells_pure function sketch

    apply_in : (ctx : List Hyp) (ty t : Tree) → IsScopedContext (length env) ctx → IsTermIn env ctx ty → IsTermIn env ctx t →
        Tells (apply env calls ctx ty t) (IsSketchIn env ctx)
    apply_in ctx ty t hyps scoped term =
        tells_bind (scope_of_inference env is calls ctx hyps t) (λ i found. tells_bind (first_set calls ctx ty 0 i.ty scoped) (λ values all.
        arguments_in ctx values (length values) i.ty (Ready t) hyps all (omega arith) (all_left (length ctx) (length env) (length values) i.ty found.ty) term))

    apply_all_in : (ctx : List Hyp) (ty t : Tree) → IsScopedContext (length env) ctx → IsTermIn env ctx ty → IsTermIn env ctx t →
        Tells (apply_to_all env calls ctx ty t) (IsSketchIn env ctx)
    apply_all_in ctx ty t hyps scoped term =
        tells_bind (scope_of_inference env is calls ctx hyps t) (λ i found. tells_bind (end_set calls ctx ty 0 i.ty scoped) (λ values all.
        arguments_in ctx values (length values) i.ty (Ready t) hyps all (omega arith) (all_left (length ctx) (length env) (length values) i.ty found.ty) term))

    construct_in : (count index code : ℕ) (ctx : List Hyp) (ty : Tree) → IsScopedContext (length env) ctx → IsTermIn env ctx ty →
        Tells (construct env calls count index code ctx ty) (IsSketchIn env ctx)
    construct_in count index code ctx ty hyps scoped =
        tells_bind (scope_of_reduction env is true calls ctx hyps ty scoped) (λ reduced one.
        tells_bind (tells_give (answer_of (constructor_term env count index code reduced)) (λ t e. constructor_scoped env (length ctx) count index code reduced t one (sym e)))
        (λ t term. apply_all_in ctx ty t hyps scoped term))

    -- hypotheses
    entered_in : (ctx : List Hyp) (w : Option Word) (h : Hyp) (rest : List Hyp → Run (Partial Goal)) → IsScopedHyp (length ctx) (length env) h →
        ((n : List ℕ) → Tells (rest (named h n ∷ ctx)) (IsSketchIn env (named h n ∷ ctx))) → Tells (entered env ctx w h rest) (IsSketchIn env ctx)
    entered_in ctx w h rest scoped rests =
        tells_bind (any (take_step (new_name env (shown_names ctx) w h.name h.ty))) (λ n _.
        tells_within ctx (named h n) (λ inner. rest inner >>= (λ s. pure (under_hyp (named h n) s)))
        (tells_bind (rests n) (λ s sketch.
        tells_pure (under_hyp (named h n) s) (sketch_under env ctx (named h n) s (renamed_hyp (length ctx) (length env) h n scoped) sketch))))

    behind_named : (ctx : List Hyp) (h : Hyp) (n : List ℕ) → IsScopedContext (length env) ctx → IsScopedHyp (length ctx) (length env) h →
        IsScopedContext (length env) (named h n ∷ ctx)
    behind_named ctx h n hyps scoped = (renamed_hyp (length ctx) (length env) h n scoped, hyps)

    opened_by_in : (ctx : List Hyp) (ty : Tree) (x : Option Opening) → opening_of ty ≡ x → IsScopedContext (length env) ctx → IsTermIn env ctx ty →
        Tells (opened_by env calls ctx ty x) (IsOpeningIn env ctx)
    opened_by_in ctx ty (Some o) e hyps scoped = tells_pure o (opening_scoped env ctx ty o e scoped)
    opened_by_in ctx ty None e hyps scoped =
        tells_bind (scope_of_reduction env is true calls ctx hyps ty scoped) (λ reduced one.
        tells_some NO_PRODUCT (opening_of reduced) (λ o found. opening_scoped env ctx reduced o found one))

    intro_in : (w : Option Word) (ctx : List Hyp) (ty : Tree) → IsScopedContext (length env) ctx → IsTermIn env ctx ty →
        Tells (intro env calls w ctx ty) (IsSketchIn env ctx)
    intro_in w ctx ty hyps scoped =
        tells_bind (opened_by_in ctx ty (opening_of ty) refl hyps scoped) (λ o opening.
        entered_in ctx w o.hyp (λ inner. pure (hole inner o.under)) opening.hyp (λ n.
        tells_pure (hole (named o.hyp n ∷ ctx) o.under) (hole_in (named o.hyp n ∷ ctx) o.under (behind_named ctx o.hyp n hyps opening.hyp) opening.under)))

    named_in : (ws : List Word) (ctx : List Hyp) (ty : Tree) → IsScopedContext (length env) ctx → IsTermIn env ctx ty →
        Tells (intros_named env calls ws ctx ty) (IsSketchIn env ctx)
    named_in [] ctx ty hyps scoped = tells_pure (hole ctx ty) (hole_in ctx ty hyps scoped)
    named_in (w ∷ ws) ctx ty hyps scoped =
        tells_bind (opened_by_in ctx ty (opening_of ty) refl hyps scoped) (λ o opening.
        entered_in ctx (Some w) o.hyp (λ inner. intros_named env calls ws inner o.under) opening.hyp (λ n.
        named_in ws (named o.hyp n ∷ ctx) o.under (behind_named ctx o.hyp n hyps opening.hyp) opening.under))

    all_in : (ctx : List Hyp) (ty : Tree) → IsScopedContext (length env) ctx → IsTermIn env ctx ty → Tells (intros_all env ctx ty) (IsSketchIn env ctx)
    all_in ctx (Prod n a b) hyps scoped =
        let h : IsScopedHyp (length ctx) (length env) (plain_hyp n a) = record { ty = scoped.0; value = tt } in
        entered_in ctx None (plain_hyp n a) (λ inner. intros_all env inner b) h (λ m.
        all_in (named (plain_hyp n a) m ∷ ctx) b (behind_named ctx (plain_hyp n a) m hyps h) scoped.1)
    all_in ctx (LetIn n a t b) hyps scoped =
        let h : IsScopedHyp (length ctx) (length env) (defined_hyp n a t) = record { ty = scoped.0; value = scoped.1 } in
        entered_in ctx None (defined_hyp n a t) (λ inner. intros_all env inner b) h (λ m.
        all_in (named (defined_hyp n a t) m ∷ ctx) b (behind_named ctx (defined_hyp n a t) m hyps h) scoped.2)
    all_in ctx (Var i) hyps scoped = tells_pure (hole ctx (Var i)) (hole_in ctx (Var i) hyps scoped)
    all_in ctx (Sorted s) hyps scoped = tells_pure (hole ctx (Sorted s)) (hole_in ctx (Sorted s) hyps scoped)
    all_in ctx (Constant c) hyps scoped = tells_pure (hole ctx (Constant c)) (hole_in ctx (Constant c) hyps scoped)
    all_in ctx (Lam n a b) hyps scoped = tells_pure (hole ctx (Lam n a b)) (hole_in ctx (Lam n a b) hyps scoped)
    all_in ctx (App f a) hyps scoped = tells_pure (hole ctx (App f a)) (hole_in ctx (App f a) hyps scoped)

    intros_in : (ws : List Word) (ctx : List Hyp) (ty : Tree) → IsScopedContext (length env) ctx → IsTermIn env ctx ty →
        Tells (intros env calls ws ctx ty) (IsSketchIn env ctx)
    intros_in [] ctx ty hyps scoped = all_in ctx ty hyps scoped
    intros_in (w ∷ ws) ctx ty hyps scoped = named_in (w ∷ ws) ctx ty hyps scoped

    -- whole terms
    exact_in : (ctx : List Hyp) (ty t : Tree) → IsTermIn env ctx t → IsScopedContext (length env) ctx →
        Tells (exact env calls ctx ty t) (IsSketchIn env ctx)
    exact_in ctx ty t term hyps = tells_bind (scope_of_checks env is calls ctx hyps t ty) (λ used judged. tells_pure (Ready t) judged.term)

    assumed_in : (ctx : List Hyp) (ty : Tree) (i : ℕ) (hs : List Hyp) → i + length hs ≡ length ctx →
        Tells (assumed env calls ctx ty i hs) (IsSketchIn env ctx)
    assumed_in ctx ty i [] count = tells_stop _
    assumed_in ctx ty i (h ∷ hs) count =
        tells_bind (any (tried env calls ctx ty i h)) (λ fits _. tells_if fits (λ _. tells_pure (Ready (Var i)) (omega (arith, count)))
        (λ _. assumed_in ctx ty (i + 1) hs (omega (arith, count))))

    sides_in : (ctx : List Hyp) (e : Equation) → IsEquationIn env ctx e → Tells (by_sides env calls ctx e) (IsSketchIn env ctx)
    sides_in ctx e equation =
        tells_bind (any (conv_at env calls ctx Same e.left e.right)) (λ same _. tells_require same NOT_CONVERTIBLE (λ _.
        tells_step (check_size (reflexive e)) (tells_pure (Ready (reflexive e)) (reflexive_scoped env ctx e equation))))

    reflexivity_in : (ctx : List Hyp) (ty : Tree) → IsScopedContext (length env) ctx → IsTermIn env ctx ty →
        Tells (reflexivity env calls ctx ty) (IsSketchIn env ctx)
    reflexivity_in ctx ty hyps scoped =
        tells_bind (scope_of_reduction env is true calls ctx hyps ty scoped) (λ reduced one.
        tells_bind (tells_some NOT_AN_EQUALITY (equation_of env reduced) (λ e found. equation_scoped env ctx reduced e found one)) (λ e equation.
        sides_in ctx e equation))

    solved_in : (ctx : List Hyp) (s : Run (Partial Goal)) → Tells s (IsSketchIn env ctx) → Tells (solved s) (IsFillingIn env ctx)
    solved_in ctx s one = tells_bind one (λ sketch in_scope. tells_pure (Give sketch) in_scope)

    -- a move; others are refused
    pub basic_in : (g : Goal) (m : Move) → IsGoalIn env g → Tells (run_basic env calls g m) (IsFillingIn env g.ctx)
    basic_in g (Intro p w) goal = solved_in g.ctx _ (intro_in w g.ctx g.ty goal.judged.scoped goal.ty)
    basic_in g (Intros p ws) goal = solved_in g.ctx _ (intros_in ws g.ctx g.ty goal.judged.scoped goal.ty)
    basic_in g (Exact p s) goal =
        tells_bind (elab_inside env is calls g.ctx s goal.judged.scoped) (λ t term. solved_in g.ctx _ (exact_in g.ctx g.ty t term goal.judged.scoped))
    basic_in g (Apply p s) goal =
        tells_bind (elab_inside env is calls g.ctx s goal.judged.scoped) (λ t term. solved_in g.ctx _ (apply_in g.ctx g.ty t goal.judged.scoped goal.ty term))
    basic_in g (Assumption p) goal = solved_in g.ctx _ (assumed_in g.ctx g.ty 0 g.ctx (omega arith))
    basic_in g (Split p) goal = solved_in g.ctx _ (construct_in 1 0 _ g.ctx g.ty goal.judged.scoped goal.ty)
    basic_in g (Left p) goal = solved_in g.ctx _ (construct_in 2 0 _ g.ctx g.ty goal.judged.scoped goal.ty)
    basic_in g (Right p) goal = solved_in g.ctx _ (construct_in 2 1 _ g.ctx g.ty goal.judged.scoped goal.ty)
    basic_in g (Reflexivity p) goal = solved_in g.ctx _ (reflexivity_in g.ctx g.ty goal.judged.scoped goal.ty)
    basic_in g (move.Admit p) goal = tells_pure Admit tt
    basic_in g (Simpl p) goal = tells_stop _
    basic_in g (Unfold p w) goal = tells_stop _
    basic_in g (Destruct p w pattern) goal = tells_stop _
    basic_in g (Induction p w pattern) goal = tells_stop _
    basic_in g (Rewrite p d s) goal = tells_stop _
