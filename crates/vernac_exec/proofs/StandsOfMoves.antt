-- The refusals of a basic proof move stand at tokens of its term, or at the whole sentence.
use Rattle.std.proofs.Common.{ℕ, zero, suc, ◌+◌, ◌-◌, ◌==◌, List, [], ◌∷◌, length, Bool, true, false, Option, Some, None, Ok, Err, slice_get}
use Rattle.std.specs.Prelude.{if◌then◌else◌}
use Rattle.base_core.specs.declared.refusal_codes.TheConstants.{NAME_USED}
use Rattle.base_core.specs.declared.refusals.Place.TheVariants.{Whole}
use Rattle.coq_syntax.specs.declared.words.Word.{Word}
use Rattle.coq_syntax.specs.Moves.{move_tokens}
use Rattle.coq_syntax.specs.MoveTrees.{Move, Intro, Intros, Exact, Apply, Assumption, Split, Left, Right, Reflexivity, Simpl, Unfold, Destruct, Induction, Rewrite}
use Rattle.coq_syntax.specs.MoveTrees as move
use Rattle.core_term.specs.Tree.{Tree, Var, Sorted, Constant, Prod, Lam, LetIn, App, is_small}
use Rattle.core_term.specs.Places.{lift_of}
use Rattle.term_spine.specs.Spine.{head_of}
use Rattle.cic_rules.specs.declared.context.Hyp.{Hyp}
use Rattle.cic_rules.specs.declared.decls.InductiveDecl.{InductiveDecl}
use Rattle.cic_rules.specs.declared.env.Slot.{Slot}
use Rattle.cic_rules.specs.declared.judge.Mode.{Mode}
use Rattle.cic_rules.specs.declared.judge.Mode.TheVariants.{Same}
use Rattle.cic_rules.specs.Contexts.{plain_hyp, defined_hyp}
use Rattle.cic_rules.specs.Convert.{conv_at}
use Rattle.cic_rules.specs.Eliminators.{same_name, has_name, WILDCARD}
use Rattle.cic_rules.specs.Infer.{infer_at, check_at}
use Rattle.cic_rules.specs.Reduce.{whnf_at}
use Rattle.cic_rules.specs.Runs.{Run, ◌>>=◌}
use Rattle.cic_rules.specs.Steps.{Step, TooLarge, refuse_step}
use Rattle.fresh_names.specs.Letters.{constant_of}
use Rattle.fresh_names.specs.Shown.{shown_names}
use Rattle.matching.specs.Patterns.{Values, unset_values, has_unset, fill}
use Rattle.matching.specs.Match.{if_matched, match_under, match_binder, match_nodes, match_filled, match_at}
use Rattle.proof_state.specs.declared.goals.Goal.{Goal}
use Rattle.proof_state.specs.declared.state.Filling.TheVariants.{Give, Admit}
use Rattle.proof_state.specs.Partial.{Partial, Ready, Applies}
use Rattle.move_basic.specs.declared.equality.Equation.{Equation}
use Rattle.move_basic.specs.declared.opening.Opening.{Opening}
use Rattle.move_basic.specs.Names.{new_name}
use Rattle.move_basic.specs.Intro.{hole, named, under_hyp, opening_of, entered, opened_by, opened, intro, intros_named, intros_all, intros}
use Rattle.move_basic.specs.Terms.{exact, tried, assumed, assumption}
use Rattle.move_basic.specs.Apply.{is_used_later, or_else, matched, last_match, first_match, match_at_end, argument_by, argument, with_arguments, apply, apply_to_all}
use Rattle.move_basic.specs.Constructors.{place_of, at_params, at_place, constructor_by, decl_of_place, constructor_term, construct}
use Rattle.move_basic.specs.Equality.{by_sides, reflexivity}
use Rattle.move_basic.specs.Moves.{solved, run_basic}
use Rattle.vernac_exec.proofs.StandsLaws.{Stands, StepAt, stands_pure, stands_refuse, stands_step_of, stands_if, stands_hyp, stands_spend, stands_bind, stands_step, stands_laws}
use Rattle.vernac_exec.proofs.StandsOfElab.{AreAt, at_elab}
use Rattle.vernac_exec.proofs.StandsOfKernel.{at_whnf, at_conv, at_infer, at_checked}

module _ (P : ℕ → ℕ → Type 0) where
  whnfs : (env : List Slot) (delta : Bool) (calls : ℕ) (ctx : List Hyp) (t : Tree) → Stands P (whnf_at env delta calls ctx t)
  whnfs env delta calls ctx t = at_whnf P env delta calls ctx t

  convs : (env : List Slot) (calls : ℕ) (ctx : List Hyp) (mode : Mode) (t u : Tree) → Stands P (conv_at env calls ctx mode t u)
  convs env calls ctx mode t u = at_conv P env calls ctx mode t u

  infers : (env : List Slot) (calls : ℕ) (ctx : List Hyp) (t : Tree) → Stands P (infer_at env calls ctx t)
  infers env calls ctx t = at_infer P env calls ctx t

  checks : (env : List Slot) (calls : ℕ) (ctx : List Hyp) (t wanted : Tree) → Stands P (check_at env calls ctx t wanted)
  checks env calls ctx t wanted = at_checked P env calls ctx t wanted

  module _ (inner : List Hyp → ℕ → Tree → Tree → Values → Run (Option Values))
      (inners : (ctx : List Hyp) (binders : ℕ) (p t : Tree) (values : Values) → Stands P (inner ctx binders p t values)) where
    at_if_matched : (found : Option Values) (rest : Values → Run (Option Values)) → ((values : Values) → Stands P (rest values)) →
        Stands P (if_matched found rest)
    at_if_matched None rest rests = search (stands_laws)
    at_if_matched (Some values) rest rests = rests values

    at_under : (ctx : List Hyp) (h : Hyp) (binders : ℕ) (p t : Tree) (values : Values) → Stands P (match_under inner ctx h binders p t values)
    at_under ctx h binders p t values = search (stands_laws, inners)

    at_binder : (ctx : List Hyp) (h : Hyp) (binders : ℕ) (p t q u : Tree) (values : Values) →
        Stands P (match_binder inner ctx h binders p t q u values)
    at_binder ctx h binders p t q u values = search (stands_laws, inners, at_if_matched, at_under)

    at_nodes : (ctx : List Hyp) (binders : ℕ) (p t : Tree) (values : Values) → Stands P (match_nodes inner ctx binders p t values)
    at_nodes ctx binders (Var i) t values = search (stands_laws)
    at_nodes ctx binders (Prod n p q) (Prod m t u) values = search (stands_laws, at_binder)
    at_nodes ctx binders (Lam n p q) (Lam m t u) values = search (stands_laws, at_binder)
    at_nodes ctx binders (LetIn n p v q) (LetIn m t w u) values = search (stands_laws, inners, at_if_matched, at_binder) depth 12
    at_nodes ctx binders (App p q) (App t u) values = search (stands_laws, inners, at_if_matched)
    at_nodes ctx binders _ _ values = search (stands_laws)

  at_filled : (env : List Slot) (calls : ℕ) (ctx : List Hyp) (p t : Tree) (values : Values) → Stands P (match_filled env calls ctx p t values)
  at_filled env calls ctx p t values = search (stands_laws, convs) depth 12

  pub at_match : (env : List Slot) (calls : ℕ) (ctx : List Hyp) (binders : ℕ) (p t : Tree) (values : Values) →
      Stands P (match_at env calls ctx binders p t values)
  unfolding match_at
  at_match env zero ctx binders p t values = search (stands_laws)
  at_match env (suc calls) ctx binders p t values =
      stands_step (stands_spend 1)
      (stands_if (has_unset values p binders)
      (at_nodes (match_at env calls) (at_match env calls) ctx binders p t values)
      (at_filled env calls ctx (fill values p binders) t values))

  -- the name of a hypothesis
  given_by : (b : Bool) (name : List ℕ) → StepAt P (if b then refuse_step NAME_USED Whole else Ok name)
  given_by true name = tt
  given_by false name = tt

  at_new_name : (env : List Slot) (names : List (List ℕ)) (w : Option Word) (n : List ℕ) (a : Tree) → StepAt P (new_name env names w n a)
  at_new_name env names None n a = tt
  at_new_name env names (Some w) n a = given_by (has_name names w.text) w.text

  at_entered : (env : List Slot) (ctx : List Hyp) (w : Option Word) (h : Hyp) (rest : List Hyp → Run (Partial Goal)) →
      ((inner : List Hyp) → Stands P (rest inner)) → Stands P (entered env ctx w h rest)
  at_entered env ctx w h rest rests =
      stands_bind (stands_step_of P (new_name env (shown_names ctx) w h.name h.ty) (at_new_name env (shown_names ctx) w h.name h.ty)) (λ n.
      stands_bind (stands_hyp ctx (named h n)) (λ inner. stands_bind (rests inner) (λ s. stands_pure (under_hyp (named h n) s))))

  at_opened_by : (env : List Slot) (calls : ℕ) (ctx : List Hyp) (ty : Tree) (o : Option Opening) → Stands P (opened_by env calls ctx ty o)
  at_opened_by env calls ctx ty (Some o) = search (stands_laws)
  at_opened_by env calls ctx ty None = search (stands_laws, whnfs) depth 12

  at_opened : (env : List Slot) (calls : ℕ) (ctx : List Hyp) (ty : Tree) → Stands P (opened env calls ctx ty)
  at_opened env calls ctx ty = at_opened_by env calls ctx ty (opening_of ty)

  at_intro : (env : List Slot) (calls : ℕ) (w : Option Word) (ctx : List Hyp) (ty : Tree) → Stands P (intro env calls w ctx ty)
  at_intro env calls w ctx ty =
      stands_bind (at_opened env calls ctx ty) (λ o. at_entered env ctx w o.hyp _ (λ inner. stands_pure (hole inner o.under)))

  at_intros_named : (env : List Slot) (calls : ℕ) (ws : List Word) (ctx : List Hyp) (ty : Tree) → Stands P (intros_named env calls ws ctx ty)
  at_intros_named env calls [] ctx ty = stands_pure (hole ctx ty)
  at_intros_named env calls (w ∷ ws) ctx ty =
      stands_bind (at_opened env calls ctx ty)
      (λ o. at_entered env ctx (Some w) o.hyp _ (λ inner. at_intros_named env calls ws inner o.under))

  at_intros_all : (env : List Slot) (ctx : List Hyp) (ty : Tree) → Stands P (intros_all env ctx ty)
  at_intros_all env ctx (Prod n a b) = at_entered env ctx None (plain_hyp n a) _ (λ inner. at_intros_all env inner b)
  at_intros_all env ctx (LetIn n a t b) = at_entered env ctx None (defined_hyp n a t) _ (λ inner. at_intros_all env inner b)
  at_intros_all env ctx (Var i) = stands_pure (hole ctx (Var i))
  at_intros_all env ctx (Sorted s) = stands_pure (hole ctx (Sorted s))
  at_intros_all env ctx (Constant c) = stands_pure (hole ctx (Constant c))
  at_intros_all env ctx (Lam n a b) = stands_pure (hole ctx (Lam n a b))
  at_intros_all env ctx (App f a) = stands_pure (hole ctx (App f a))

  at_intros : (env : List Slot) (calls : ℕ) (ws : List Word) (ctx : List Hyp) (ty : Tree) → Stands P (intros env calls ws ctx ty)
  at_intros env calls [] ctx ty = at_intros_all env ctx ty
  at_intros env calls (w ∷ ws) ctx ty = at_intros_named env calls (w ∷ ws) ctx ty

  at_exact : (env : List Slot) (calls : ℕ) (ctx : List Hyp) (ty t : Tree) → Stands P (exact env calls ctx ty t)
  at_exact env calls ctx ty t = search (stands_laws, checks) depth 12

  at_tried : (env : List Slot) (calls : ℕ) (ctx : List Hyp) (ty : Tree) (i : ℕ) (h : Hyp) → Stands P (tried env calls ctx ty i h)
  at_tried env calls ctx ty i h =
      stands_if (same_name h.name WILDCARD) (stands_pure false) (convs env calls ctx Same (lift_of h.ty (suc i) 0) ty)

  at_assumed : (env : List Slot) (calls : ℕ) (ctx : List Hyp) (ty : Tree) (i : ℕ) (hs : List Hyp) → Stands P (assumed env calls ctx ty i hs)
  at_assumed env calls ctx ty i [] = search (stands_laws)
  at_assumed env calls ctx ty i (h ∷ hs) =
      stands_bind (at_tried env calls ctx ty i h) (λ fits. stands_if fits (stands_pure (Ready (Var i))) (at_assumed env calls ctx ty (i + 1) hs))

  at_assumption : (env : List Slot) (calls : ℕ) (ctx : List Hyp) (ty : Tree) → Stands P (assumption env calls ctx ty)
  at_assumption env calls ctx ty = at_assumed env calls ctx ty 0 ctx

  at_or_else : (found : Option Values) (rest : Run Values) → Stands P rest → Stands P (or_else found rest)
  at_or_else None rest law = law
  at_or_else (Some values) rest law = stands_pure values

  at_matched : (env : List Slot) (calls : ℕ) (ctx : List Hyp) (ty : Tree) (count : ℕ) (t : Tree) → Stands P (matched env calls ctx ty count t)
  at_matched env calls ctx ty count t = at_match env calls ctx 0 t ty (unset_values count)

  at_next : (env : List Slot) (calls : ℕ) (ctx : List Hyp) (ty : Tree) (count : ℕ) (t : Tree) (rest : Run Values) → Stands P rest →
      Stands P (matched env calls ctx ty count t >>= (λ found. or_else found rest))
  at_next env calls ctx ty count t rest law = stands_bind (at_matched env calls ctx ty count t) (λ found. at_or_else found rest law)

  at_last_match : (env : List Slot) (calls : ℕ) (ctx : List Hyp) (ty : Tree) (count : ℕ) (t : Tree) → Stands P (last_match env calls ctx ty count t)
  at_last_match env calls ctx ty count t = at_next env calls ctx ty count t _ (stands_refuse _)

  at_first_match : (env : List Slot) (calls : ℕ) (ctx : List Hyp) (ty : Tree) (count : ℕ) (t : Tree) →
      Stands P (first_match env calls ctx ty count t)
  at_first_match env calls ctx ty count (Prod n a b) =
      at_next env calls ctx ty count (Prod n a b) _ (at_first_match env calls ctx ty (count + 1) b)
  at_first_match env calls ctx ty count (Var i) = at_last_match env calls ctx ty count (Var i)
  at_first_match env calls ctx ty count (Sorted s) = at_last_match env calls ctx ty count (Sorted s)
  at_first_match env calls ctx ty count (Constant c) = at_last_match env calls ctx ty count (Constant c)
  at_first_match env calls ctx ty count (Lam n a b) = at_last_match env calls ctx ty count (Lam n a b)
  at_first_match env calls ctx ty count (LetIn n a t b) = at_last_match env calls ctx ty count (LetIn n a t b)
  at_first_match env calls ctx ty count (App f a) = at_last_match env calls ctx ty count (App f a)

  at_match_at_end : (env : List Slot) (calls : ℕ) (ctx : List Hyp) (ty : Tree) (count : ℕ) (t : Tree) →
      Stands P (match_at_end env calls ctx ty count t)
  at_match_at_end env calls ctx ty count (Prod n a b) = at_match_at_end env calls ctx ty (count + 1) b
  at_match_at_end env calls ctx ty count (Var i) = at_last_match env calls ctx ty count (Var i)
  at_match_at_end env calls ctx ty count (Sorted s) = at_last_match env calls ctx ty count (Sorted s)
  at_match_at_end env calls ctx ty count (Constant c) = at_last_match env calls ctx ty count (Constant c)
  at_match_at_end env calls ctx ty count (Lam n a b) = at_last_match env calls ctx ty count (Lam n a b)
  at_match_at_end env calls ctx ty count (LetIn n a t b) = at_last_match env calls ctx ty count (LetIn n a t b)
  at_match_at_end env calls ctx ty count (App f a) = at_last_match env calls ctx ty count (App f a)

  at_argument_by : (env : List Slot) (calls : ℕ) (ctx : List Hyp) (a : Tree) (used : Bool) (v : Option Tree) →
      Stands P (argument_by env calls ctx a used v)
  at_argument_by env calls ctx a used None = search (stands_laws) depth 12
  at_argument_by env calls ctx a used (Some v) = search (stands_laws, checks) depth 12

  pub at_argument : (env : List Slot) (calls : ℕ) (ctx : List Hyp) (values : Values) (count : ℕ) (a : Tree) (used : Bool) →
      Stands P (argument env calls ctx values count a used)
  at_argument env calls ctx values count a used = search (stands_laws, at_argument_by) depth 12

  at_arguments : (env : List Slot) (calls : ℕ) (ctx : List Hyp) (values : Values) (count : ℕ) (ty : Tree) (f : Partial Goal) →
      Stands P (with_arguments env calls ctx values count ty f)
  at_arguments env calls ctx values count (Prod n a b) f =
      stands_if (count == 0) (stands_pure f)
      (stands_bind (at_argument env calls ctx values count a (is_used_later (count - 1) b 0))
      (λ x. at_arguments env calls ctx values (count - 1) b (Applies f x)))
  at_arguments env calls ctx values count (Var i) f = stands_pure f
  at_arguments env calls ctx values count (Sorted s) f = stands_pure f
  at_arguments env calls ctx values count (Constant c) f = stands_pure f
  at_arguments env calls ctx values count (Lam n a b) f = stands_pure f
  at_arguments env calls ctx values count (LetIn n a t b) f = stands_pure f
  at_arguments env calls ctx values count (App g a) f = stands_pure f

  at_apply : (env : List Slot) (calls : ℕ) (ctx : List Hyp) (ty t : Tree) → Stands P (apply env calls ctx ty t)
  at_apply env calls ctx ty t = search (stands_laws, infers, at_first_match, at_arguments) depth 12

  at_apply_to_all : (env : List Slot) (calls : ℕ) (ctx : List Hyp) (ty t : Tree) → Stands P (apply_to_all env calls ctx ty t)
  at_apply_to_all env calls ctx ty t = search (stands_laws, infers, at_match_at_end, at_arguments) depth 12

  -- a constructor at its parameters
  sized_by : (b : Bool) (t : Tree) → StepAt P (if b then Ok t else Err TooLarge)
  sized_by true t = tt
  sized_by false t = tt

  at_at_place : (number params : ℕ) (t : Tree) (found : Option ℕ) → StepAt P (at_place number params t found)
  at_at_place number params t None = tt
  at_at_place number params t (Some place) = sized_by (is_small (at_params params place t)) (at_params params place t)

  counted_by : (b : Bool) (number : ℕ) (step : Step Tree) → StepAt P step → StepAt P (if b then step else refuse_step number Whole)
  counted_by true number step at = at
  counted_by false number step at = tt

  at_constructor_by : (env : List Slot) (count index number : ℕ) (t : Tree) (d : Option InductiveDecl) →
      StepAt P (constructor_by env count index number t d)
  at_constructor_by env count index number t None = tt
  at_constructor_by env count index number t (Some d) =
      counted_by (length d.ctors == count) number (at_place number (length d.params) t (place_of env (slice_get d.ctors index)))
      (at_at_place number (length d.params) t (place_of env (slice_get d.ctors index)))

  at_construct : (env : List Slot) (calls count index code : ℕ) (ctx : List Hyp) (ty : Tree) →
      Stands P (construct env calls count index code ctx ty)
  at_construct env calls count index code ctx ty =
      stands_bind (whnfs env true calls ctx ty) (λ reduced.
      stands_bind (stands_step_of P (constructor_term env count index code reduced)
      (at_constructor_by env count index code reduced (decl_of_place env (constant_of (head_of reduced))))) (λ t. at_apply_to_all env calls ctx ty t))

  at_by_sides : (env : List Slot) (calls : ℕ) (ctx : List Hyp) (e : Equation) → Stands P (by_sides env calls ctx e)
  at_by_sides env calls ctx e = search (stands_laws, convs) depth 12

  at_reflexivity : (env : List Slot) (calls : ℕ) (ctx : List Hyp) (ty : Tree) → Stands P (reflexivity env calls ctx ty)
  at_reflexivity env calls ctx ty = search (stands_laws, whnfs, at_by_sides) depth 12

  at_solved : (s : Run (Partial Goal)) → Stands P s → Stands P (solved s)
  at_solved s at = stands_bind at (λ x. stands_pure (Give x))

  -- the tokens of the move stand so; others are refused
  pub at_basic : (env : List Slot) (calls : ℕ) (g : Goal) (m : Move) → AreAt P (move_tokens m) → Stands P (run_basic env calls g m)
  at_basic env calls g (Intro p w) at = at_solved _ (at_intro env calls w g.ctx g.ty)
  at_basic env calls g (Intros p ws) at = at_solved _ (at_intros env calls ws g.ctx g.ty)
  at_basic env calls g (Exact p s) at = stands_bind (at_elab P env calls g.ctx s [] at.1) (λ t. at_solved _ (at_exact env calls g.ctx g.ty t))
  at_basic env calls g (Apply p s) at = stands_bind (at_elab P env calls g.ctx s [] at.1) (λ t. at_solved _ (at_apply env calls g.ctx g.ty t))
  at_basic env calls g (Assumption p) at = at_solved _ (at_assumption env calls g.ctx g.ty)
  at_basic env calls g (Split p) at = at_solved _ (at_construct env calls 1 0 _ g.ctx g.ty)
  at_basic env calls g (Left p) at = at_solved _ (at_construct env calls 2 0 _ g.ctx g.ty)
  at_basic env calls g (Right p) at = at_solved _ (at_construct env calls 2 1 _ g.ctx g.ty)
  at_basic env calls g (Reflexivity p) at = at_solved _ (at_reflexivity env calls g.ctx g.ty)
  at_basic env calls g (move.Admit p) at = stands_pure Admit
  at_basic env calls g (Simpl p) at = stands_refuse _
  at_basic env calls g (Unfold p w) at = stands_refuse _
  at_basic env calls g (Destruct p w pattern) at = stands_refuse _
  at_basic env calls g (Induction p w pattern) at = stands_refuse _
  at_basic env calls g (Rewrite p d s) at = stands_refuse _
