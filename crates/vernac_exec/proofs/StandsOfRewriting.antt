-- The refusals of `rewrite` stand at tokens of its term, or at the whole sentence.
use Rattle.std.proofs.Common.{ℕ, ◌+◌, ◌-◌, nat_lt, List, [], Bool, true, false, Option, Some, None, Ok, Err}
use Rattle.std.specs.Prelude.{if◌then◌else◌}
use Rattle.coq_syntax.specs.declared.moves.Direction.{Direction}
use Rattle.coq_syntax.specs.declared.moves.Direction.TheVariants.{Unmarked, Forward, Backward}
use Rattle.coq_syntax.specs.Spelled.{spells}
use Rattle.coq_syntax.specs.Trees.{Term}
use Rattle.core_term.specs.Tree.{Tree, Var, Sorted, Constant, Prod, Lam, LetIn, App, is_small}
use Rattle.core_term.specs.Places.{occurrences, subst_of}
use Rattle.cic_rules.specs.declared.context.Hyp.{Hyp}
use Rattle.cic_rules.specs.declared.env.Slot.{Slot}
use Rattle.cic_rules.specs.Runs.{Run}
use Rattle.cic_rules.specs.Infer.{infer_at, sort_of_at}
use Rattle.cic_rules.specs.Steps.{TooLarge, sized_step, take_step}
use Rattle.matching.specs.Patterns.{Values, fill}
use Rattle.matching.specs.Match.{match_at}
use Rattle.proof_state.specs.declared.goals.Goal.{Goal}
use Rattle.proof_state.specs.declared.state.Filling.TheVariants.{Give}
use Rattle.proof_state.specs.Partial.{Partial, Applies}
use Rattle.move_rewrite.specs.declared.equations.Equation.{Equation}
use Rattle.move_rewrite.specs.declared.searching.Found.{Found}
use Rattle.move_rewrite.specs.Arguments.{with_arguments}
use Rattle.move_rewrite.specs.Equations.{other_of, filled_equation}
use Rattle.move_rewrite.specs.Moves.{by_rewrite}
use Rattle.move_rewrite.specs.Replacement.{abstracted}
use Rattle.move_rewrite.specs.Rewrite.{by_proof, by_equation, rewrite}
use Rattle.move_rewrite.specs.Search.{or_later, first_in, matched, tried, first_found}
use Rattle.move_rewrite.specs.Terms.{eliminator_at, turning, turned, rewritten_by, rewritten}
use Rattle.vernac_exec.proofs.StandsLaws.{Stands, StepAt, step_at_then, stands_pure, stands_step_of, stands_bind, stands_laws}
use Rattle.vernac_exec.proofs.StandsOfElab.{AreAt, at_elab}
use Rattle.vernac_exec.proofs.StandsOfKernel.{at_infer, at_sort}
use Rattle.vernac_exec.proofs.StandsOfMoves.{at_match, at_argument}

module _ (P : ℕ → ℕ → Type 0) where
  -- the search for a subterm
  at_later : (later : Run (Option Found)) (found : Option Found) → Stands P later → Stands P (or_later later found)
  at_later later None at = at
  at_later later (Some x) at = stands_pure (Some x)

  at_first : (run later : Run (Option Found)) → Stands P run → Stands P later → Stands P (first_in run later)
  at_first run later at more = stands_bind at (λ found. at_later later found more)

  module _ (env : List Slot) (calls : ℕ) (ctx : List Hyp) where
    matches : (binders : ℕ) (p t : Tree) (values : Values) → Stands P (match_at env calls ctx binders p t values)
    matches binders p t values = at_match P env calls ctx binders p t values

    at_matched : (count : ℕ) (pattern : Tree) (t : Option Tree) → Stands P (matched env calls ctx count pattern t)
    at_matched count pattern None = stands_pure None
    at_matched count pattern (Some t) = search (stands_laws, matches) depth 12

    at_tried : (count : ℕ) (pattern : Tree) (binders : ℕ) (t : Tree) → Stands P (tried env calls ctx count pattern binders t)
    at_tried count pattern binders t = search (stands_laws, at_matched) depth 12

    at_search : (count : ℕ) (pattern : Tree) (binders : ℕ) (t : Tree) → Stands P (first_found env calls ctx count pattern binders t)
    at_search count pattern binders (Var i) = at_first _ _ (at_tried count pattern binders (Var i)) (stands_pure None)
    at_search count pattern binders (Sorted s) = at_first _ _ (at_tried count pattern binders (Sorted s)) (stands_pure None)
    at_search count pattern binders (Constant c) = at_first _ _ (at_tried count pattern binders (Constant c)) (stands_pure None)
    at_search count pattern binders (Prod n a b) =
        at_first _ _ (at_tried count pattern binders (Prod n a b))
        (at_first _ _ (at_search count pattern binders a) (at_search count pattern (binders + 1) b))
    at_search count pattern binders (Lam n a b) =
        at_first _ _ (at_tried count pattern binders (Lam n a b))
        (at_first _ _ (at_search count pattern binders a) (at_search count pattern (binders + 1) b))
    at_search count pattern binders (LetIn n a t b) =
        at_first _ _ (at_tried count pattern binders (LetIn n a t b))
        (at_first _ _ (at_search count pattern binders a)
        (at_first _ _ (at_search count pattern binders t) (at_search count pattern (binders + 1) b)))
    at_search count pattern binders (App f a) =
        at_first _ _ (at_tried count pattern binders (App f a))
        (at_first _ _ (at_search count pattern binders f) (at_search count pattern binders a))

    -- the arguments
    at_arguments : (values : Values) (count : ℕ) (ty : Tree) (function : Partial Goal) → Stands P (with_arguments env calls ctx values count ty function)
    at_arguments values count (Prod n a b) function =
        stands_bind (at_argument P env calls ctx values count a (nat_lt 0 (occurrences b 0))) (λ x. at_arguments values (count - 1) b (Applies function x))
    at_arguments values count (Var i) function = stands_pure function
    at_arguments values count (Sorted s) function = stands_pure function
    at_arguments values count (Constant c) function = stands_pure function
    at_arguments values count (Lam n a b) function = stands_pure function
    at_arguments values count (LetIn n a t b) function = stands_pure function
    at_arguments values count (App f a) function = stands_pure function

  -- the term
  sized_by : (b : Bool) (x : Unit {0}) → StepAt P (if b then Ok x else Err TooLarge)
  sized_by true x = tt
  sized_by false x = tt

  at_sized : (t : Tree) → StepAt P (sized_step t)
  at_sized t = sized_by (is_small t) tt

  at_filled : (values : Values) (e : Equation) → StepAt P (filled_equation values e)
  at_filled values e =
      step_at_then P (sized_step (fill values e.ty 0)) _ (at_sized (fill values e.ty 0)) (λ _.
      step_at_then P (sized_step (fill values e.left 0)) _ (at_sized (fill values e.left 0)) (λ _.
      step_at_then P (sized_step (fill values e.right 0)) _ (at_sized (fill values e.right 0)) (λ _. tt)))

  at_turning : (e : Equation) (proof : Partial Goal) → StepAt P (turned Unmarked e proof)
  at_turning e proof = step_at_then P (sized_step (turning e)) _ (at_sized (turning e)) (λ _. tt)

  at_turned : (d : Direction) (e : Equation) (proof : Partial Goal) → StepAt P (turned d e proof)
  at_turned (Backward place) e proof = tt
  at_turned Unmarked e proof = at_turning e proof
  at_turned (Forward place) e proof = at_turning e proof

  at_by : (d : Direction) (ctx : List Hyp) (eliminator : ℕ) (e : Equation) (body : Tree) (proof : Partial Goal) →
      StepAt P (rewritten_by d ctx eliminator e body proof)
  at_by d ctx eliminator e body proof =
      step_at_then P (sized_step (eliminator_at d eliminator e body)) _ (at_sized (eliminator_at d eliminator e body)) (λ _.
      step_at_then P (sized_step (subst_of body (other_of d e) 0)) _ (at_sized (subst_of body (other_of d e) 0)) (λ _.
      step_at_then P (turned d e proof) _ (at_turned d e proof) (λ _. tt)))

  at_term : (d : Direction) (ctx : List Hyp) (goal : Tree) (eliminator : ℕ) (e : Equation) (x : Found) (proof : Partial Goal) →
      StepAt P (rewritten d ctx goal eliminator e x proof)
  at_term d ctx goal eliminator e x proof =
      step_at_then P (filled_equation x.values e) _ (at_filled x.values e) (λ at. at_by d ctx eliminator at (abstracted x.subterm goal 0) proof)

  at_rewritten : (d : Direction) (ctx : List Hyp) (goal : Tree) (eliminator : ℕ) (e : Equation) (x : Found) (proof : Partial Goal) →
      Stands P (take_step (rewritten d ctx goal eliminator e x proof))
  at_rewritten d ctx goal eliminator e x proof = stands_step_of P (rewritten d ctx goal eliminator e x proof) (at_term d ctx goal eliminator e x proof)

  module _ (env : List Slot) (calls : ℕ) (ctx : List Hyp) where
    sorts : (a : Tree) → Stands P (sort_of_at env calls ctx a)
    sorts a = at_sort P env calls ctx a

    infers : (t : Tree) → Stands P (infer_at env calls ctx t)
    infers t = at_infer P env calls ctx t

    at_by_proof : (d : Direction) (goal : Tree) (e : Equation) (x : Found) (proof : Partial Goal) → Stands P (by_proof env calls d ctx goal e x proof)
    at_by_proof d goal e x proof = search (stands_laws, sorts, at_rewritten) depth 12

    at_by_equation : (d : Direction) (goal t ty : Tree) (count : ℕ) (e : Equation) → Stands P (by_equation env calls d ctx goal t ty count e)
    at_by_equation d goal t ty count e = search (stands_laws, at_search, at_arguments, at_by_proof) depth 12

    at_rewrite : (d : Direction) (goal t : Tree) → Stands P (rewrite env calls d ctx goal t)
    at_rewrite d goal t = search (stands_laws, infers, at_by_equation) depth 12

  -- the move
  pub at_by_rewrite : (env : List Slot) (calls : ℕ) (g : Goal) (d : Direction) (s : Term) → AreAt P (spells s []) → Stands P (by_rewrite env calls g d s)
  at_by_rewrite env calls g d s at =
      stands_bind (at_elab P env calls g.ctx s [] at) (λ t. stands_bind (at_rewrite env calls g.ctx d g.ty t) (λ sketch. stands_pure (Give sketch)))
