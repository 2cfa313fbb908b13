-- The law of fuel for `rewrite`.
use Rattle.std.specs.Prelude.{ℕ, ◌+◌, ◌-◌, nat_lt, List, Bool, Option, Some, None}
use Rattle.coq_syntax.specs.declared.moves.Direction.{Direction}
use Rattle.coq_syntax.specs.MoveTrees.{Intro, Intros, Exact, Apply, Assumption, Split, Left, Right, Reflexivity, Simpl, Unfold, Destruct, Induction, Rewrite}
use Rattle.coq_syntax.specs.MoveTrees as move
use Rattle.core_term.specs.Places.{occurrences}
use Rattle.core_term.specs.Tree.{Tree, Var, Sorted, Constant, Prod, Lam, LetIn, App}
use Rattle.cic_rules.specs.declared.context.Hyp.{Hyp}
use Rattle.cic_rules.specs.declared.env.Slot.{Slot}
use Rattle.cic_rules.specs.Laws.{KeepsLawOfFuel}
use Rattle.cic_rules.specs.Runs.{Run}
use Rattle.cic_rules.proofs.FuelLaws.{law_pure, law_bind, law_refuse, fuel_laws}
use Rattle.cic_rules.proofs.InferFuelLaws.{fuel_of_inference, fuel_of_sorts, fuel_of_checks}
use Rattle.elaborator.proofs.FuelOfElab.{fuel_of_elaboration}
use Rattle.matching.specs.Patterns.{Values}
use Rattle.matching.proofs.FuelOfMatch.{fuel_of_match}
use Rattle.move_basic.specs.Apply.{argument_by, argument}
use Rattle.proof_state.specs.declared.goals.Goal.{Goal}
use Rattle.proof_state.specs.declared.state.Filling.TheVariants.{Give}
use Rattle.proof_state.specs.Partial.{Partial, Applies}
use Rattle.move_rewrite.specs.declared.equations.Equation.{Equation}
use Rattle.move_rewrite.specs.declared.searching.Found.{Found}
use Rattle.move_rewrite.specs.Arguments.{with_arguments}
use Rattle.move_rewrite.specs.Laws.{FuelOfMoves}
use Rattle.move_rewrite.specs.Rewrite.{by_proof, by_equation, rewrite}
use Rattle.move_rewrite.specs.Search.{or_later, first_in, matched, tried, first_found}

law_later : (later : Run (Option Found)) (found : Option Found) → KeepsLawOfFuel later → KeepsLawOfFuel (or_later later found)
law_later later None law = law
law_later later (Some x) law = law_pure (Some x)

law_first : (run later : Run (Option Found)) → KeepsLawOfFuel run → KeepsLawOfFuel later → KeepsLawOfFuel (first_in run later)
law_first run later law more = law_bind law (λ found. law_later later found more)

module _ (env : List Slot) (calls : ℕ) (ctx : List Hyp) where
  law_matched : (count : ℕ) (pattern : Tree) (t : Option Tree) → KeepsLawOfFuel (matched env calls ctx count pattern t)
  law_matched count pattern None = law_pure None
  law_matched count pattern (Some t) = search (fuel_laws, fuel_of_match) depth 12

  law_tried : (count : ℕ) (pattern : Tree) (binders : ℕ) (t : Tree) → KeepsLawOfFuel (tried env calls ctx count pattern binders t)
  law_tried count pattern binders t = search (fuel_laws, law_matched) depth 12

  law_search : (count : ℕ) (pattern : Tree) (binders : ℕ) (t : Tree) → KeepsLawOfFuel (first_found env calls ctx count pattern binders t)
  law_search count pattern binders (Var i) = law_first _ _ (law_tried count pattern binders (Var i)) (law_pure None)
  law_search count pattern binders (Sorted s) = law_first _ _ (law_tried count pattern binders (Sorted s)) (law_pure None)
  law_search count pattern binders (Constant c) = law_first _ _ (law_tried count pattern binders (Constant c)) (law_pure None)
  law_search count pattern binders (Prod n a b) =
      law_first _ _ (law_tried count pattern binders (Prod n a b))
      (law_first _ _ (law_search count pattern binders a) (law_search count pattern (binders + 1) b))
  law_search count pattern binders (Lam n a b) =
      law_first _ _ (law_tried count pattern binders (Lam n a b))
      (law_first _ _ (law_search count pattern binders a) (law_search count pattern (binders + 1) b))
  law_search count pattern binders (LetIn n a t b) =
      law_first _ _ (law_tried count pattern binders (LetIn n a t b))
      (law_first _ _ (law_search count pattern binders a)
      (law_first _ _ (law_search count pattern binders t) (law_search count pattern (binders + 1) b)))
  law_search count pattern binders (App f a) =
      law_first _ _ (law_tried count pattern binders (App f a))
      (law_first _ _ (law_search count pattern binders f) (law_search count pattern binders a))

  law_argument_by : (a : Tree) (used : Bool) (v : Option Tree) → KeepsLawOfFuel (argument_by env calls ctx a used v)
  law_argument_by a used None = search (fuel_laws) depth 12
  law_argument_by a used (Some v) = search (fuel_laws, fuel_of_checks) depth 12

  law_argument : (values : Values) (count : ℕ) (a : Tree) (used : Bool) → KeepsLawOfFuel (argument env calls ctx values count a used)
  law_argument values count a used = search (fuel_laws, law_argument_by) depth 12

  law_arguments : (values : Values) (count : ℕ) (ty : Tree) (function : Partial Goal) → KeepsLawOfFuel (with_arguments env calls ctx values count ty function)
  law_arguments values count (Prod n a b) function =
      law_bind (law_argument values count a (nat_lt 0 (occurrences b 0))) (λ x. law_arguments values (count - 1) b (Applies function x))
  law_arguments values count (Var i) function = law_pure function
  law_arguments values count (Sorted s) function = law_pure function
  law_arguments values count (Constant c) function = law_pure function
  law_arguments values count (Lam n a b) function = law_pure function
  law_arguments values count (LetIn n a t b) function = law_pure function
  law_arguments values count (App f a) function = law_pure function

  law_by_proof : (d : Direction) (goal : Tree) (e : Equation) (x : Found) (proof : Partial Goal) → KeepsLawOfFuel (by_proof env calls d ctx goal e x proof)
  law_by_proof d goal e x proof = search (fuel_laws, fuel_of_sorts) depth 12

  law_by_equation : (d : Direction) (goal t ty : Tree) (count : ℕ) (e : Equation) → KeepsLawOfFuel (by_equation env calls d ctx goal t ty count e)
  law_by_equation d goal t ty count e = search (fuel_laws, law_search, law_arguments, law_by_proof) depth 12

  law_rewrite : (d : Direction) (goal t : Tree) → KeepsLawOfFuel (rewrite env calls d ctx goal t)
  law_rewrite d goal t = search (fuel_laws, fuel_of_inference, law_by_equation) depth 12

pub fuel_of_moves : FuelOfMoves
fuel_of_moves env calls g (Rewrite p d s) =
    law_bind (fuel_of_elaboration env calls g.ctx s)
    (λ t. law_bind (law_rewrite env calls g.ctx d g.ty t) (λ sketch. law_pure (Give sketch)))
fuel_of_moves env calls g (Intro p w) = law_refuse _
fuel_of_moves env calls g (Intros p ws) = law_refuse _
fuel_of_moves env calls g (Exact p s) = law_refuse _
fuel_of_moves env calls g (Apply p s) = law_refuse _
fuel_of_moves env calls g (Assumption p) = law_refuse _
fuel_of_moves env calls g (Split p) = law_refuse _
fuel_of_moves env calls g (Left p) = law_refuse _
fuel_of_moves env calls g (Right p) = law_refuse _
fuel_of_moves env calls g (Reflexivity p) = law_refuse _
fuel_of_moves env calls g (move.Admit p) = law_refuse _
fuel_of_moves env calls g (Simpl p) = law_refuse _
fuel_of_moves env calls g (Unfold p w) = law_refuse _
fuel_of_moves env calls g (Destruct p w pattern) = law_refuse _
fuel_of_moves env calls g (Induction p w pattern) = law_refuse _
