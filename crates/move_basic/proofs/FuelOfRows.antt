-- The law of fuel for each row.
use Rattle.std.specs.Prelude.{ℕ, suc, ◌+◌, ◌-◌, ◌==◌, List, [], ◌∷◌, Bool, false, Option, Some, None}
use Rattle.coq_syntax.specs.declared.words.Word.{Word}
use Rattle.core_term.specs.Tree.{Tree, Var, Sorted, Constant, Prod, Lam, LetIn, App}
use Rattle.core_term.specs.Places.{lift_of}
use Rattle.cic_rules.specs.declared.context.Hyp.{Hyp}
use Rattle.cic_rules.specs.declared.env.Slot.{Slot}
use Rattle.cic_rules.specs.declared.judge.Mode.TheVariants.{Same}
use Rattle.cic_rules.specs.Contexts.{plain_hyp, defined_hyp}
use Rattle.cic_rules.specs.Eliminators.{same_name, WILDCARD}
use Rattle.cic_rules.specs.Laws.{KeepsLawOfFuel}
use Rattle.cic_rules.specs.Runs.{Run, ◌>>=◌}
use Rattle.cic_rules.proofs.FuelLaws.{law_pure, law_bind, law_if, law_refuse, fuel_laws}
use Rattle.cic_rules.proofs.JudgeFuelLaws.{fuel_of_reduction, fuel_of_conversion}
use Rattle.cic_rules.proofs.InferFuelLaws.{fuel_of_inference, fuel_of_checks}
use Rattle.matching.specs.Patterns.{Values, unset_values}
use Rattle.matching.proofs.FuelOfMatch.{fuel_of_match}
use Rattle.proof_state.specs.declared.goals.Goal.{Goal}
use Rattle.proof_state.specs.Partial.{Partial, Ready, Applies}
use Rattle.move_basic.specs.declared.equality.Equation.{Equation}
use Rattle.move_basic.specs.declared.opening.Opening.{Opening}
use Rattle.move_basic.specs.Intro.{hole, opening_of, entered, opened_by, opened, intro, intros_named, intros_all, intros}
use Rattle.move_basic.specs.Terms.{exact, tried, assumed, assumption}
use Rattle.move_basic.specs.Apply.{is_used_later, or_else, matched, last_match, first_match, match_at_end, argument_by, argument, with_arguments, apply, apply_to_all}
use Rattle.move_basic.specs.Constructors.{construct}
use Rattle.move_basic.specs.Equality.{by_sides, reflexivity}

law_entered : (env : List Slot) (ctx : List Hyp) (w : Option Word) (h : Hyp) (rest : List Hyp → Run (Partial Goal)) →
    ((inner : List Hyp) → KeepsLawOfFuel (rest inner)) → KeepsLawOfFuel (entered env ctx w h rest)
law_entered env ctx w h rest rests = search (fuel_laws, rests) depth 12

law_opened_by : (env : List Slot) (calls : ℕ) (ctx : List Hyp) (ty : Tree) (o : Option Opening) → KeepsLawOfFuel (opened_by env calls ctx ty o)
law_opened_by env calls ctx ty (Some o) = search (fuel_laws)
law_opened_by env calls ctx ty None = search (fuel_laws, fuel_of_reduction) depth 12

law_opened : (env : List Slot) (calls : ℕ) (ctx : List Hyp) (ty : Tree) → KeepsLawOfFuel (opened env calls ctx ty)
law_opened env calls ctx ty = law_opened_by env calls ctx ty (opening_of ty)

pub law_intro : (env : List Slot) (calls : ℕ) (w : Option Word) (ctx : List Hyp) (ty : Tree) → KeepsLawOfFuel (intro env calls w ctx ty)
law_intro env calls w ctx ty =
    law_bind (law_opened env calls ctx ty) (λ o. law_entered env ctx w o.hyp _ (λ inner. law_pure (hole inner o.under)))

law_intros_named : (env : List Slot) (calls : ℕ) (ws : List Word) (ctx : List Hyp) (ty : Tree) → KeepsLawOfFuel (intros_named env calls ws ctx ty)
law_intros_named env calls [] ctx ty = law_pure (hole ctx ty)
law_intros_named env calls (w ∷ ws) ctx ty =
    law_bind (law_opened env calls ctx ty)
    (λ o. law_entered env ctx (Some w) o.hyp _ (λ inner. law_intros_named env calls ws inner o.under))

law_intros_all : (env : List Slot) (ctx : List Hyp) (ty : Tree) → KeepsLawOfFuel (intros_all env ctx ty)
law_intros_all env ctx (Prod n a b) = law_entered env ctx None (plain_hyp n a) _ (λ inner. law_intros_all env inner b)
law_intros_all env ctx (LetIn n a t b) = law_entered env ctx None (defined_hyp n a t) _ (λ inner. law_intros_all env inner b)
law_intros_all env ctx (Var i) = law_pure (hole ctx (Var i))
law_intros_all env ctx (Sorted s) = law_pure (hole ctx (Sorted s))
law_intros_all env ctx (Constant c) = law_pure (hole ctx (Constant c))
law_intros_all env ctx (Lam n a b) = law_pure (hole ctx (Lam n a b))
law_intros_all env ctx (App f a) = law_pure (hole ctx (App f a))

pub law_intros : (env : List Slot) (calls : ℕ) (ws : List Word) (ctx : List Hyp) (ty : Tree) → KeepsLawOfFuel (intros env calls ws ctx ty)
law_intros env calls [] ctx ty = law_intros_all env ctx ty
law_intros env calls (w ∷ ws) ctx ty = law_intros_named env calls (w ∷ ws) ctx ty

pub law_exact : (env : List Slot) (calls : ℕ) (ctx : List Hyp) (ty t : Tree) → KeepsLawOfFuel (exact env calls ctx ty t)
law_exact env calls ctx ty t = search (fuel_laws, fuel_of_checks) depth 12

law_tried : (env : List Slot) (calls : ℕ) (ctx : List Hyp) (ty : Tree) (i : ℕ) (h : Hyp) → KeepsLawOfFuel (tried env calls ctx ty i h)
law_tried env calls ctx ty i h =
    law_if (same_name h.name WILDCARD) (law_pure false) (fuel_of_conversion env calls ctx Same (lift_of h.ty (suc i) 0) ty)

law_assumed : (env : List Slot) (calls : ℕ) (ctx : List Hyp) (ty : Tree) (i : ℕ) (hs : List Hyp) → KeepsLawOfFuel (assumed env calls ctx ty i hs)
law_assumed env calls ctx ty i [] = search (fuel_laws)
law_assumed env calls ctx ty i (h ∷ hs) =
    law_bind (law_tried env calls ctx ty i h) (λ fits. law_if fits (law_pure (Ready (Var i))) (law_assumed env calls ctx ty (i + 1) hs))

pub law_assumption : (env : List Slot) (calls : ℕ) (ctx : List Hyp) (ty : Tree) → KeepsLawOfFuel (assumption env calls ctx ty)
law_assumption env calls ctx ty = law_assumed env calls ctx ty 0 ctx

law_or_else : (found : Option Values) (rest : Run Values) → KeepsLawOfFuel rest → KeepsLawOfFuel (or_else found rest)
law_or_else None rest law = law
law_or_else (Some values) rest law = law_pure values

law_matched : (env : List Slot) (calls : ℕ) (ctx : List Hyp) (ty : Tree) (count : ℕ) (t : Tree) → KeepsLawOfFuel (matched env calls ctx ty count t)
law_matched env calls ctx ty count t = fuel_of_match env calls ctx 0 t ty (unset_values count)

law_next : (env : List Slot) (calls : ℕ) (ctx : List Hyp) (ty : Tree) (count : ℕ) (t : Tree) (rest : Run Values) → KeepsLawOfFuel rest →
    KeepsLawOfFuel (matched env calls ctx ty count t >>= (λ found. or_else found rest))
law_next env calls ctx ty count t rest law = law_bind (law_matched env calls ctx ty count t) (λ found. law_or_else found rest law)

law_last_match : (env : List Slot) (calls : ℕ) (ctx : List Hyp) (ty : Tree) (count : ℕ) (t : Tree) → KeepsLawOfFuel (last_match env calls ctx ty count t)
law_last_match env calls ctx ty count t = law_next env calls ctx ty count t _ (law_refuse _)

law_first_match : (env : List Slot) (calls : ℕ) (ctx : List Hyp) (ty : Tree) (count : ℕ) (t : Tree) →
    KeepsLawOfFuel (first_match env calls ctx ty count t)
law_first_match env calls ctx ty count (Prod n a b) =
    law_next env calls ctx ty count (Prod n a b) _ (law_first_match env calls ctx ty (count + 1) b)
law_first_match env calls ctx ty count (Var i) = law_last_match env calls ctx ty count (Var i)
law_first_match env calls ctx ty count (Sorted s) = law_last_match env calls ctx ty count (Sorted s)
law_first_match env calls ctx ty count (Constant c) = law_last_match env calls ctx ty count (Constant c)
law_first_match env calls ctx ty count (Lam n a b) = law_last_match env calls ctx ty count (Lam n a b)
law_first_match env calls ctx ty count (LetIn n a t b) = law_last_match env calls ctx ty count (LetIn n a t b)
law_first_match env calls ctx ty count (App f a) = law_last_match env calls ctx ty count (App f a)

law_match_at_end : (env : List Slot) (calls : ℕ) (ctx : List Hyp) (ty : Tree) (count : ℕ) (t : Tree) →
    KeepsLawOfFuel (match_at_end env calls ctx ty count t)
law_match_at_end env calls ctx ty count (Prod n a b) = law_match_at_end env calls ctx ty (count + 1) b
law_match_at_end env calls ctx ty count (Var i) = law_last_match env calls ctx ty count (Var i)
law_match_at_end env calls ctx ty count (Sorted s) = law_last_match env calls ctx ty count (Sorted s)
law_match_at_end env calls ctx ty count (Constant c) = law_last_match env calls ctx ty count (Constant c)
law_match_at_end env calls ctx ty count (Lam n a b) = law_last_match env calls ctx ty count (Lam n a b)
law_match_at_end env calls ctx ty count (LetIn n a t b) = law_last_match env calls ctx ty count (LetIn n a t b)
law_match_at_end env calls ctx ty count (App f a) = law_last_match env calls ctx ty count (App f a)

law_argument_by : (env : List Slot) (calls : ℕ) (ctx : List Hyp) (a : Tree) (used : Bool) (v : Option Tree) →
    KeepsLawOfFuel (argument_by env calls ctx a used v)
law_argument_by env calls ctx a used None = search (fuel_laws) depth 12
law_argument_by env calls ctx a used (Some v) = search (fuel_laws, fuel_of_checks) depth 12

law_argument : (env : List Slot) (calls : ℕ) (ctx : List Hyp) (values : Values) (count : ℕ) (a : Tree) (used : Bool) →
    KeepsLawOfFuel (argument env calls ctx values count a used)
law_argument env calls ctx values count a used = search (fuel_laws, law_argument_by) depth 12

law_arguments : (env : List Slot) (calls : ℕ) (ctx : List Hyp) (values : Values) (count : ℕ) (ty : Tree) (f : Partial Goal) →
    KeepsLawOfFuel (with_arguments env calls ctx values count ty f)
law_arguments env calls ctx values count (Prod n a b) f =
    law_if (count == 0) (law_pure f)
    (law_bind (law_argument env calls ctx values count a (is_used_later (count - 1) b 0))
    (λ x. law_arguments env calls ctx values (count - 1) b (Applies f x)))
law_arguments env calls ctx values count (Var i) f = law_pure f
law_arguments env calls ctx values count (Sorted s) f = law_pure f
law_arguments env calls ctx values count (Constant c) f = law_pure f
law_arguments env calls ctx values count (Lam n a b) f = law_pure f
law_arguments env calls ctx values count (LetIn n a t b) f = law_pure f
law_arguments env calls ctx values count (App g a) f = law_pure f

pub law_apply : (env : List Slot) (calls : ℕ) (ctx : List Hyp) (ty t : Tree) → KeepsLawOfFuel (apply env calls ctx ty t)
law_apply env calls ctx ty t = search (fuel_laws, fuel_of_inference, law_first_match, law_arguments) depth 12

law_apply_to_all : (env : List Slot) (calls : ℕ) (ctx : List Hyp) (ty t : Tree) → KeepsLawOfFuel (apply_to_all env calls ctx ty t)
law_apply_to_all env calls ctx ty t = search (fuel_laws, fuel_of_inference, law_match_at_end, law_arguments) depth 12

pub law_construct : (env : List Slot) (calls count index code : ℕ) (ctx : List Hyp) (ty : Tree) →
    KeepsLawOfFuel (construct env calls count index code ctx ty)
law_construct env calls count index code ctx ty = search (fuel_laws, fuel_of_reduction, law_apply_to_all) depth 12

law_by_sides : (env : List Slot) (calls : ℕ) (ctx : List Hyp) (e : Equation) → KeepsLawOfFuel (by_sides env calls ctx e)
law_by_sides env calls ctx e = search (fuel_laws, fuel_of_conversion) depth 12

pub law_reflexivity : (env : List Slot) (calls : ℕ) (ctx : List Hyp) (ty : Tree) → KeepsLawOfFuel (reflexivity env calls ctx ty)
law_reflexivity env calls ctx ty = search (fuel_laws, fuel_of_reduction, law_by_sides) depth 12
