-- What `unfold` gives is in scope, as the goal was.
use Rattle.std.specs.Prelude.{◌≡◌, ℕ, suc, ◌≤◌, ◌<◌, ◌==◌, List, length, Bool, true, false, Option, Some, None, Result, Ok, Err, refl, IfOk, IfSome, if◌then◌else◌}
use Rattle.std.proofs.Common.{arith, subst, sym}
use Rattle.base_core.specs.Answers.{Gives}
use Rattle.base_core.specs.declared.refusals.Stop.{Stop}
use Rattle.core_term.specs.Places.{subst_of}
use Rattle.core_term.specs.Tree.{Tree, Var, Sorted, Constant, Prod, Lam, LetIn, App, free_bound, is_small}
use Rattle.core_term.specs.declared.stops.TermStop.TheVariants.{TooLarge}
use Rattle.term_spine.specs.Globals.{mentions}
use Rattle.cic_rules.specs.declared.context.Hyp.{Hyp}
use Rattle.cic_rules.specs.declared.env.Slot.{Slot}
use Rattle.cic_rules.specs.Environments.{body_of_global, place_in, IsEnvironment}
use Rattle.cic_rules.specs.Judges.{IsTermIn}
use Rattle.cic_rules.specs.Scopes.{IsScoped}
use Rattle.cic_rules.specs.Steps.{Step, answer_of}
use Rattle.cic_rules.specs.Steps as steps
use Rattle.cic_rules.proofs.EnvironmentScopes.{body_scoped}
use Rattle.cic_rules.proofs.ScopeLaws.{scoped_free, scoped_subst}
use Rattle.move_compute.specs.Unfold.{some_step, require_step, term_step, unfold_in}
use Rattle.move_compute.specs.Unfolding.{Making, ◌>>=◌, marked, built, applied, unfolded}
use Rattle.move_compute.specs.declared.unfolding.Unfolded.{Unfolded}

-- the value of a step, if it has one, is such
abbrev Each : {A S : Type 0} → (A → Type 0) → Result A S → Type 0
Each P (Ok x) = P x
Each P (Err stop) = Unit {0}

each_then : {A B : Type 0} (P : A → Type 0) (Q : B → Type 0) (m : Making A) (k : A → Making B) → Each P m → ((x : A) → P x → Each Q (k x)) → Each Q (m >>= k)
each_then P Q (Ok x) k such rest = rest x such
each_then P Q (Err stop) k such rest = tt

built_by : (b : Bool) (P : Unfolded → Type 0) (stands : Bool) (t : Tree) → P (marked stands t) →
    Each P ((if b then Ok t else Err TooLarge) >>= λ u. Ok (marked stands u))
built_by true P stands t such = such
built_by false P stands t such = tt

module _ (vars globals : ℕ) where
  abbrev IsGood : Unfolded → Type 0
  IsGood u = IsScoped vars globals u.term

  good_built : (stands : Bool) (t : Tree) → IsScoped vars globals t → Each IsGood (built stands t)
  good_built stands t scoped = built_by (is_small t) IsGood stands t scoped

  good_applied : (stands : Bool) (f x : Tree) → IsScoped vars globals f → IsScoped vars globals x → Each IsGood (applied stands f x)
  good_applied true (Lam n a b) x function argument =
      good_built true (subst_of b x 0) (scoped_subst vars (suc vars) globals 0 b x refl (omega arith) function.1 argument)
  good_applied true (Var i) x function argument = good_built false (App (Var i) x) (function, argument)
  good_applied true (Sorted s) x function argument = good_built false (App (Sorted s) x) (function, argument)
  good_applied true (Constant c) x function argument = good_built false (App (Constant c) x) (function, argument)
  good_applied true (Prod n a b) x function argument = good_built false (App (Prod n a b) x) (function, argument)
  good_applied true (LetIn n a t b) x function argument = good_built false (App (LetIn n a t b) x) (function, argument)
  good_applied true (App f a) x function argument = good_built false (App (App f a) x) (function, argument)
  good_applied false f x function argument = good_built false (App f x) (function, argument)

  good_constant : (b : Bool) (c : ℕ) (body : Tree) → c < globals → IsScoped vars globals body →
      IsGood (if b then marked true body else marked false (Constant c))
  good_constant true c body there scoped = scoped
  good_constant false c body there scoped = there

module _ (globals place : ℕ) (body : Tree) (closed : (n : ℕ) → IsScoped n globals body) where
  unfolded_scoped : (vars : ℕ) (t : Tree) → IsScoped vars globals t → Each (IsGood vars globals) (unfolded place body t)
  unfolded_scoped vars (Var i) scoped = scoped
  unfolded_scoped vars (Sorted s) scoped = scoped
  unfolded_scoped vars (Constant c) scoped = good_constant vars globals (c == place) c body scoped (closed vars)
  unfolded_scoped vars (Prod n a b) scoped =
      each_then (IsGood vars globals) (IsGood vars globals) _ _ (unfolded_scoped vars a scoped.0) (λ x one.
      each_then (IsGood (suc vars) globals) (IsGood vars globals) _ _ (unfolded_scoped (suc vars) b scoped.1) (λ y two.
      good_built vars globals false (Prod n x.term y.term) (one, two)))
  unfolded_scoped vars (Lam n a b) scoped =
      each_then (IsGood vars globals) (IsGood vars globals) _ _ (unfolded_scoped vars a scoped.0) (λ x one.
      each_then (IsGood (suc vars) globals) (IsGood vars globals) _ _ (unfolded_scoped (suc vars) b scoped.1) (λ y two.
      good_built vars globals false (Lam n x.term y.term) (one, two)))
  unfolded_scoped vars (LetIn n a t b) scoped =
      each_then (IsGood vars globals) (IsGood vars globals) _ _ (unfolded_scoped vars a scoped.0) (λ x one.
      each_then (IsGood vars globals) (IsGood vars globals) _ _ (unfolded_scoped vars t scoped.1) (λ y two.
      each_then (IsGood (suc vars) globals) (IsGood vars globals) _ _ (unfolded_scoped (suc vars) b scoped.2) (λ z three.
      good_built vars globals false (LetIn n x.term y.term z.term) (one, two, three))))
  unfolded_scoped vars (App f a) scoped =
      each_then (IsGood vars globals) (IsGood vars globals) _ _ (unfolded_scoped vars f scoped.0) (λ g one.
      each_then (IsGood vars globals) (IsGood vars globals) _ _ (unfolded_scoped vars a scoped.1) (λ x two.
      good_applied vars globals g.stands g.term x.term one two))

each_term : (vars globals : ℕ) (u : Making Unfolded) → Each (IsGood vars globals) u → Each (IsScoped vars globals) (term_step u)
each_term vars globals (Ok u) such = such
each_term vars globals (Err stop) such = tt

module _ (env : List Slot) (is : IsEnvironment env) where
  tested_scoped : (vars place : ℕ) (body goal : Tree) (b : Bool) → IsScoped vars (length env) goal → body_of_global env place ≡ Some body →
      Each (IsScoped vars (length env)) (steps.◌>>◌ (require_step b 89) (term_step (unfolded place body goal)))
  tested_scoped vars place body goal true scoped e =
      each_term vars (length env) (unfolded place body goal)
      (unfolded_scoped (length env) place body (λ n. body_scoped env is n place body e) vars goal scoped)
  tested_scoped vars place body goal false scoped e = tt

  body_by : (vars place : ℕ) (body : Option Tree) (goal : Tree) → IsScoped vars (length env) goal → body_of_global env place ≡ body →
      Each (IsScoped vars (length env)) (steps.◌>>=◌ (some_step 88 body) (λ body. steps.◌>>◌ (require_step (mentions place goal) 89) (term_step (unfolded place body goal))))
  body_by vars place None goal scoped e = tt
  body_by vars place (Some body) goal scoped e = tested_scoped vars place body goal (mentions place goal) scoped e

  place_by : (vars : ℕ) (place : Option ℕ) (goal : Tree) → IsScoped vars (length env) goal →
      Each (IsScoped vars (length env)) (steps.◌>>=◌ (some_step 88 place) (λ place. steps.◌>>=◌ (some_step 88 (body_of_global env place)) (λ body.
      steps.◌>>◌ (require_step (mentions place goal) 89) (term_step (unfolded place body goal)))))
  place_by vars None goal scoped = tt
  place_by vars (Some place) goal scoped = body_by vars place (body_of_global env place) goal scoped refl

  all_scoped : (vars : ℕ) (name : List ℕ) (goal : Tree) → IsScoped vars (length env) goal → Each (IsScoped vars (length env)) (unfold_in env name goal)
  all_scoped vars name goal scoped = place_by vars (place_in env name) goal scoped

answered : (P : Tree → Type 0) (step : Step Tree) (r : Result Tree Stop) → Each P step → Gives r (answer_of step) → IfOk r P
answered P (Ok u) (Ok t) such e = let same : u ≡ t = cc in subst P same such
answered P (Err stop) (Ok t) such e = cc
answered P step (Err stop) such e = tt

pub scoped_if_ok : (env : List Slot) (ctx : List Hyp) (name : List ℕ) (goal : Tree) (r : Result Tree Stop) → IsEnvironment env → IsTermIn env ctx goal →
    Gives r (answer_of (unfold_in env name goal)) → IfOk r (IsTermIn env ctx)
scoped_if_ok env ctx name goal r is scoped gives =
    answered (IsTermIn env ctx) (unfold_in env name goal) r (all_scoped env is (length ctx) name goal scoped) gives

body_closed : (env : List Slot) (c : ℕ) (t : Tree) → IsEnvironment env → body_of_global env c ≡ Some t → free_bound t ≡ 0
body_closed env c t is e = let few : free_bound t ≤ 0 = scoped_free 0 (length env) t (body_scoped env is 0 c t e) in omega (arith, few)

pub closed_if_any : (env : List Slot) (c : ℕ) (o : Option Tree) → IsEnvironment env → o ≡ body_of_global env c → IfSome o (λ b. free_bound b ≡ 0)
closed_if_any env c None is e = tt
closed_if_any env c (Some b) is e = body_closed env c b is (sym e)

pub goal_free : (env : List Slot) (ctx : List Hyp) (t : Tree) → IsTermIn env ctx t → free_bound t ≤ length ctx
goal_free env ctx t scoped = scoped_free (length ctx) (length env) t scoped
