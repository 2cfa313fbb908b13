-- Goals of a proof in the scope of an environment.
use Rattle.std.specs.Prelude.{◌≡◌, ℕ, zero, suc, ◌+◌, nat_le, List, [], ◌∷◌, ◌++◌, map, length, slice_get, slice_set, Option, Some, None, Ok, Err, Bool, true, false, if◌then◌else◌}
use Rattle.std.proofs.Common.{refl, sym, subst}
use Rattle.base_core.specs.declared.refusals.Stop.TheVariants.{Out}
use Rattle.base_core.specs.declared.refusals.Limit.TheVariants.{SizeLimit}
use Rattle.cic_rules.specs.declared.context.Hyp.{Hyp}
use Rattle.cic_rules.specs.declared.env.Slot.{Slot}
use Rattle.cic_rules.specs.Contexts.{plain_hyp, defined_hyp}
use Rattle.cic_rules.proofs.ScopeLaws.{scoped_free}
use Rattle.proof_state.specs.declared.goals.Goal.{Goal}
use Rattle.proof_state.specs.declared.goals.TheConstants.{GOAL_LIMIT}
use Rattle.proof_state.specs.declared.state.Filling.{Filling}
use Rattle.proof_state.specs.declared.state.Filling.TheVariants.{Give, Admit}
use Rattle.proof_state.specs.declared.state.Refined.{Refined}
use Rattle.proof_state.specs.Partial.{Partial, Ready, Hole, Abstracts, Defines, Applies, holes}
use Rattle.proof_state.specs.Proof.{GoalStatus, Unsolved, GivenUp, Solved, Proof}
use Rattle.proof_state.specs.Steps.{goal_if_any, only_unsolved, Fits, MayFill, abandoned_at, abandoned, refined, refined_by}
use Rattle.proof_state.specs.Scopes.{IsGoalIn, IsSketchIn, IsFillingIn, HasGoalIn, HaveGoalsIn, KeepsGoals}
use Rattle.proof_state.specs.Laws.{StepsKeepScopes, FillingsFit}
use Rattle.proof_state.proofs.Keeps.{may_be_filled}

-- the goals of a sketch

module _ (env : List Slot) where
  goals_both : (old new : List GoalStatus) → HaveGoalsIn env old → HaveGoalsIn env new → HaveGoalsIn env (old ++ new)
  goals_both [] new before after = after
  goals_both (x ∷ old) new before after = (before.0, goals_both old new before.1 after)

  unsolved_both : (gs hs : List Goal) → HaveGoalsIn env (map Unsolved gs) → HaveGoalsIn env (map Unsolved hs) → HaveGoalsIn env (map Unsolved (gs ++ hs))
  unsolved_both [] hs before after = after
  unsolved_both (g ∷ gs) hs before after = (before.0, unsolved_both gs hs before.1 after)

  holes_in : (ctx : List Hyp) (s : Partial Goal) → IsSketchIn env ctx s → HaveGoalsIn env (map Unsolved (holes s))
  holes_in ctx (Ready t) sketch = tt
  holes_in ctx (Hole g) sketch = (sketch.1, tt)
  holes_in ctx (Abstracts n a s) sketch = holes_in (plain_hyp n a ∷ ctx) s sketch.1
  holes_in ctx (Defines n a t s) sketch = holes_in (defined_hyp n a t ∷ ctx) s sketch.2
  holes_in ctx (Applies f x) sketch = unsolved_both (holes f) (holes x) (holes_in ctx f sketch.0) (holes_in ctx x sketch.1)

  sketch_fits : (ctx : List Hyp) (s : Partial Goal) → IsSketchIn env ctx s → Fits ctx s
  sketch_fits ctx (Ready t) sketch = tt
  sketch_fits ctx (Hole g) sketch = record { same = sketch.0; scope = scoped_free (length g.ctx) (length env) g.ty sketch.1.ty }
  sketch_fits ctx (Abstracts n a s) sketch = sketch_fits (plain_hyp n a ∷ ctx) s sketch.1
  sketch_fits ctx (Defines n a t s) sketch = sketch_fits (defined_hyp n a t ∷ ctx) s sketch.2
  sketch_fits ctx (Applies f x) sketch = (sketch_fits ctx f sketch.0, sketch_fits ctx x sketch.1)

  -- the goals of a proof after a step

  goals_set : (goals : List GoalStatus) (n : ℕ) (gs : List GoalStatus) → HaveGoalsIn env goals → HaveGoalsIn env gs → HaveGoalsIn env (slice_set goals n Solved ++ gs)
  goals_set [] n gs old new = new
  goals_set (x ∷ goals) zero gs old new = (tt, goals_both goals gs old.1 new)
  goals_set (x ∷ goals) (suc n) gs old new = (old.0, goals_set goals n gs old.1 new)

  goals_given_up : (goals : List GoalStatus) (n : ℕ) → HaveGoalsIn env goals → HaveGoalsIn env (abandoned_at goals n)
  goals_given_up [] n old = tt
  goals_given_up (Unsolved g ∷ goals) zero old = old
  goals_given_up (GivenUp g ∷ goals) zero old = old
  goals_given_up (Solved ∷ goals) zero old = old
  goals_given_up (x ∷ goals) (suc n) old = (old.0, goals_given_up goals n old.1)

  given_kept : (p : Proof) (n : ℕ) (s : Partial Goal) (b : Bool) (r : Refined) → HaveGoalsIn env (map Unsolved (holes s)) →
      (if b then Ok (refined n s p) else Err (Out SizeLimit)) ≡ Ok r → KeepsGoals env p r.proof
  given_kept p n s true r new done =
      let e : refined n s p ≡ r = cc in
      subst (λ (x : Refined). KeepsGoals env p x.proof) e (λ old. goals_set p.goals n (map Unsolved (holes s)) old new)
  given_kept p n s false r new done = cc

  step_kept : (ctx : List Hyp) (p : Proof) (n : ℕ) (by : Filling) (r : Refined) → IsFillingIn env ctx by → refined_by p n by ≡ Ok r → KeepsGoals env p r.proof
  step_kept ctx p n (Give s) r filling done =
      given_kept p n s (nat_le (length p.goals + length (holes s)) GOAL_LIMIT) r (holes_in ctx s filling) done
  step_kept ctx p n Admit r filling done =
      let e : record { proof = abandoned n p; goals = [] } ≡ r = cc in
      subst (λ (x : Refined). KeepsGoals env p x.proof) e (goals_given_up p.goals n)

  -- a goal that is found

  status_in : (goals : List GoalStatus) (n : ℕ) (status : GoalStatus) → HaveGoalsIn env goals → slice_get goals n ≡ Some status → HasGoalIn env status
  status_in [] n status all found = cc
  status_in (x ∷ goals) zero status all found = let e : x ≡ status = cc in subst (HasGoalIn env) e all.0
  status_in (x ∷ goals) (suc n) status all found = status_in goals n status all.1 found

  goal_in : (g h : Goal) → Some g ≡ Some h → IsGoalIn env h → IsGoalIn env g
  goal_in g h e goal = let same : g ≡ h = cc in subst (IsGoalIn env) (sym same) goal

  found_in : (goals : List GoalStatus) (n : ℕ) (g : Goal) (status : Option GoalStatus) → slice_get goals n ≡ status → HaveGoalsIn env goals →
      Some g ≡ goal_if_any status → IsGoalIn env g
  found_in goals n g None looked all found = cc
  found_in goals n g (Some (Unsolved h)) looked all found = goal_in g h found (status_in goals n (Unsolved h) all looked)
  found_in goals n g (Some (GivenUp h)) looked all found = goal_in g h found (status_in goals n (GivenUp h) all looked)
  found_in goals n g (Some Solved) looked all found = cc

  unsolved_in : (goals : List GoalStatus) (n : ℕ) (g : Goal) (status : Option GoalStatus) → slice_get goals n ≡ status → HaveGoalsIn env goals →
      Some g ≡ only_unsolved status → IsGoalIn env g
  unsolved_in goals n g None looked all found = cc
  unsolved_in goals n g (Some (Unsolved h)) looked all found = goal_in g h found (status_in goals n (Unsolved h) all looked)
  unsolved_in goals n g (Some (GivenUp h)) looked all found = cc
  unsolved_in goals n g (Some Solved) looked all found = cc

  filling_fits : (g : Goal) (by : Filling) → IsFillingIn env g.ctx by → MayFill (Some (Unsolved g)) by
  filling_fits g (Give s) filling = sketch_fits g.ctx s filling
  filling_fits g Admit filling = tt

pub steps_keep_scopes : StepsKeepScopes
steps_keep_scopes = record {
  start = λ env ctx statement judged ty. (record { judged = judged; ty = ty }, tt);
  step = step_kept;
  found = λ env goals n g all found. found_in env goals n g (slice_get goals n) refl all found;
  unsolved = λ env goals n g all found. unsolved_in env goals n g (slice_get goals n) refl all found;
}

pub fillings_fit : FillingsFit
fillings_fit env goals n g by found filling = may_be_filled goals n g by found (filling_fits env g by filling)
