-- Laws of the steps.
use Rattle.std.specs.Prelude.{◌≡◌, ◌≢◌, ℕ, ◌+◌, ◌<◌, List, [], length, Some, None, Ok, slice_get}
use Rattle.core_term.specs.Tree.{Tree}
use Rattle.cic_rules.specs.declared.context.Hyp.{Hyp}
use Rattle.cic_rules.specs.declared.env.Slot.{Slot}
use Rattle.cic_rules.specs.Contexts.{IsIn, AreParams}
use Rattle.cic_rules.specs.Judges.{MayJudge, IsTermIn}
use Rattle.proof_state.specs.declared.goals.Goal.{Goal}
use Rattle.proof_state.specs.declared.state.Filling.{Filling}
use Rattle.proof_state.specs.declared.state.Filling.TheVariants.{Give, Admit}
use Rattle.proof_state.specs.declared.state.Refined.{Refined}
use Rattle.proof_state.specs.Partial.{Partial, holes}
use Rattle.proof_state.specs.Proof.{GoalStatus, Unsolved, Proof}
use Rattle.proof_state.specs.Steps.{started, goal_at, unsolved_at, MayFill, refined, refined_by}
use Rattle.proof_state.specs.IsProof.{IsProof}
use Rattle.proof_state.specs.Scopes.{IsGoalIn, IsFillingIn, HaveGoalsIn, KeepsGoals}

-- each state that is reached is a proof under way
pub record StepsKeepProofs : Type 0 where
  pub start : (ctx : List Hyp) (statement : Tree) → AreParams ctx → IsIn (length ctx) statement → IsProof (started ctx statement)
  pub step : (p : Proof) (n : ℕ) (by : Filling) (r : Refined) → IsProof p → MayFill (slice_get p.goals n) by → refined_by p n by ≡ Ok r → IsProof r.proof

-- a step leaves every other goal as it was
pub record StepsKeepGoals : Type 0 where
  pub others : (p : Proof) (n m : ℕ) (by : Filling) (r : Refined) → refined_by p n by ≡ Ok r → m < length p.goals → m ≢ n →
      slice_get r.proof.goals m ≡ slice_get p.goals m
  -- the new ones are those of the sketch, from the left
  pub new : (p : Proof) (n k : ℕ) (s : Partial Goal) (g : Goal) → slice_get (holes s) k ≡ Some g →
      slice_get (refined n s p).proof.goals (length p.goals + k) ≡ Some (Unsolved g)

-- a goal that was solved is there no more, one that was given up stays the same, and neither is unsolved
pub record StepsCloseGoals : Type 0 where
  pub solved : (p : Proof) (n : ℕ) (s : Partial Goal) (r : Refined) → n < length p.goals → refined_by p n (Give s) ≡ Ok r → goal_at r.proof.goals n ≡ None
  pub given_up : (p : Proof) (n : ℕ) (r : Refined) → refined_by p n Admit ≡ Ok r → goal_at r.proof.goals n ≡ goal_at p.goals n
  pub closed : (p : Proof) (n : ℕ) (by : Filling) (r : Refined) → n < length p.goals → refined_by p n by ≡ Ok r → unsolved_at r.proof.goals n ≡ None

-- where no goal is unsolved or given up, the term has no hole
pub record WholeWhereSolved : Type 0 where
  pub whole : (p : Proof) → IsProof p → ((n : ℕ) (g : Goal) → slice_get p.goals n ≢ Some (Unsolved g)) → p.given_up ≡ [] → holes p.term ≡ []

-- what may be done with an unsolved goal that was found
abbrev pub UnsolvedMayBeFilled : Type 0
UnsolvedMayBeFilled = (goals : List GoalStatus) (n : ℕ) (g : Goal) (by : Filling) → Some g ≡ unsolved_at goals n → MayFill (Some (Unsolved g)) by →
    MayFill (slice_get goals n) by

-- a proof of which all goals are in scope: it begins so, and a step with what is in scope keeps it so
pub record StepsKeepScopes : Type 0 where
  pub start : (env : List Slot) (ctx : List Hyp) (statement : Tree) → MayJudge env ctx → IsTermIn env ctx statement →
      HaveGoalsIn env (started ctx statement).goals
  pub step : (env : List Slot) (ctx : List Hyp) (p : Proof) (n : ℕ) (by : Filling) (r : Refined) → IsFillingIn env ctx by → refined_by p n by ≡ Ok r →
      KeepsGoals env p r.proof
  -- so is each of its goals that is found
  pub found : (env : List Slot) (goals : List GoalStatus) (n : ℕ) (g : Goal) → HaveGoalsIn env goals → Some g ≡ goal_at goals n → IsGoalIn env g
  pub unsolved : (env : List Slot) (goals : List GoalStatus) (n : ℕ) (g : Goal) → HaveGoalsIn env goals → Some g ≡ unsolved_at goals n → IsGoalIn env g

-- an unsolved goal may be filled with what is in scope of it
abbrev pub FillingsFit : Type 0
FillingsFit = (env : List Slot) (goals : List GoalStatus) (n : ℕ) (g : Goal) (by : Filling) → Some g ≡ unsolved_at goals n → IsFillingIn env g.ctx by →
    MayFill (slice_get goals n) by
