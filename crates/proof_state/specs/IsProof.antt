-- What is true of each proof under way.
use Rattle.std.specs.Prelude.{◌≡◌, ℕ, ◌+◌, ◌==◌, ◌≤◌, List, [], ◌∷◌, length, Option, Some, None, if◌then◌else◌, slice_get}
use Rattle.cic_rules.specs.declared.context.Hyp.{Hyp}
use Rattle.cic_rules.specs.Contexts.{IsIn, AreParams, plain_hyp, defined_hyp}
use Rattle.proof_state.specs.declared.goals.TheConstants.{GOAL_LIMIT}
use Rattle.proof_state.specs.declared.goals.Goal.{Goal}
use Rattle.proof_state.specs.Partial.{Partial, Ready, Hole, Abstracts, Defines, Applies, holes}
use Rattle.proof_state.specs.Proof.{GoalStatus, Unsolved, GivenUp, Solved, Proof}
use Rattle.proof_state.specs.Steps.{StandsIn, goal_at}

-- how often a number is in a list
abbrev pub times : ℕ → List ℕ → ℕ
times n [] = 0
times n (m ∷ ms) = (if n == m then 1 else 0) + times n ms

abbrev pub open_holes : GoalStatus → ℕ
open_holes (Unsolved g) = 1
open_holes (GivenUp g) = 1
open_holes Solved = 0

-- how many holes a goal has in the term: one, until it is solved
abbrev pub holes_of : Option GoalStatus → ℕ
holes_of None = 0
holes_of (Some status) = open_holes status

abbrev pub given_up_count : GoalStatus → ℕ
given_up_count (GivenUp g) = 1
given_up_count _ = 0

abbrev pub told_of : Option GoalStatus → ℕ
told_of None = 0
told_of (Some status) = given_up_count status

-- there is a goal, and it may stand there
abbrev pub IsThere : List Hyp → Option Goal → Type 0
IsThere ctx None = ⊥
IsThere ctx (Some g) = StandsIn ctx g

-- each hole has a goal, which stands in the context of the hole
abbrev pub Stand : List GoalStatus → List Hyp → Partial ℕ → Type 0
Stand goals ctx (Ready t) = Unit {0}
Stand goals ctx (Hole n) = IsThere ctx (goal_at goals n)
Stand goals ctx (Abstracts n a p) = Stand goals (plain_hyp n a ∷ ctx) p
Stand goals ctx (Defines n a t p) = Stand goals (defined_hyp n a t ∷ ctx) p
Stand goals ctx (Applies f a) = Stand goals ctx f × Stand goals ctx a

-- a goal's type is in its context
abbrev pub IsGoal : Goal → Type 0
IsGoal g = IsIn (length g.ctx) g.ty

abbrev pub HasGoal : GoalStatus → Type 0
HasGoal (Unsolved g) = IsGoal g
HasGoal (GivenUp g) = IsGoal g
HasGoal Solved = Unit {0}

abbrev pub HaveGoals : List GoalStatus → Type 0
HaveGoals [] = Unit {0}
HaveGoals (status ∷ goals) = HasGoal status × HaveGoals goals

-- a proof under way
pub record IsProof (p : Proof) : Type 0 where
  -- no hypothesis has a definition
  pub params : AreParams p.hyps
  pub statement : IsIn (length p.hyps) p.statement
  -- each goal that isn't solved has one hole, and no other number is at a hole
  pub holes : (n : ℕ) → times n (holes p.term) ≡ holes_of (slice_get p.goals n)
  -- each goal that is given up is told once, and no other number
  pub given_up : (n : ℕ) → times n p.given_up ≡ told_of (slice_get p.goals n)
  pub goals : HaveGoals p.goals
  -- each stands where its hole is
  pub stand : Stand p.goals p.hyps p.term
  pub few : length p.goals ≤ GOAL_LIMIT
