-- What stands in scope: goals, sketches for them, and all goals of a proof.
use Rattle.std.specs.Prelude.{◌≡◌, List, [], ◌∷◌, Option, Some}
use Rattle.cic_rules.specs.declared.context.Hyp.{Hyp}
use Rattle.cic_rules.specs.declared.env.Slot.{Slot}
use Rattle.cic_rules.specs.Contexts.{plain_hyp, defined_hyp}
use Rattle.cic_rules.specs.Judges.{MayJudge, IsTermIn}
use Rattle.proof_state.specs.declared.goals.Goal.{Goal}
use Rattle.proof_state.specs.declared.state.Filling.{Filling}
use Rattle.proof_state.specs.declared.state.Filling.TheVariants.{Give, Admit}
use Rattle.proof_state.specs.Partial.{Partial, Ready, Hole, Abstracts, Defines, Applies}
use Rattle.proof_state.specs.Proof.{Proof, GoalStatus, Unsolved, GivenUp, Solved}
use Rattle.proof_state.specs.Steps.{unnamed}

-- a goal speaks of its hypotheses and of globals alone
pub record IsGoalIn (env : List Slot) (g : Goal) : Type 0 where
  pub judged : MayJudge env g.ctx
  pub ty : IsTermIn env g.ctx g.ty

-- so does each goal of a sketch, which stands in the context of its hole, names aside
abbrev pub IsSketchIn : List Slot → List Hyp → Partial Goal → Type 0
IsSketchIn env ctx (Ready t) = IsTermIn env ctx t
IsSketchIn env ctx (Hole g) = (unnamed g.ctx ≡ unnamed ctx) × IsGoalIn env g
IsSketchIn env ctx (Abstracts n a s) = IsTermIn env ctx a × IsSketchIn env (plain_hyp n a ∷ ctx) s
IsSketchIn env ctx (Defines n a t s) = IsTermIn env ctx a × IsTermIn env ctx t × IsSketchIn env (defined_hyp n a t ∷ ctx) s
IsSketchIn env ctx (Applies f x) = IsSketchIn env ctx f × IsSketchIn env ctx x

abbrev pub IsFillingIn : List Slot → List Hyp → Filling → Type 0
IsFillingIn env ctx (Give s) = IsSketchIn env ctx s
IsFillingIn env ctx Admit = Unit {0}

-- a goal is unsolved and in scope
abbrev pub IsOpenIn : List Slot → Option GoalStatus → Type 0
IsOpenIn env (Some (Unsolved g)) = IsGoalIn env g
IsOpenIn env _ = ⊥

abbrev pub HasGoalIn : List Slot → GoalStatus → Type 0
HasGoalIn env (Unsolved g) = IsGoalIn env g
HasGoalIn env (GivenUp g) = IsGoalIn env g
HasGoalIn env Solved = Unit {0}

abbrev pub HaveGoalsIn : List Slot → List GoalStatus → Type 0
HaveGoalsIn env [] = Unit {0}
HaveGoalsIn env (status ∷ goals) = HasGoalIn env status × HaveGoalsIn env goals

-- where all goals were in scope, they are so after a step
abbrev pub KeepsGoals : List Slot → Proof → Proof → Type 0
KeepsGoals env old new = HaveGoalsIn env old.goals → HaveGoalsIn env new.goals
