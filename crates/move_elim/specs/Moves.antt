-- `destruct` and `induction`: what each does with a goal, for which units, and when it is refused.
use Rattle.std.specs.Prelude.{ℕ, List, Bool, true, false, Option}
use Rattle.base_core.specs.declared.refusal_codes.TheConstants.{NOT_BUILT, NO_HYPOTHESIS}
use Rattle.coq_syntax.specs.MoveTrees.{Move, Pattern, Destruct, Induction}
use Rattle.core_term.specs.Tree.{Tree}
use Rattle.cic_rules.specs.declared.env.Slot.{Slot}
use Rattle.cic_rules.specs.declared.context.Hyp.{Hyp}
use Rattle.cic_rules.specs.Contexts.{type_of_variable}
use Rattle.cic_rules.specs.Infer.{sort_of_at}
use Rattle.cic_rules.specs.Reduce.{whnf_at}
use Rattle.cic_rules.specs.Runs.{Run, ◌>>=◌, pure, refuse, some_or}
use Rattle.cic_rules.specs.Steps.{take_step}
use Rattle.proof_state.specs.declared.goals.Goal.{Goal}
use Rattle.proof_state.specs.declared.state.Filling.{Filling}
use Rattle.proof_state.specs.declared.state.Filling.TheVariants.{Give}
use Rattle.proof_state.specs.Partial.{Partial}
use Rattle.move_elim.specs.Elimination.{elimination}
use Rattle.move_elim.specs.Subjects.{named_from, subject_of}

module _ (env : List Slot) (calls : ℕ) where
  -- the hypothesis of a name, whose type is reduced; then the sort of the goal is found, and no more units are spent
  abbrev pub eliminate : Bool → List Hyp → Tree → List ℕ → Option Pattern → Run (Partial Goal)
  eliminate induction ctx goal name pattern = do
    i ← some_or NO_HYPOTHESIS (named_from 0 ctx name)
    ty ← some_or NO_HYPOTHESIS (type_of_variable ctx i)
    reduced ← whnf_at env true calls ctx ty
    x ← take_step (subject_of env ctx i reduced)
    s ← sort_of_at env calls ctx goal
    take_step (elimination induction env ctx goal x pattern s.sort)

  abbrev pub solved : Run (Partial Goal) → Run Filling
  solved sketch = do
    s ← sketch
    pure (Give s)

  -- a move of another kind is refused
  abbrev pub run_elim : Goal → Move → Run Filling
  run_elim g (Destruct p w pattern) = solved (eliminate false g.ctx g.ty w.text pattern)
  run_elim g (Induction p w pattern) = solved (eliminate true g.ctx g.ty w.text pattern)
  run_elim g _ = refuse NOT_BUILT
