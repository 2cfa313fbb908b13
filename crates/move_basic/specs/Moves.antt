-- The basic proof moves: what each does with a goal, for which units, and when it is refused.
use Rattle.std.specs.Prelude.{ℕ, List, Result, Ok, Err}
use Rattle.base_core.specs.declared.refusals.Stop.{Stop}
use Rattle.base_core.specs.declared.refusal_codes.TheConstants.{NOT_BUILT, NOT_ONE_CONSTRUCTOR, NOT_TWO_CONSTRUCTORS}
use Rattle.coq_syntax.specs.MoveTrees.{Move, Intro, Intros, Exact, Apply, Assumption, Split, Left, Right, Reflexivity}
use Rattle.coq_syntax.specs.MoveTrees as move
use Rattle.coq_syntax.specs.Trees.{Term}
use Rattle.cic_rules.specs.declared.env.Slot.{Slot}
use Rattle.cic_rules.specs.Runs.{Run, ◌>>=◌, pure, refuse}
use Rattle.elaborator.specs.Elab.{elab}
use Rattle.proof_state.specs.declared.goals.Goal.{Goal}
use Rattle.proof_state.specs.declared.state.Filling.{Filling}
use Rattle.proof_state.specs.declared.state.Filling.TheVariants.{Give, Admit}
use Rattle.proof_state.specs.Partial.{Partial}
use Rattle.move_basic.specs.Intro.{intro, intros}
use Rattle.move_basic.specs.Terms.{exact, assumption}
use Rattle.move_basic.specs.Apply.{apply}
use Rattle.move_basic.specs.Constructors.{construct}
use Rattle.move_basic.specs.Equality.{reflexivity}

-- what is given for a goal, where a sketch is found
abbrev pub filling_of : Result (Partial Goal) Stop → Result Filling Stop
filling_of (Ok s) = Ok (Give s)
filling_of (Err stop) = Err stop

-- a goal that is solved by a sketch
abbrev pub solved : Run (Partial Goal) → Run Filling
solved sketch = do
  s ← sketch
  pure (Give s)

module _ (env : List Slot) (calls : ℕ) where
  -- a term that is written is elaborated first
  abbrev pub by_exact : Goal → Term → Run Filling
  by_exact g s = do
    t ← elab env calls g.ctx s
    solved (exact env calls g.ctx g.ty t)

  abbrev pub by_apply : Goal → Term → Run Filling
  by_apply g s = do
    t ← elab env calls g.ctx s
    solved (apply env calls g.ctx g.ty t)

  -- a move of another kind is refused
  abbrev pub run_basic : Goal → Move → Run Filling
  run_basic g (Intro p w) = solved (intro env calls w g.ctx g.ty)
  run_basic g (Intros p ws) = solved (intros env calls ws g.ctx g.ty)
  run_basic g (Exact p s) = by_exact g s
  run_basic g (Apply p s) = by_apply g s
  run_basic g (Assumption p) = solved (assumption env calls g.ctx g.ty)
  run_basic g (Split p) = solved (construct env calls 1 0 NOT_ONE_CONSTRUCTOR g.ctx g.ty)
  run_basic g (Left p) = solved (construct env calls 2 0 NOT_TWO_CONSTRUCTORS g.ctx g.ty)
  run_basic g (Right p) = solved (construct env calls 2 1 NOT_TWO_CONSTRUCTORS g.ctx g.ty)
  run_basic g (Reflexivity p) = solved (reflexivity env calls g.ctx g.ty)
  run_basic g (move.Admit p) = pure Admit
  run_basic g _ = refuse NOT_BUILT
