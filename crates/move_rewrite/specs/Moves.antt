-- `rewrite`: what it does with a goal, for which units, and when it is refused.
use Rattle.std.specs.Prelude.{ℕ, List}
use Rattle.base_core.specs.declared.refusal_codes.TheConstants.{NOT_BUILT}
use Rattle.coq_syntax.specs.declared.moves.Direction.{Direction}
use Rattle.coq_syntax.specs.MoveTrees.{Move, Rewrite}
use Rattle.coq_syntax.specs.Trees.{Term}
use Rattle.cic_rules.specs.declared.env.Slot.{Slot}
use Rattle.cic_rules.specs.Runs.{Run, ◌>>=◌, pure, refuse}
use Rattle.elaborator.specs.Elab.{elab}
use Rattle.proof_state.specs.declared.goals.Goal.{Goal}
use Rattle.proof_state.specs.declared.state.Filling.{Filling}
use Rattle.proof_state.specs.declared.state.Filling.TheVariants.{Give}
use Rattle.move_rewrite.specs.Rewrite.{rewrite}

module _ (env : List Slot) (calls : ℕ) where
  -- the term that is written is elaborated first
  abbrev pub by_rewrite : Goal → Direction → Term → Run Filling
  by_rewrite g d s = do
    t ← elab env calls g.ctx s
    sketch ← rewrite env calls d g.ctx g.ty t
    pure (Give sketch)

  -- a move of another kind is refused
  abbrev pub run_rewrite : Goal → Move → Run Filling
  run_rewrite g (Rewrite p d s) = by_rewrite g d s
  run_rewrite g _ = refuse NOT_BUILT
