-- A term for the whole goal: one that is given, or a hypothesis.
use Rattle.std.specs.Prelude.{ℕ, suc, ◌+◌, List, [], ◌∷◌, Bool, false, if◌then◌else◌}
use Rattle.base_core.specs.declared.refusal_codes.TheConstants.{NO_ASSUMPTION}
use Rattle.core_term.specs.Tree.{Tree, Var}
use Rattle.core_term.specs.Places.{lift_of}
use Rattle.cic_rules.specs.declared.context.Hyp.{Hyp}
use Rattle.cic_rules.specs.declared.env.Slot.{Slot}
use Rattle.cic_rules.specs.declared.judge.Mode.TheVariants.{Same}
use Rattle.cic_rules.specs.Convert.{conv_at}
use Rattle.cic_rules.specs.Eliminators.{same_name, WILDCARD}
use Rattle.cic_rules.specs.Infer.{check_at}
use Rattle.cic_rules.specs.Runs.{Run, ◌>>=◌, pure, refuse}
use Rattle.proof_state.specs.declared.goals.Goal.{Goal}
use Rattle.proof_state.specs.Partial.{Partial, Ready}

module _ (env : List Slot) (calls : ℕ) where
  -- `exact`
  abbrev pub exact : List Hyp → Tree → Tree → Run (Partial Goal)
  exact ctx ty t = do
    _ ← check_at env calls ctx t ty
    pure (Ready t)

  -- the hypothesis at a place has the type; one that was taken away isn't tried
  abbrev pub tried : List Hyp → Tree → ℕ → Hyp → Run Bool
  tried ctx ty i h = if same_name h.name WILDCARD then pure false else conv_at env calls ctx Same (lift_of h.ty (suc i) 0) ty

  -- the first of these that has the type, where the first of all stands at this place
  abbrev pub assumed : List Hyp → Tree → ℕ → List Hyp → Run (Partial Goal)
  assumed ctx ty i [] = refuse NO_ASSUMPTION
  assumed ctx ty i (h ∷ hs) = do
    fits ← tried ctx ty i h
    if fits then pure (Ready (Var i)) else assumed ctx ty (i + 1) hs

  -- `assumption`: the newest hypothesis that has the type
  abbrev pub assumption : List Hyp → Tree → Run (Partial Goal)
  assumption ctx ty = assumed ctx ty 0 ctx
