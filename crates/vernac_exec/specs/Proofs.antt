-- The run of each sentence in a proof under way.
use Rattle.std.specs.Prelude.{ℕ, nat_lt, List, [], ◌∷◌, length, ◌||◌, Bool, true, false, is_some, Option, Some, None, slice_get}
use Rattle.base_core.specs.declared.refusal_codes.TheConstants as code
use Rattle.bullet_focus.specs.declared.focus.Focused.{Focused}
use Rattle.bullet_focus.specs.Steps.{replaced}
use Rattle.prover_iface.specs.declared.outline.ItemKind.TheVariants as item
use Rattle.coq_syntax.specs.CommandTrees.{Command}
use Rattle.coq_syntax.specs.CommandTrees as command
use Rattle.coq_syntax.specs.MoveTrees.{Move, Simpl, Unfold, Destruct, Induction, Rewrite}
use Rattle.cic_rules.specs.declared.context.Hyp.{Hyp}
use Rattle.cic_rules.specs.declared.decls.Decl.TheVariants.{Define}
use Rattle.cic_rules.specs.declared.env.Slot.{Slot}
use Rattle.cic_rules.specs.Runs.{Run, ◌>>=◌, ◌>>◌, give, pure, refuse, forbid, some_or}
use Rattle.move_basic.specs.Moves.{run_basic}
use Rattle.move_compute.specs.Moves.{run_compute}
use Rattle.move_elim.specs.Moves.{run_elim}
use Rattle.move_rewrite.specs.Moves.{run_rewrite}
use Rattle.proof_state.specs.declared.goals.Goal.{Goal}
use Rattle.proof_state.specs.declared.state.Filling.{Filling}
use Rattle.proof_state.specs.declared.state.Filling.TheVariants.{Give, Admit}
use Rattle.proof_state.specs.Proof.{Proof, GoalStatus}
use Rattle.proof_state.specs.Steps.{unsolved_of, unsolved_at, abandoned, refined_by, closed, bounded}
use Rattle.vernac_exec.specs.declared.deed.Deed.{Deed}
use Rattle.vernac_exec.specs.declared.deed.Deed.TheVariants.{Declares, GoesOn, Passes, Drops}
use Rattle.vernac_exec.specs.declared.state.OpenProof.{OpenProof}
use Rattle.vernac_exec.specs.Commands.{declare_as, check}

-- the number of the first goal in focus
abbrev pub first_number : OpenProof → Option ℕ
first_number o = slice_get o.focus.goals 0

abbrev pub unsolved_by : List GoalStatus → Option ℕ → Option Goal
unsolved_by goals None = None
unsolved_by goals (Some n) = unsolved_at goals n

abbrev pub context_of : Option Goal → List Hyp
context_of None = []
context_of (Some g) = g.ctx

-- the context of the first goal in focus; the empty one where none is
abbrev pub context_in_focus : OpenProof → List Hyp
context_in_focus o = context_of (unsolved_by o.proof.goals (first_number o))

-- a goal is given up where it is unsolved
abbrev pub abandoned_if : Option Goal → ℕ → Proof → Proof
abandoned_if None n p = p
abandoned_if (Some g) n p = abandoned n p

-- these goals are given up, one after another
abbrev pub all_abandoned : List ℕ → Proof → Proof
all_abandoned [] p = p
all_abandoned (n ∷ ns) p = all_abandoned ns (abandoned_if (unsolved_at p.goals n) n p)

-- behind a bullet or a brace: what it refuses is told, and the rest of what it does stays
abbrev pub refocused : OpenProof → Focused → Deed
refocused o step = GoesOn (all_abandoned step.admitted o.proof) step.focus step.refusals

-- a goal that is given up is told
abbrev pub told_of_filling : Filling → List ℕ
told_of_filling (Give s) = []
told_of_filling Admit = code.GOAL_ADMITTED ∷ []

abbrev pub has_unsolved : List GoalStatus → Bool
has_unsolved [] = false
has_unsolved (status ∷ goals) = is_some (unsolved_of status) || has_unsolved goals

-- in an environment; so many judgements may stand in one another
module _ (env : List Slot) (calls : ℕ) where
  -- what a proof move gives for a goal, by the moves of its kind
  abbrev pub run_move : Goal → Move → Run Filling
  run_move g (Destruct p w pattern) = run_elim env calls g (Destruct p w pattern)
  run_move g (Induction p w pattern) = run_elim env calls g (Induction p w pattern)
  run_move g (Rewrite p d s) = run_rewrite env calls g (Rewrite p d s)
  run_move g (Simpl p) = run_compute env calls g (Simpl p)
  run_move g (Unfold p w) = run_compute env calls g (Unfold p w)
  run_move g m = run_basic env calls g m

  -- a proof move at an unsolved goal, the first one in focus: its new goals come in its place
  abbrev pub prove_at : OpenProof → ℕ → Goal → Move → Run Deed
  prove_at o n g m = do
    by ← run_move g m
    r ← give (refined_by o.proof n by)
    pure (GoesOn r.proof (replaced r.goals o.focus) (told_of_filling by))

  -- a proof move
  abbrev pub prove : OpenProof → Move → Run Deed
  prove o m = do
    n ← some_or code.NO_GOAL (first_number o)
    g ← some_or code.NO_GOAL (unsolved_at o.proof.goals n)
    prove_at o n g m

  -- `Qed` or `Defined`: the whole term goes to the kernel as a definition, opaque or not
  abbrev pub end_proof : Bool → OpenProof → Run Deed
  end_proof opaque o = do
    forbid (has_unsolved o.proof.goals) code.GOALS_REMAIN
    forbid (nat_lt 0 (length o.proof.given_up)) code.ADMITTED_GOALS
    t ← give (bounded (closed o.proof))
    declare_as env calls item.Theorem (Define o.theorem.name (Some o.theorem.ty) t opaque)

  -- a command
  unfoldable pub obey_inside : OpenProof → Command → Run Deed
  obey_inside o (command.Assume word keyword name colon ty) = refuse code.PROOF_OPEN
  obey_inside o (command.Define keyword name groups annotation assign value) = refuse code.PROOF_OPEN
  obey_inside o (command.State word keyword name groups colon ty) = refuse code.PROOF_OPEN
  obey_inside o (command.Inductive keyword name groups colon arity assign constructors) = refuse code.PROOF_OPEN
  obey_inside o (command.Check keyword term) = check env calls (context_in_focus o) term
  obey_inside o (command.Proof place) = pure Passes
  obey_inside o (command.Qed place) = end_proof true o
  obey_inside o (command.Defined place) = end_proof false o
  obey_inside o (command.Admitted place) = pure (Declares item.Admitted o.theorem.admitted)
  obey_inside o (command.Aborted place) = pure Drops
