-- What is true of each state that is held: the goals of its proof under way are in scope.
use Rattle.std.specs.Prelude.{List, Option, Some, None}
use Rattle.cic_rules.specs.declared.env.Slot.{Slot}
use Rattle.proof_state.specs.Scopes.{HaveGoalsIn}
use Rattle.vernac_exec.specs.declared.deed.Deed.{Deed}
use Rattle.vernac_exec.specs.declared.deed.Deed.TheVariants.{Begins, GoesOn}
use Rattle.vernac_exec.specs.declared.state.OpenProof.{OpenProof}

-- all goals of a proof under way speak of their hypotheses and of globals alone
abbrev pub HaveGoals : List Slot → Option OpenProof → Type 0
HaveGoals env None = Unit {0}
HaveGoals env (Some o) = HaveGoalsIn env o.proof.goals

-- so do those of a proof that a sentence begins or goes on with
abbrev pub IsDeedIn : List Slot → Deed → Type 0
IsDeedIn env (Begins theorem proof) = HaveGoalsIn env proof.goals
IsDeedIn env (GoesOn proof focus told) = HaveGoalsIn env proof.goals
IsDeedIn env _ = Unit {0}
