-- The goals of each state that is held are in scope.
use Rattle.std.specs.Prelude.{List, Bool, true, false, Option, Some, None, Result, if◌then◌else◌}
use Rattle.base_core.specs.declared.refusals.Stop.{Stop}
use Rattle.proof_state.specs.Proof.{Proof}
use Rattle.bullet_focus.specs.FocusState.{FocusState}
use Rattle.cic_rules.specs.declared.env.Slot.{Slot}
use Rattle.proof_state.specs.Scopes.{HaveGoalsIn}
use Rattle.vernac_exec.specs.declared.deed.Deed.{Deed}
use Rattle.vernac_exec.specs.declared.deed.Deed.TheVariants.{Declares, Answers, Begins, GoesOn, Passes, Drops}
use Rattle.vernac_exec.specs.declared.reading.Reading.{Reading}
use Rattle.vernac_exec.specs.declared.state.OpenProof.{OpenProof}
use Rattle.vernac_exec.specs.declared.state.State.{State}
use Rattle.vernac_exec.specs.Readings.{is_end_of}
use Rattle.vernac_exec.specs.Standing.{HaveGoals, IsDeedIn}
use Rattle.vernac_exec.specs.States.{passed, with_progress, done, entered_as_admitted, refused}

progress_held : (env : List Slot) (opened : Option OpenProof) (proof : Proof) (focus : FocusState) → HaveGoalsIn env proof.goals →
    HaveGoals env (with_progress opened proof focus)
progress_held env None proof focus goals = tt
progress_held env (Some o) proof focus goals = goals

pub done_held : (m : State) (deed : Deed) → HaveGoals m.env m.opened → IsDeedIn m.env deed → HaveGoals (done m deed).env (done m deed).opened
done_held m (Declares kind env) held deed = tt
done_held m (Answers text) held deed = held
done_held m (Begins theorem proof) held deed = deed
done_held m (GoesOn proof focus told) held deed = progress_held m.env m.opened proof focus deed
done_held m Passes held deed = held
done_held m Drops held deed = tt

-- also where a sentence is refused

abbrev Holds : State → Type 0
Holds m = HaveGoals m.env m.opened

entered_held : (m : State) (opened : Option OpenProof) → Holds m → Holds (entered_as_admitted m opened)
entered_held m None held = held
entered_held m (Some o) held = tt

if_held : (b : Bool) (x y : State) → Holds x → Holds y → Holds (if b then x else y)
if_held true x y first second = first
if_held false x y first second = second

pub refused_held : (m : State) (r : Result Reading Stop) → HaveGoals m.env m.opened → HaveGoals (refused m r).env (refused m r).opened
refused_held m r held = if_held (is_end_of r) (entered_as_admitted m m.opened) (passed m) (entered_held m m.opened held) held
