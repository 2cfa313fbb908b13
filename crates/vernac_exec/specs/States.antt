-- States, and the one behind a sentence.
use Rattle.std.specs.Prelude.{ℕ, ◌+◌, ◌-◌, ◌^◌, min, List, [], ◌∷◌, ◌++◌, length, Option, Some, None, Result, Ok, Err, if◌then◌else◌}
use Rattle.base_core.specs.declared.refusals.Stop.{Stop}
use Rattle.prover_iface.specs.declared.outline.ItemKind.{ItemKind}
use Rattle.prover_iface.specs.declared.outline.ItemKind.TheVariants as item
use Rattle.bullet_focus.specs.FocusState.{FocusState}
use Rattle.bullet_focus.specs.Steps.{begun}
use Rattle.cic_rules.specs.declared.env.Slot.{Slot}
use Rattle.proof_state.specs.Proof.{Proof}
use Rattle.vernac_exec.specs.declared.deed.Deed.{Deed}
use Rattle.vernac_exec.specs.declared.deed.Deed.TheVariants.{Declares, Answers, Begins, GoesOn, Passes, Drops}
use Rattle.vernac_exec.specs.declared.reading.Reading.{Reading}
use Rattle.vernac_exec.specs.declared.state.Row.{Row}
use Rattle.vernac_exec.specs.declared.state.Theorem.{Theorem}
use Rattle.vernac_exec.specs.declared.state.OpenProof.{OpenProof}
use Rattle.vernac_exec.specs.declared.state.State.{State}
use Rattle.vernac_exec.specs.Readings.{is_end_of}

-- the state with an environment, before any sentence
abbrev pub over : List Slot → State
over env = record { env = env; outline = []; count = 0; opened = None }

-- one sentence more, up to the greatest number
abbrev pub raised : ℕ → ℕ
raised count = min (count + 1) (2 ^ 32 - 1)

-- a sentence that leaves all but the count
abbrev pub passed : State → State
passed m = record m { count = raised m.count }

-- the number of the sentence that began the proof under way
abbrev pub opened_by : Option OpenProof → Option ℕ
opened_by None = None
opened_by (Some o) = Some o.first

-- the number of the sentence that began what is entered now: that of its proof, or this one
abbrev pub first_of : Option OpenProof → ℕ → ℕ
first_of None count = count
first_of (Some o) count = o.first

-- the row of what the next sentence declares at the next place
abbrev pub next_row : State → ItemKind → Row
next_row m kind = record { kind = kind; place = length m.env; first = first_of m.opened m.count; last = m.count }

-- a sentence that gives this environment; a proof under way ends by it
abbrev pub declared : State → ItemKind → List Slot → State
declared m kind env = record { env = env; outline = m.outline ++ next_row m kind ∷ []; count = raised m.count; opened = None }

-- a sentence that begins a proof, with its one goal in focus
abbrev pub began : State → Theorem → Proof → State
began m theorem proof =
    record m { count = raised m.count; opened = Some (record { theorem = theorem; first = m.count; proof = proof; focus = begun 0 }) }

abbrev pub with_progress : Option OpenProof → Proof → FocusState → Option OpenProof
with_progress None proof focus = None
with_progress (Some o) proof focus = Some (record o { proof = proof; focus = focus })

-- a step of the proof under way
abbrev pub went_on : State → Proof → FocusState → State
went_on m proof focus = record m { count = raised m.count; opened = with_progress m.opened proof focus }

-- a sentence that drops the proof under way
abbrev pub dropped : State → State
dropped m = record m { count = raised m.count; opened = None }

-- a sentence that nothing refused
abbrev pub done : State → Deed → State
done m (Declares kind env) = declared m kind env
done m (Answers text) = passed m
done m (Begins theorem proof) = began m theorem proof
done m (GoesOn proof focus told) = went_on m proof focus
done m Passes = passed m
done m Drops = dropped m

-- the theorem of the proof under way is entered as an admitted one
abbrev pub entered_as_admitted : State → Option OpenProof → State
entered_as_admitted m None = passed m
entered_as_admitted m (Some o) = declared m item.Admitted o.theorem.admitted

-- a sentence that is refused, or that a limit ends, leaves all but the count; `Qed` and `Defined` enter the theorem as an admitted one
abbrev pub refused : State → Result Reading Stop → State
refused m r = if is_end_of r then entered_as_admitted m m.opened else passed m

-- the state behind a sentence that was read and answered so
abbrev pub behind : State → Result Reading Stop → Result Deed Stop → State
behind m r (Ok deed) = done m deed
behind m r (Err stop) = refused m r
