-- What the author of a sentence is told.
use Rattle.std.specs.Prelude.{ℕ, nat_lt, List, [], ◌∷◌, length, map, Result, Ok, Err, if◌then◌else◌}
use Rattle.base_core.specs.Codes.{text_of}
use Rattle.base_core.specs.declared.refusal_codes.TheConstants as code
use Rattle.base_core.specs.declared.refusals.Limit.{Limit}
use Rattle.base_core.specs.declared.refusals.Limit.TheVariants.{StepLimit, DepthLimit, SizeLimit}
use Rattle.base_core.specs.declared.refusals.Place.{Place}
use Rattle.base_core.specs.declared.refusals.Place.TheVariants.{Whole, Part}
use Rattle.base_core.specs.declared.refusals.Stop.{Stop}
use Rattle.base_core.specs.declared.refusals.Stop.TheVariants.{Refused, Out, NoMem}
use Rattle.prover_iface.specs.declared.diagnostics.RelDiag.{RelDiag}
use Rattle.prover_iface.specs.declared.outline.ItemKind.{ItemKind}
use Rattle.prover_iface.specs.declared.outline.ItemKind.TheVariants as item
use Rattle.vernac_exec.specs.declared.deed.Deed.{Deed}
use Rattle.vernac_exec.specs.declared.deed.Deed.TheVariants.{Declares, Answers, Begins, GoesOn, Passes, Drops}

-- the refusal that the end of a budget is
abbrev pub limit_code : Limit → ℕ
limit_code StepLimit = code.STEP_BUDGET
limit_code DepthLimit = code.DEPTH_BUDGET
limit_code SizeLimit = code.SIZE_BUDGET

-- an error at a place of a sentence
abbrev pub error_at : List ℕ → ℕ → Place → RelDiag
error_at sentence number Whole = record { severity = 1; code = number; from = 0; to = length sentence; text = text_of number }
error_at sentence number (Part from to) = record { severity = 1; code = number; from = from; to = to; text = text_of number }

-- what a sentence answers, at the whole of it
abbrev pub answer_at : List ℕ → List ℕ → RelDiag
answer_at sentence text = record { severity = 3; code = code.TERM_AND_TYPE; from = 0; to = length sentence; text = text }

-- why a sentence is refused; want of memory is told to no one
abbrev pub told_stop : List ℕ → Stop → List RelDiag
told_stop sentence (Refused r) = error_at sentence r.code r.place ∷ []
told_stop sentence (Out limit) = error_at sentence (limit_code limit) Whole ∷ []
told_stop sentence NoMem = []

-- refusals are errors, and the numbers from 90 on warnings
abbrev pub severity_of : ℕ → ℕ
severity_of number = if nat_lt number code.GOAL_ADMITTED then 1 else 2

-- a refusal or a warning of a sentence that does something all the same, at the whole of it
abbrev pub note_at : List ℕ → ℕ → RelDiag
note_at sentence number =
    record { severity = severity_of number; code = number; from = 0; to = length sentence; text = text_of number }

-- of what is entered, only a theorem that is admitted is told
abbrev pub told_entry : List ℕ → ItemKind → List RelDiag
told_entry sentence item.Admitted = note_at sentence code.THEOREM_ADMITTED ∷ []
told_entry sentence _ = []

-- what is told of a sentence
abbrev pub told : List ℕ → Result Deed Stop → List RelDiag
told sentence (Ok (Declares kind env)) = told_entry sentence kind
told sentence (Ok (Answers text)) = answer_at sentence text ∷ []
told sentence (Ok (Begins theorem proof)) = []
told sentence (Ok (GoesOn proof focus numbers)) = map (note_at sentence) numbers
told sentence (Ok Passes) = []
told sentence (Ok Drops) = []
told sentence (Err stop) = told_stop sentence stop
