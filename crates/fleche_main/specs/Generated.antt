-- What `gen N` writes.
use Rattle.std.specs.Prelude.{◌≡◌, ◌≢◌, ◌⊎◌, ℕ, ◌+◌, ◌≤◌, Bool, true, false, Option, Result, Ok, Err, MatchResult, List, [], ◌∷◌, ◌++◌, codes, count_by}
use Rattle.std.specs.Fmt.{decimal}
use Rattle.base_core.specs.declared.writing.Halt.{Halt}
use Rattle.base_core.specs.declared.status.Status.TheVariants.{Done}
use Rattle.base_core.specs.Status.{number_of, status_of_halt}
use Rattle.base_core.specs.Sink.{appended, Begins}
use Rattle.prover_iface.specs.declared.outline.ItemKind.{ItemKind}
use Rattle.prover_iface.specs.declared.outline.ItemKind.TheVariants.{Axiom, Definition, Inductive, Theorem, Admitted}
use Rattle.prover_iface.specs.declared.outline.OutlineItem.{OutlineItem}
use Rattle.prover_iface.specs.Meanings.{Meanings}
use Rattle.doc_check.specs.declared.diagnostics.Report.{Report}
use Rattle.doc_check.specs.Check.{count, checked, whole_cost}
use Rattle.doc_check.specs.Document.{kept_of}
use Rattle.doc_gen.specs.Generated.{joined, generated}
use Rattle.batch_check.specs.Reports.{error_count}
use Rattle.fleche_main.specs.declared.generated.Counts.{Counts}

-- an edit that changes no sentence: a comment on a line of its own, in front
abbrev pub edited : List ℕ → List ℕ
edited text = codes "(* edit *)\n" ++ text

abbrev pub is_theorem : ItemKind → Bool
is_theorem Axiom = false
is_theorem Definition = false
is_theorem Inductive = false
is_theorem Theorem = true
is_theorem Admitted = false

abbrev pub theorem_count : List OutlineItem → ℕ
theorem_count items = count_by (λ item. is_theorem item.kind) items

-- what is counted of a text that was checked with this report: its sentences, errors and theorems, and how many sentences
-- the edited text keeps
abbrev pub report_counts : List ℕ → Report → Counts
report_counts text report = record {
  sentences = count text;
  errors = error_count report.diags;
  theorems = theorem_count report.outline;
  kept = kept_of text (edited text);
}

abbrev pub counts_of : {M : Type 0} → Meanings M → List ℕ → Counts
counts_of means text = report_counts text (checked means text)

-- `gen N: S sentences E errors T theorems`
abbrev pub checked_line : ℕ → Counts → List ℕ
checked_line number counts =
    joined (codes "gen " ∷ decimal number ∷ codes ": " ∷ decimal counts.sentences ∷ codes " sentences " ∷ decimal counts.errors ∷ codes " errors " ∷ decimal counts.theorems ∷ codes " theorems\n" ∷ [])

-- `again N: K of S kept`
abbrev pub again_line : ℕ → Counts → List ℕ
again_line number counts =
    joined (codes "again " ∷ decimal number ∷ codes ": " ∷ decimal counts.kept ∷ codes " of " ∷ decimal counts.sentences ∷ codes " kept\n" ∷ [])

abbrev pub count_lines : ℕ → Counts → List ℕ
count_lines number counts = checked_line number counts ++ again_line number counts

-- what is written of the document of so many lemmas
abbrev pub generated_lines : {M : Type 0} → Meanings M → ℕ → List ℕ
generated_lines means number = count_lines number (counts_of means (generated number))

-- these lines were written, or some first bytes of them where the run was broken off
abbrev pub Tells : {T : Type 0} → List ℕ → Result T Halt → Option (List ℕ) → Option (List ℕ) → Type 0
Tells lines result old new = MatchResult result (λ _. new ≡ appended old lines) (λ _. Begins old new lines)

-- the exit status
abbrev pub end_status : {T : Type 0} → Result T Halt → ℕ
end_status (Ok t) = number_of Done
end_status (Err halt) = number_of (status_of_halt halt)

-- at most so much work was counted
pub record WorksWithin (work before after : ℕ) : Type 0 where
  pub risen : before ≤ after
  pub within : after ≤ before + work

-- the same by the status: both lines are written, or 4 or 5 breaks the run off; the edited text brings no work
pub record IsGenerated {M : Type 0} (means : Meanings M) (number status before after : ℕ) (old new : Option (List ℕ)) : Type 0 where
  pub status_is : (status ≡ 4) ⊎ (status ≡ 5) ⊎ (status ≡ 0)
  pub whole : status ≢ 4 → status ≢ 5 → new ≡ appended old (generated_lines means number)
  pub begun : Begins old new (generated_lines means number)
  pub work : WorksWithin (whole_cost means (generated number)) before after
