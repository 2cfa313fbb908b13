-- What is counted of a generated document.
use Rattle.std.proofs.Common.{◌≡◌, ℕ, Option, List, Result, Ok, Err, ap, ◌∙◌}
use Rattle.std.specs.Result.{IsErr}
use Rattle.base_core.specs.declared.writing.Halt.{Halt}
use Rattle.base_core.proofs.Begun.{begins_none}
use Rattle.prover_iface.specs.Meanings.{Meanings}
use Rattle.doc_check.specs.declared.diagnostics.Report.{Report}
use Rattle.doc_check.specs.Check.{count, checked}
use Rattle.doc_check.specs.Document.{kept_of}
use Rattle.batch_check.specs.Reports.{error_count}
use Rattle.doc_gen.specs.Generated.{generated}
use Rattle.fleche_main.specs.declared.generated.Counts.{Counts}
use Rattle.fleche_main.specs.Generated.{edited, theorem_count, counts_of, count_lines, generated_lines, Tells}

abbrev record_counts : ℕ → ℕ → ℕ → ℕ → Counts
record_counts a b c d = record { sentences = a; errors = b; theorems = c; kept = d }

same_counts : (a b c d p q r s : ℕ) → a ≡ p → b ≡ q → c ≡ r → d ≡ s → record_counts a b c d ≡ record_counts p q r s
same_counts a b c d p q r s e f g h = cc

pub counted : {M : Type 0} (means : Meanings M) (text doc again : List ℕ) (report : Report) (sentences errors theorems kept : ℕ) → doc ≡ text → report ≡ checked means doc → again ≡ edited text → sentences ≡ count doc → errors ≡ error_count report.diags → theorems ≡ theorem_count report.outline → kept ≡ kept_of doc again → record_counts sentences errors theorems kept ≡ counts_of means text
counted means text doc again report sentences errors theorems kept same is next a b c d =
    let whole : report ≡ checked means text = is ∙ ap (checked means) same in
    same_counts sentences errors theorems kept (count text) (error_count (checked means text).diags) (theorem_count (checked means text).outline) (kept_of text (edited text))
    (a ∙ ap count same) (b ∙ ap (λ r. error_count r.diags) whole) (c ∙ ap (λ r. theorem_count r.outline) whole)
    (d ∙ ap (λ t. kept_of t again) same ∙ ap (kept_of text) next)

-- the lines of what was counted of the generated text
pub lines_counted : {M : Type 0} (means : Meanings M) (number : ℕ) (text : List ℕ) (counts : Counts) (bytes : List ℕ) → text ≡ generated number → counts ≡ counts_of means text → bytes ≡ count_lines number counts → bytes ≡ generated_lines means number
lines_counted means number text counts bytes made is was =
    was ∙ ap (count_lines number) (is ∙ ap (counts_of means) made)

-- broken off before anything was written
pub halted : {T : Type 0} (lines : List ℕ) (result : Result T Halt) (told : Option (List ℕ)) → IsErr result → Tells lines result told told
halted lines (Ok t) told e = cc
halted lines (Err halt) told e = begins_none told lines
