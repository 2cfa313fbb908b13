-- The lines that are written for a file.
use Rattle.std.specs.Prelude.{ℕ, ◌==◌, ◌+◌, Bool, true, false, List, [], ◌∷◌, ◌++◌, codes, count_by, if◌then◌else◌}
use Rattle.std.specs.Fmt.{decimal}
use Rattle.base_core.specs.declared.places.Position.{Position}
use Rattle.utf16_doc.specs.declared.encoding.Encoding.TheVariants.{Utf16}
use Rattle.utf16_doc.specs.Positions.{position_at}
use Rattle.prover_iface.specs.declared.outline.ItemKind.{ItemKind}
use Rattle.prover_iface.specs.declared.outline.ItemKind.TheVariants.{Axiom, Definition, Inductive, Theorem, Admitted}
use Rattle.prover_iface.specs.declared.outline.OutlineItem.{OutlineItem}
use Rattle.prover_iface.specs.Listings.{listed_axioms}
use Rattle.doc_check.specs.declared.diagnostics.AbsDiag.{AbsDiag}
use Rattle.doc_check.specs.declared.diagnostics.Report.{Report}

-- pieces one after another
abbrev pub joined : List (List ℕ) → List ℕ
joined [] = []
joined (piece ∷ pieces) = piece ++ joined pieces

-- the word of a severity
abbrev pub severity_word : ℕ → List ℕ
severity_word severity = if severity == 1 then codes "error" else if severity == 2 then codes "warning" else codes "info"

-- `FILE:L:C: SEV CODE: TEXT`, with line and character from 1
abbrev pub placed_line : List ℕ → Position → AbsDiag → List ℕ
placed_line name at diag =
    joined (name ∷ codes ":" ∷ decimal (at.line + 1) ∷ codes ":" ∷ decimal (at.character + 1) ∷ codes ": " ∷ severity_word diag.severity ∷ codes " " ∷ decimal diag.code ∷ codes ": " ∷ diag.text ∷ codes "\n" ∷ [])

-- a diagnostic, where it begins
abbrev pub diag_line : List ℕ → List ℕ → AbsDiag → List ℕ
diag_line name text diag = placed_line name (position_at Utf16 text diag.from) diag

abbrev pub diag_lines : List ℕ → List ℕ → List AbsDiag → List ℕ
diag_lines name text [] = []
diag_lines name text (diag ∷ diags) = diag_line name text diag ++ diag_lines name text diags

-- the word of a kind
abbrev pub kind_word : ItemKind → List ℕ
kind_word Axiom = codes "axiom"
kind_word Definition = codes "definition"
kind_word Inductive = codes "inductive"
kind_word Theorem = codes "theorem"
kind_word Admitted = codes "admitted"

-- `FILE: KIND NAME : STATEMENT`, and the listed axioms
abbrev pub item_line : List ℕ → OutlineItem → List ℕ
item_line name item = joined (name ∷ codes ": " ∷ kind_word item.kind ∷ codes " " ∷ item.name ∷ codes " : " ∷ item.statement ∷ listed_axioms item ∷ codes "\n" ∷ [])

abbrev pub item_lines : List ℕ → List OutlineItem → List ℕ
item_lines name [] = []
item_lines name (item ∷ items) = item_line name item ++ item_lines name items

-- the number of errors
abbrev pub error_count : List AbsDiag → ℕ
error_count diags = count_by (λ diag. diag.severity == 1) diags

abbrev pub is_admitted : ItemKind → Bool
is_admitted Axiom = false
is_admitted Definition = false
is_admitted Inductive = false
is_admitted Theorem = false
is_admitted Admitted = true

-- the number of admissions
abbrev pub admission_count : List OutlineItem → ℕ
admission_count items = count_by (λ item. is_admitted item.kind) items

-- `FILE: end E errors A admissions`
abbrev pub end_line : List ℕ → ℕ → ℕ → List ℕ
end_line name errors admissions = joined (name ∷ codes ": end " ∷ decimal errors ∷ codes " errors " ∷ decimal admissions ∷ codes " admissions\n" ∷ [])

-- all lines of a file with this text: diagnostics, outline, totals
abbrev pub file_report : List ℕ → List ℕ → Report → List ℕ
file_report name text report = (diag_lines name text report.diags ++ item_lines name report.outline) ++ end_line name (error_count report.diags) (admission_count report.outline)
