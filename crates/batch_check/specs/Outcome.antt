-- What comes of a file where memory serves: its report, or that it gives none.
use Rattle.std.specs.Prelude.{ℕ, nat_lt, Option, None, Some, List, length, if◌then◌else◌}
use Rattle.std.specs.Str.{is_utf8}
use Rattle.base_core.specs.declared.limits.TheConstants.{TEXT_LIMIT}
use Rattle.doc_check.specs.declared.diagnostics.Report.{Report}
use Rattle.batch_check.specs.declared.outcomes.FileReport.{FileReport}
use Rattle.batch_check.specs.declared.outcomes.Outcome.{Outcome}
use Rattle.batch_check.specs.declared.outcomes.Outcome.TheVariants.{Reported, NotRead, NotText}
use Rattle.batch_check.specs.Reports.{file_report}
use Rattle.batch_check.specs.Digests.{digest_of}

-- the report of a text
abbrev pub report_of : List ℕ → List ℕ → Report → FileReport
report_of name text report = record { digest = digest_of name report; lines = file_report name text report }

-- a file that is a text is checked and reported
abbrev pub text_outcome : (List ℕ → Report) → List ℕ → List ℕ → Outcome
text_outcome check name text = Reported (report_of name text (check text))

-- bytes that are UTF-8 are a text
abbrev pub bytes_outcome : (List ℕ → Report) → List ℕ → List ℕ → Outcome
bytes_outcome check name bytes = if is_utf8 bytes then text_outcome check name bytes else NotText

-- a file by its content: not read where there is none, no text where it is too long
abbrev pub file_outcome : (List ℕ → Report) → List ℕ → Option (List ℕ) → Outcome
file_outcome check name None = NotRead
file_outcome check name (Some bytes) = if nat_lt TEXT_LIMIT (length bytes) then NotText else bytes_outcome check name bytes
