-- How the check of files ends, and what it writes and shows.
use Rattle.std.specs.Prelude.{◌≡◌, ℕ, ◌⊎◌, Bool, true, false, Option, Result, Ok, Err, List, [], ◌∷◌, ◌++◌, map, if◌then◌else◌}
use Rattle.base_core.specs.declared.mem_files.FileItem.{FileItem}
use Rattle.base_core.specs.declared.writing.Halt.{Halt}
use Rattle.base_core.specs.declared.writing.Halt.TheVariants as halt
use Rattle.base_core.specs.Files.{file_at}
use Rattle.base_core.specs.Sink.{appended}
use Rattle.doc_check.specs.Check.{checked}
use Rattle.prover_iface.specs.Meanings.{Meanings}
use Rattle.batch_check.specs.declared.digests.FileDigest.{FileDigest}
use Rattle.batch_check.specs.declared.endings.Ending.{Ending}
use Rattle.batch_check.specs.declared.endings.Ending.TheVariants as ending
use Rattle.batch_check.specs.declared.outcomes.FileReport.{FileReport}
use Rattle.batch_check.specs.declared.outcomes.Outcome.{Outcome}
use Rattle.batch_check.specs.declared.outcomes.Outcome.TheVariants.{Reported, NotRead, NotText}
use Rattle.batch_check.specs.declared.outcomes.Next.{Next}
use Rattle.batch_check.specs.declared.outcomes.Next.TheVariants as next
use Rattle.batch_check.specs.Reports.{joined}
use Rattle.batch_check.specs.Digests.{is_clean}
use Rattle.batch_check.specs.Outcome.{file_outcome}
use Rattle.batch_check.specs.Observers.{AllShown, LastShown, first_shown}

-- the reports of files in order, and how their check ends
pub record Batch : Type 0 where
  pub reports : List FileReport
  pub ending : Ending

-- how the check ends with one report more, which is clean or not
abbrev pub with_clean : Ending → Bool → Ending
with_clean end clean = if clean then end else ending.Unclean

-- one report more
abbrev pub with_report : Batch → FileReport → Batch
with_report done report = record {
  reports = done.reports ++ report ∷ [];
  ending = with_clean done.ending (is_clean report.digest);
}

-- no report more: it ends so
abbrev pub ended : Batch → Ending → Batch
ended done end = record { reports = done.reports; ending = end }

-- behind these reports comes a file: it is reported and the others follow, or it gives no report, which ends the check
abbrev pub goes_on : Batch → (Batch → Batch) → Outcome → Batch
goes_on done others (Reported report) = others (with_report done report)
goes_on done others NotRead = ended done ending.NotRead
goes_on done others NotText = ended done ending.NotText

-- the files of these names, behind these reports
abbrev pub batch_from : (List ℕ → Outcome) → Batch → List (List ℕ) → Batch
batch_from outcome done [] = done
batch_from outcome done (name ∷ names) = goes_on done (λ more. batch_from outcome more names) (outcome name)

-- all files of these names
abbrev pub batch_of : (List ℕ → Outcome) → List (List ℕ) → Batch
batch_of outcome names = batch_from outcome (record { reports = []; ending = ending.Clean }) names

-- the same by what a set of files holds, and a prover
abbrev pub files_batch : {M : Type 0} → Meanings M → List FileItem → List (List ℕ) → Batch
files_batch means files names = batch_of (λ name. file_outcome (checked means) name (file_at files name)) names

-- the lines of reports
abbrev pub report_lines : List FileReport → List ℕ
report_lines reports = joined (map (λ report. report.lines) reports)

-- the digests of reports
abbrev pub report_digests : List FileReport → List FileDigest
report_digests reports = map (λ report. report.digest) reports

-- the summaries come where every file was reported
abbrev pub summaries : Ending → List (List ℕ) → List ℕ
summaries ending.Clean told = joined told
summaries ending.Unclean told = joined told
summaries ending.NotRead told = []
summaries ending.NotText told = []

-- all that is written, where observers tell this
abbrev pub batch_bytes : Batch → List (List ℕ) → List ℕ
batch_bytes batch told = report_lines batch.reports ++ summaries batch.ending told

-- all files were reported, or all before the one that gave no report; and each observer was shown their digests
pub record IsWhole (batch : Batch) (end : Ending) (old new : Option (List ℕ)) (told : List (List ℕ)) (before after : List (List FileDigest)) : Type 0 where
  pub ends : end ≡ batch.ending
  pub wrote : new ≡ appended old (batch_bytes batch told)
  pub shown : AllShown (report_digests batch.reports) before after

-- what was written behind whole reports: of the next report a part that isn't the whole, or of the summaries some part
abbrev pub IsPartBehind : List FileReport → List ℕ → List ℕ → Type 0
IsPartBehind [] summed part = (left : List ℕ) × (summed ≡ part ++ left)
IsPartBehind (next ∷ others) summed part = (byte : ℕ) × (left : List ℕ) × (next.lines ≡ part ++ byte ∷ left)

-- what observers were shown where so many reports were written whole: all of their digests; or, where memory was
-- wanted, the last observers maybe all but the last
abbrev pub ShownAtHalt : Halt → List FileDigest → List (List FileDigest) → List (List FileDigest) → Type 0
ShownAtHalt halt.SinkFailed digests before after = AllShown digests before after
ShownAtHalt halt.NoMem digests before after = LastShown digests before after

-- broken off: a first part of all that the files decide was written, with these reports whole and no other
pub record IsCut (batch : Batch) (why : Halt) (old new : Option (List ℕ)) (told : List (List ℕ)) (before after : List (List FileDigest)) : Type 0 where
  pub whole : List FileReport
  pub others : List FileReport
  pub reports : batch.reports ≡ whole ++ others
  pub part : List ℕ
  pub piece : IsPartBehind others (summaries batch.ending told) part
  pub wrote : new ≡ appended old (report_lines whole ++ part)
  pub shown : ShownAtHalt why (report_digests whole) before after

-- how the check of files ends, what it then has written and shown, where observers at last tell this
abbrev pub Checks : Batch → Result Ending Halt → Option (List ℕ) → Option (List ℕ) → List (List ℕ) → List (List FileDigest) → List (List FileDigest) → Type 0
Checks batch (Ok end) old new told before after = IsWhole batch end old new told before after
Checks batch (Err why) old new told before after = IsCut batch why old new told before after

-- a part of these bytes was written that isn't the whole
pub record IsShort (old new : Option (List ℕ)) (bytes : List ℕ) : Type 0 where
  pub part : List ℕ
  pub byte : ℕ
  pub left : List ℕ
  pub lines : bytes ≡ part ++ byte ∷ left
  pub wrote : new ≡ appended old part

-- a file's report was written and shown to each observer
pub record IsPublished (outcome : Outcome) (clean : Bool) (old new : Option (List ℕ)) (before after : List (List FileDigest)) : Type 0 where
  pub report : FileReport
  pub reports : outcome ≡ Reported report
  pub cleans : is_clean report.digest ≡ clean
  pub wrote : new ≡ appended old report.lines
  pub shown : AllShown (report.digest ∷ []) before after

-- a file's report was written in part, and shown to none
pub record IsBegun (outcome : Outcome) (old new : Option (List ℕ)) (before after : List (List FileDigest)) : Type 0 where
  pub report : FileReport
  pub reports : outcome ≡ Reported report
  pub wrote : IsShort old new report.lines
  pub shown : after ≡ before

-- a file's report was written, and shown to the first observers alone
pub record IsHalfShown (outcome : Outcome) (old new : Option (List ℕ)) (before after : List (List FileDigest)) : Type 0 where
  pub report : FileReport
  pub reports : outcome ≡ Reported report
  pub wrote : new ≡ appended old report.lines
  pub first : ℕ
  pub shown : after ≡ first_shown first (report.digest ∷ []) before

-- all was written, or a part that isn't the whole
abbrev pub WritesWhole : Bool → Option (List ℕ) → Option (List ℕ) → List ℕ → Type 0
WritesWhole true old new bytes = new ≡ appended old bytes
WritesWhole false old new bytes = IsShort old new bytes

-- nothing was written or shown
pub record IsUntouched (old new : Option (List ℕ)) (before after : List (List FileDigest)) : Type 0 where
  pub wrote : new ≡ old
  pub shown : after ≡ before

-- what one file brings
abbrev pub Brings : Outcome → Result Next Halt → Option (List ℕ) → Option (List ℕ) → List (List FileDigest) → List (List FileDigest) → Type 0
Brings outcome (Ok (next.Reported clean)) old new before after = IsPublished outcome clean old new before after
Brings outcome (Ok next.NotRead) old new before after = (outcome ≡ NotRead) × IsUntouched old new before after
Brings outcome (Ok next.NotText) old new before after = (outcome ≡ NotText) × IsUntouched old new before after
Brings outcome (Err halt.NoMem) old new before after = IsUntouched old new before after ⊎ IsHalfShown outcome old new before after
Brings outcome (Err halt.SinkFailed) old new before after = IsBegun outcome old new before after
