-- What an observer is shown of a file: its digest.
use Rattle.std.specs.Prelude.{ℕ, ◌==◌, ◌&&◌, Bool, List, [], ◌∷◌, ◌++◌, fold, if◌then◌else◌}
use Rattle.std.specs.List.{list_any}
use Rattle.std.specs.Str.{bytes_eq}
use Rattle.prover_iface.specs.declared.outline.OutlineItem.{OutlineItem}
use Rattle.prover_iface.specs.Listings.{lists_axioms}
use Rattle.doc_check.specs.declared.diagnostics.Report.{Report}
use Rattle.batch_check.specs.declared.digests.FileDigest.{FileDigest}
use Rattle.batch_check.specs.Reports.{error_count, admission_count}

-- a name behind those that were seen, where it is new
abbrev pub with_name : List (List ℕ) → List ℕ → List (List ℕ)
with_name seen name = if list_any (bytes_eq name) seen then seen else seen ++ name ∷ []

-- several names, one after another
abbrev pub with_names : List (List ℕ) → List (List ℕ) → List (List ℕ)
with_names seen names = fold with_name seen names

-- the names in the brackets of a declaration's line
abbrev pub bracket_names : OutlineItem → List (List ℕ)
bracket_names item = if lists_axioms item.kind then item.axioms else []

-- those of a declaration behind the ones that were seen
abbrev pub with_item : List (List ℕ) → OutlineItem → List (List ℕ)
with_item seen item = with_names seen (bracket_names item)

-- those of an outline, each once, in the order in which they first appear
abbrev pub outline_axioms : List OutlineItem → List (List ℕ)
outline_axioms items = fold with_item [] items

-- the digest of the file of this name, by what is told of its text
abbrev pub digest_of : List ℕ → Report → FileDigest
digest_of name report = record {
  name = name;
  errors = error_count report.diags;
  admissions = admission_count report.outline;
  axioms = outline_axioms report.outline;
}

-- a file is clean where it has no error and no admission
abbrev pub is_clean : FileDigest → Bool
is_clean digest = digest.errors == 0 && digest.admissions == 0
