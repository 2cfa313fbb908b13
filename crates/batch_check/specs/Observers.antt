-- What observers were shown, and what they tell of it.
use Rattle.std.specs.Prelude.{◌≡◌, ℕ, ◌+◌, ◌≤◌, List, [], ◌∷◌, ◌++◌, codes, fold, length, map, take, drop}
use Rattle.std.specs.Fmt.{decimal}
use Rattle.prover_iface.specs.Listings.{spaced}
use Rattle.batch_check.specs.declared.digests.FileDigest.{FileDigest}
use Rattle.batch_check.specs.Reports.{joined}
use Rattle.batch_check.specs.Digests.{with_names}

-- all errors of these files
abbrev pub all_errors : List FileDigest → ℕ
all_errors digests = fold (λ sum digest. sum + digest.errors) 0 digests

-- all admissions of these files
abbrev pub all_admissions : List FileDigest → ℕ
all_admissions digests = fold (λ sum digest. sum + digest.admissions) 0 digests

-- `tally: F files E errors A admissions`
abbrev pub tally_line : List FileDigest → List ℕ
tally_line digests = joined (codes "tally: " ∷ decimal (length digests) ∷ codes " files " ∷ decimal (all_errors digests) ∷ codes " errors " ∷ decimal (all_admissions digests) ∷ codes " admissions\n" ∷ [])

-- the axioms of a file behind those that were seen
abbrev pub with_axioms : List (List ℕ) → FileDigest → List (List ℕ)
with_axioms seen digest = with_names seen digest.axioms

-- the axioms of these files, each once, in the order in which they first appear
abbrev pub all_axioms : List FileDigest → List (List ℕ)
all_axioms digests = fold with_axioms [] digests

-- `axioms:`, and each of them behind a blank
abbrev pub axioms_line : List FileDigest → List ℕ
axioms_line digests = codes "axioms:" ++ (spaced (all_axioms digests) ++ codes "\n")

-- these digests behind all that an observer was shown before
abbrev pub shown_more : List FileDigest → List FileDigest → List FileDigest
shown_more digests before = before ++ digests

-- each observer was shown these digests
abbrev pub AllShown : List FileDigest → List (List FileDigest) → List (List FileDigest) → Type 0
AllShown digests before after = after ≡ map (shown_more digests) before

-- the first so many observers were shown these digests, and the others nothing
abbrev pub first_shown : ℕ → List FileDigest → List (List FileDigest) → List (List FileDigest)
first_shown first digests before = map (shown_more digests) (take first before) ++ drop first before

-- the first observers were shown all of these digests, and the others all but the last
pub record LastShown (digests : List FileDigest) (before after : List (List FileDigest)) : Type 0 where
  pub earlier : List FileDigest
  pub last : List FileDigest
  pub parts : digests ≡ earlier ++ last
  pub at_most_one : length last ≤ 1
  pub first : ℕ
  pub shown : after ≡ map (shown_more digests) (take first before) ++ map (shown_more earlier) (drop first before)
