-- What a set of files holds, where it tells.
use Rattle.std.specs.Prelude.{◌≡◌, ℕ, ◌<◌, ◌≤◌, Option, None, Some, Result, Ok, Err, List, [], ◌∷◌, length, if◌then◌else◌}
use Rattle.std.specs.Option.{IsSomeAnd}
use Rattle.std.specs.Str.{bytes_eq}
use Rattle.base_core.specs.declared.limits.TheConstants.{TEXT_LIMIT}
use Rattle.base_core.specs.declared.file_set.FileFault.{FileFault}
use Rattle.base_core.specs.declared.file_set.FileFault.TheVariants.{Failed, TooLong, NoMem}
use Rattle.base_core.specs.declared.mem_files.FileItem.{FileItem}

-- the content of the first file of this name; none where it is missing or can't be read
abbrev pub file_at : List FileItem → List ℕ → Option (List ℕ)
file_at [] name = None
file_at (file ∷ files) name = if bytes_eq file.name name then file.content else file_at files name

-- what a read answers for a file with this content: it fails exactly where there is none, it is too
-- long exactly where it passes the limit, and else gives the bytes
abbrev pub IsReadOf : Option (List ℕ) → Result (List ℕ) FileFault → Type 0
IsReadOf found (Ok bytes) = (found ≡ Some bytes) × (length bytes ≤ TEXT_LIMIT)
IsReadOf found (Err Failed) = found ≡ None
IsReadOf found (Err TooLong) = IsSomeAnd found (λ bytes. TEXT_LIMIT < length bytes)
IsReadOf found (Err NoMem) = Unit {0}

-- where no read failed the count of faults stays
abbrev pub IsCalmRead : Result (List ℕ) FileFault → ℕ → ℕ → Type 0
IsCalmRead (Ok bytes) old new = new ≡ old
IsCalmRead (Err Failed) old new = Unit {0}
IsCalmRead (Err TooLong) old new = new ≡ old
IsCalmRead (Err NoMem) old new = new ≡ old
