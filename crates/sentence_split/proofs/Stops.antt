-- Where a scan for the end of a comment stops.
use Rattle.std.proofs.Common.{◌≡◌, ℕ, List, [], ◌∷◌, Some, refl, ◌∙◌, ap}
use Rattle.sentence_split.specs.declared.scan.Mode.{Mode}
use Rattle.sentence_split.specs.declared.scan.Mode.TheVariants.{Item}
use Rattle.sentence_split.specs.Scan.{scan}

pub stops_at : (xs : List ℕ) → scan Some Item 0 xs ≡ Some xs
stops_at [] = refl
stops_at (b ∷ rest) = refl

pub scan-closed : (depth : ℕ) (mode : Mode) (xs : List ℕ) → depth ≡ 0 → mode ≡ Item → scan Some mode depth xs ≡ Some xs
scan-closed depth mode xs d m = ap (λ n. scan Some mode n xs) d ∙ ap (λ k. scan Some k 0 xs) m ∙ stops_at xs
