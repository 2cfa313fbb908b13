-- Lists of places, one in the other.
use Rattle.std.specs.Prelude.{ℕ, List, [], ◌∷◌, IsTrue}
use Rattle.term_spine.specs.Globals.{has}

-- the first list has each place of the second
abbrev pub HasEach : List ℕ → List ℕ → Type 0
HasEach all [] = Unit {0}
HasEach all (p ∷ ps) = IsTrue (has all p) × HasEach all ps
