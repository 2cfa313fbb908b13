-- The globals of terms, by their places in the environment.
use Rattle.std.specs.Prelude.{ℕ, ◌==◌, ◌<◌, nat_lt, List, [], ◌∷◌, ◌++◌, Bool, true, false, if◌then◌else◌}
use Rattle.core_term.specs.Tree.{Tree, Var, Sorted, Constant, Prod, Lam, LetIn, App}

-- the places of the globals in a term, as often as they stand there
abbrev pub globals_of : Tree → List ℕ
globals_of (Var _) = []
globals_of (Sorted _) = []
globals_of (Constant c) = c ∷ []
globals_of (Prod _ a b) = globals_of a ++ globals_of b
globals_of (Lam _ a b) = globals_of a ++ globals_of b
globals_of (LetIn _ a t b) = globals_of a ++ (globals_of t ++ globals_of b)
globals_of (App f a) = globals_of f ++ globals_of a

-- those in several terms
abbrev pub globals_of_all : List Tree → List ℕ
globals_of_all [] = []
globals_of_all (t ∷ ts) = globals_of t ++ globals_of_all ts

-- the place is in the list
abbrev pub has : List ℕ → ℕ → Bool
has [] place = false
has (p ∷ ps) place = if p == place then true else has ps place

-- each of the places is behind this one
abbrev pub AreBehind : ℕ → List ℕ → Type 0
AreBehind place [] = Unit {0}
AreBehind place (p ∷ ps) = (place < p) × AreBehind place ps

-- the places ascend, so that each stands once
abbrev pub IsAscending : List ℕ → Type 0
IsAscending [] = Unit {0}
IsAscending (p ∷ ps) = AreBehind p ps × IsAscending ps

-- a place among ascending ones, where it is not there yet
abbrev pub with_place : ℕ → List ℕ → List ℕ
with_place place [] = place ∷ []
with_place place (p ∷ ps) = if nat_lt place p then place ∷ p ∷ ps else (if nat_lt p place then p ∷ with_place place ps else p ∷ ps)

-- the places of a list, ascending, each once
abbrev pub places_in : List ℕ → List ℕ
places_in [] = []
places_in (p ∷ ps) = with_place p (places_in ps)

-- the global stands in the term
abbrev pub mentions : ℕ → Tree → Bool
mentions place t = has (globals_of t) place

abbrev pub any_mentions : ℕ → List Tree → Bool
any_mentions place [] = false
any_mentions place (t ∷ ts) = if mentions place t then true else any_mentions place ts
