-- Terms that are put together, where none is too large.
use Rattle.std.specs.Prelude.{ℕ, ◌-◌, suc, List, [], ◌∷◌, get_or, Option, Some, None, Result, Ok, Err}
use Rattle.core_term.specs.Tree.{Tree, Lam, LetIn, App}
use Rattle.core_term.specs.Answers.{within_limits}
use Rattle.core_term.specs.declared.stops.TermStop.{TermStop}
use Rattle.proof_state.specs.declared.parts.Part.{Part}
use Rattle.proof_state.specs.declared.parts.Part.TheVariants as part
use Rattle.proof_state.specs.Partial.{Partial, Ready, Hole, Abstracts, Defines, Applies}

abbrev pub made : Result Tree TermStop → Option Tree
made (Ok t) = Some t
made (Err stop) = None

-- the term, where it passes no limit
abbrev pub if_small : Tree → Option Tree
if_small t = made (within_limits t)

-- a term of a term that there may be
abbrev pub around : (Tree → Tree) → Option Tree → Option Tree
around f None = None
around f (Some t) = if_small (f t)

abbrev pub applied : Option Tree → Option Tree → Option Tree
applied None a = None
applied (Some f) a = around (App f) a

-- the term with these terms at its holes, where no part of it is too large
abbrev pub plugged_if_small : {H : Type 0} → (H → Option Tree) → Partial H → Option Tree
plugged_if_small at (Ready t) = if_small t
plugged_if_small at (Hole h) = at h
plugged_if_small at (Abstracts n a p) = around (Lam n a) (plugged_if_small at p)
plugged_if_small at (Defines n a t p) = around (LetIn n a t) (plugged_if_small at p)
plugged_if_small at (Applies f a) = applied (plugged_if_small at f) (plugged_if_small at a)

-- the term of a number, of those from `first` on
abbrev pub term_of : ℕ → List (Option Tree) → ℕ → Option Tree
term_of first terms m = get_or terms (m - first) None

abbrev pub part_term : Part → (ℕ → Option Tree) → Option Tree
part_term (part.Filled s) at = plugged_if_small at s
part_term _ at = None

-- the terms of the numbers from `first` on
abbrev pub terms_from : ℕ → List Part → List (Option Tree)
terms_from first [] = []
terms_from first (p ∷ ps) = part_term p (term_of (suc first) (terms_from (suc first) ps)) ∷ terms_from (suc first) ps

-- no goal is left
abbrev pub IsSolved : Part → Type 0
IsSolved (part.Filled s) = Unit {0}
IsSolved _ = ⊥

abbrev pub AreSolved : List Part → Type 0
AreSolved [] = Unit {0}
AreSolved (p ∷ ps) = IsSolved p × AreSolved ps
