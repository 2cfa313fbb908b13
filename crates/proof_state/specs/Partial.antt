-- Terms with holes.
use Rattle.std.specs.Prelude.{ℕ, ◌+◌, ◌==◌, List, [], ◌∷◌, ◌++◌, length, if◌then◌else◌}
use Rattle.core_term.specs.Tree.{Tree, Sorted, Lam, LetIn, App}
use Rattle.core_term.specs.declared.sorts.Sort.TheVariants.{PropSort}

-- a term with holes, where something of H stands at each
pub data Partial (H : Type 0) : Type 0 where
  Ready : Tree → Partial H
  Hole : H → Partial H
  Abstracts : List ℕ → Tree → Partial H → Partial H
  Defines : List ℕ → Tree → Tree → Partial H → Partial H
  Applies : Partial H → Partial H → Partial H

-- what stands at the holes, from the left
abbrev pub holes : {H : Type 0} → Partial H → List H
holes (Ready t) = []
holes (Hole h) = h ∷ []
holes (Abstracts n a p) = holes p
holes (Defines n a t p) = holes p
holes (Applies f a) = holes f ++ holes a

-- the holes numbered from the left
abbrev pub numbered : {H : Type 0} → ℕ → Partial H → Partial ℕ
numbered next (Ready t) = Ready t
numbered next (Hole h) = Hole next
numbered next (Abstracts n a p) = Abstracts n a (numbered next p)
numbered next (Defines n a t p) = Defines n a t (numbered next p)
numbered next (Applies f a) = Applies (numbered next f) (numbered (next + length (holes f)) a)

-- a term with holes in place of each hole
abbrev pub replaced : {H K : Type 0} → (H → Partial K) → Partial H → Partial K
replaced by (Ready t) = Ready t
replaced by (Hole h) = by h
replaced by (Abstracts n a p) = Abstracts n a (replaced by p)
replaced by (Defines n a t p) = Defines n a t (replaced by p)
replaced by (Applies f a) = Applies (replaced by f) (replaced by a)

-- what stands at the hole m where the hole n is filled
abbrev pub filling : ℕ → Partial ℕ → ℕ → Partial ℕ
filling n by m = if m == n then by else Hole m

-- the hole n filled
abbrev pub fill : ℕ → Partial ℕ → Partial ℕ → Partial ℕ
fill n by p = replaced (filling n by) p

-- terms at holes
abbrev pub AtHoles : Type 0 → Type 0
AtHoles H = H → Tree

-- the term with these terms at its holes
abbrev pub plugged : {H : Type 0} → AtHoles H → Partial H → Tree
plugged at (Ready t) = t
plugged at (Hole h) = at h
plugged at (Abstracts n a p) = Lam n a (plugged at p)
plugged at (Defines n a t p) = LetIn n a t (plugged at p)
plugged at (Applies f a) = App (plugged at f) (plugged at a)

-- a term without holes; no caller asks for it where there is one
abbrev pub whole : Partial ℕ → Tree
whole p = plugged (λ _. Sorted PropSort) p
