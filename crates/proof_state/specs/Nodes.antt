-- Sketches as terms with holes.
use Rattle.std.specs.Prelude.{ℕ, ◌+◌}
use Rattle.proof_state.specs.Partial.{Partial, Ready, Hole, Abstracts, Defines, Applies}
use Rattle.proof_state.specs.declared.sketch.SketchNode.{SketchNode}
use Rattle.proof_state.specs.declared.sketch.SketchNode.TheVariants as node

-- the term with holes that a node is the top of
abbrev pub partial_of : {H : Type 0} → SketchNode H → Partial H
partial_of (node.Ready t) = Ready t
partial_of (node.Hole h) = Hole h
partial_of (node.Lam n a b) = Abstracts n a b.value
partial_of (node.LetIn n a t b) = Defines n a t b.value
partial_of (node.App f a) = Applies f.value a.value

-- how many nodes stand above terms and holes, with these
abbrev pub nodes : {H : Type 0} → Partial H → ℕ
nodes (Ready t) = 1
nodes (Hole h) = 1
nodes (Abstracts n a p) = 1 + nodes p
nodes (Defines n a t p) = 1 + nodes p
nodes (Applies f a) = 1 + nodes f + nodes a
