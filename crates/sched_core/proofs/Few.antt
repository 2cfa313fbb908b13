-- How many sentences are left: no more than a text has bytes, and a message adds those of one text.
use Rattle.std.proofs.Common.{ℕ, zero, suc, ◌+◌, ◌-◌, ◌≤◌, List, [], ◌∷◌, length, arith}
use Rattle.sentence_split.specs.declared.pieces.Piece.{Piece}
use Rattle.sentence_split.specs.declared.pieces.Piece.TheVariants.{Gap, Sentence}
use Rattle.sentence_split.specs.Sentences.{sentences, with_piece, first_piece}

later : (at : ℕ) (piece : Piece) (rest : List ℕ) → ((n : ℕ) → length (sentences (at + 1) n rest) ≤ length rest) → length (with_piece at piece (λ n. sentences (at + 1) n rest)) ≤ suc (length rest)
later at (Gap len) rest few = omega (arith, few (len - 1))
later at (Sentence kind len) rest few = omega (arith, few (len - 1))

pub few : (text : List ℕ) (at k : ℕ) → length (sentences at k text) ≤ length text
few [] at k = omega arith
few (b ∷ rest) at (suc k) = omega (arith, few rest (at + 1) k)
few (b ∷ rest) at zero = later at (first_piece b rest) rest (λ n. few rest (at + 1) n)
