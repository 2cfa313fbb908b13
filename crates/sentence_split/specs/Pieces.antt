-- Pieces of a text.
use Rattle.std.specs.Prelude.{ℕ, ◌<◌, ◌≤◌}
use Rattle.sentence_split.specs.declared.pieces.Piece.{Piece}
use Rattle.sentence_split.specs.declared.pieces.Piece.TheVariants.{Gap, Sentence}

-- how many bytes a piece has
abbrev pub piece_len : Piece → ℕ
piece_len (Gap len) = len
piece_len (Sentence kind len) = len

-- a piece has some of so many bytes
pub record IsWithin (piece : Piece) (most : ℕ) : Type 0 where
  pub some : 0 < piece_len piece
  pub no_more : piece_len piece ≤ most
