-- The sentences of a text, as a function: each first byte that is neither blank nor in a comment or an
-- earlier sentence begins one.
use Rattle.std.specs.Prelude.{◌==◌, ℕ, ◌+◌, ◌-◌, zero, suc, Option, None, Some, List, [], ◌∷◌, length, if◌then◌else◌}
use Rattle.std.specs.List.{prefix_len}
use Rattle.base_core.specs.declared.kind.Kind.TheVariants.{Plain, Bullet, BraceOpen, BraceClose, Unfinished}
use Rattle.sentence_split.specs.declared.spans.Span.{Span}
use Rattle.sentence_split.specs.declared.pieces.Piece.{Piece}
use Rattle.sentence_split.specs.declared.pieces.Piece.TheVariants.{Gap, Sentence}
use Rattle.sentence_split.specs.Items.{opens, is_blank}
use Rattle.sentence_split.specs.Split.{is_bullet}
use Rattle.sentence_split.specs.Scan.{sentence_end, comment_end}

-- a plain sentence, or where nothing ends it all that is left
abbrev pub plain_piece : List ℕ → Option (List ℕ) → Piece
plain_piece text None = Sentence Unfinished (length text)
plain_piece text (Some rest) = Sentence Plain (length text - length rest)

-- a comment, or where nothing closes it what is left
abbrev pub comment_piece : List ℕ → Option (List ℕ) → Piece
comment_piece text None = plain_piece text (sentence_end text)
comment_piece text (Some rest) = Gap (length text - length rest)

-- what begins with this byte, and its length
abbrev pub first_piece : ℕ → List ℕ → Piece
first_piece b rest =
    if is_blank b then Gap 1
    else if is_bullet b then Sentence Bullet (1 + prefix_len (λ c. c == b) rest)
    else if b == 123 then Sentence BraceOpen 1
    else if b == 125 then Sentence BraceClose 1
    else if opens b rest then comment_piece (b ∷ rest) (comment_end rest)
    else plain_piece (b ∷ rest) (sentence_end (b ∷ rest))

-- one more piece, before the sentences that follow it
abbrev pub with_piece : ℕ → Piece → (ℕ → List Span) → List Span
with_piece at (Gap len) later = later (len - 1)
with_piece at (Sentence kind len) later = record { from = at; to = at + len; kind = kind } ∷ later (len - 1)

-- the sentences of the bytes from a place on, of which the first so many belong to the piece before
abbrev pub sentences : ℕ → ℕ → List ℕ → List Span
sentences at k [] = []
sentences at (suc k) (b ∷ rest) = sentences (at + 1) k rest
sentences at zero (b ∷ rest) = with_piece at (first_piece b rest) (λ n. sentences (at + 1) n rest)
