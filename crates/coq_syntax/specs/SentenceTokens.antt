-- The tokens of a sentence as a function of its bytes.
use Rattle.std.specs.Prelude.{ℕ, zero, suc, ◌+◌, ◌-◌, List, [], ◌∷◌, length, take, encode_utf8, encode_utf8_all}
use Rattle.std.specs.Str.{chars}
use Rattle.coq_syntax.specs.declared.token.Token.{Token}
use Rattle.coq_syntax.specs.declared.pieces.Piece.{Piece}
use Rattle.coq_syntax.specs.declared.pieces.Piece.TheVariants.{Gap, Lexeme}
use Rattle.coq_syntax.specs.Tokens.{Tokens}
use Rattle.coq_syntax.specs.Pieces.{token_at}
use Rattle.coq_syntax.specs.Scan.{first_piece, kind_of}

-- how many characters of a piece follow its first
abbrev pub after_first : ℕ → ℕ
after_first zero = zero
after_first (suc n) = n

-- the tokens of a piece with which these characters begin, and those behind its first character
abbrev pub with_piece : ℕ → Piece → List ℕ → (ℕ → List Token) → List Token
with_piece at (Gap len) text later = later (after_first len)
with_piece at (Lexeme shape len) text later =
    token_at at (kind_of shape (encode_utf8_all (take len text))) (encode_utf8_all (take len text)) ∷ later (after_first len)

-- the tokens of characters that begin at a byte; so many of them belong to the piece before
unfoldable pub tokens_from : ℕ → ℕ → List ℕ → List Token
tokens_from left at [] = []
tokens_from zero at (c ∷ rest) = with_piece at (first_piece c rest) (c ∷ rest) (λ left. tokens_from left (at + length (encode_utf8 c)) rest)
tokens_from (suc left) at (c ∷ rest) = tokens_from left (at + length (encode_utf8 c)) rest

-- the tokens of a sentence: of all its bytes but the last, which is its period
abbrev pub sentence_tokens : List ℕ → Tokens
sentence_tokens sentence = record {
  items = tokens_from 0 0 (chars (take (length sentence - 1) sentence));
  period = length sentence - 1;
}
