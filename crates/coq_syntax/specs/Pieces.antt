-- The tokens of a sentence, with blanks and comments between them.
use Rattle.std.specs.Prelude.{◌≡◌, ℕ, ◌+◌, true, List, [], ◌∷◌, ◌++◌, length, encode_utf8, encode_utf8_all}
use Rattle.sentence_split.specs.Items.{Items, spells, AreItems, is_blank}
use Rattle.coq_syntax.specs.declared.token.Token.{Token}
use Rattle.coq_syntax.specs.declared.token.TokenKind.{TokenKind}
use Rattle.coq_syntax.specs.Lexemes.{IsLexeme}
use Rattle.coq_syntax.specs.Tokens.{Tokens}

-- blanks, comments and tokens, one after another
pub data Pieces : Type 0 where
  End : Pieces
  Blank : (character : ℕ) (after : Pieces) → Pieces
  Comment : (inside : Items) (after : Pieces) → Pieces
  Lexeme : (kind : TokenKind) (characters : List ℕ) (after : Pieces) → Pieces

-- the characters of the pieces
abbrev pub characters_of : Pieces → List ℕ
characters_of End = []
characters_of (Blank c after) = c ∷ characters_of after
characters_of (Comment inside after) = 40 ∷ 42 ∷ spells inside (42 ∷ 41 ∷ characters_of after)
characters_of (Lexeme kind cs after) = cs ++ characters_of after

-- each piece is what it says, where the others follow
abbrev pub ArePieces : Pieces → Type 0
ArePieces End = Unit {0}
ArePieces (Blank c after) = (is_blank c ≡ true) × ArePieces after
ArePieces (Comment inside after) = AreItems inside (42 ∷ 41 ∷ characters_of after) × ArePieces after
ArePieces (Lexeme kind cs after) = IsLexeme kind cs (characters_of after) × ArePieces after

-- a token that begins at a byte
abbrev pub token_at : ℕ → TokenKind → List ℕ → Token
token_at at kind text = record { kind = kind; text = text; from = at; to = at + length text }

-- the characters of a comment
abbrev pub comment_of : Items → List ℕ
comment_of inside = 40 ∷ 42 ∷ spells inside (42 ∷ 41 ∷ [])

-- the tokens of pieces that begin at a byte, with their places in bytes
abbrev pub tokens_of : ℕ → Pieces → List Token
tokens_of at End = []
tokens_of at (Blank c after) = tokens_of (at + length (encode_utf8 c)) after
tokens_of at (Comment inside after) = tokens_of (at + length (encode_utf8_all (comment_of inside))) after
tokens_of at (Lexeme kind cs after) = token_at at kind (encode_utf8_all cs) ∷ tokens_of (at + length (encode_utf8_all cs)) after

-- the sentence is pieces and its period, and these are the tokens of the pieces
pub record IsTokenList (sentence : List ℕ) (tokens : Tokens) : Type 0 where
  pub pieces : Pieces
  pub fit : ArePieces pieces
  pub spelled : sentence ≡ encode_utf8_all (characters_of pieces) ++ 46 ∷ []
  pub items_are : tokens.items ≡ tokens_of 0 pieces
  pub period_is : tokens.period + 1 ≡ length sentence

-- these are the tokens of the characters
pub record AreTokensOf (characters : List ℕ) (tokens : List Token) : Type 0 where
  pub pieces : Pieces
  pub fit : ArePieces pieces
  pub spelled : characters ≡ characters_of pieces
  pub tokens_are : tokens ≡ tokens_of 0 pieces
