-- What the code finds at a character.
use Rattle.std.specs.Prelude.{◌≡◌, ◌==◌, ℕ, ◌+◌, ◌-◌, ◌<◌, ◌≤◌, Bool, true, false, Option, None, Some, List, [], ◌∷◌, length, nat_lt, get_or, drop, if◌then◌else◌, not}
use Rattle.std.specs.List.{prefix_len}
use Rattle.sentence_split.specs.declared.scan.Mode.{Mode as Scanned}
use Rattle.sentence_split.specs.declared.scan.Mode.TheVariants.{Item, Quoted as InQuotes, Second}
use Rattle.sentence_split.specs.declared.scan.State.{State as ScanState}
use Rattle.sentence_split.specs.Items.{is_blank, opens, closes}
use Rattle.sentence_split.specs.Scan.{state, comment_end}
use Rattle.coq_syntax.specs.declared.comments.Mode.{Mode}
use Rattle.coq_syntax.specs.declared.comments.Mode.TheVariants.{Fresh, InString, InMark}
use Rattle.coq_syntax.specs.declared.comments.State.{State}
use Rattle.coq_syntax.specs.declared.rooms.Rooms.{Rooms}
use Rattle.coq_syntax.specs.declared.pieces.Shape.{Shape}
use Rattle.coq_syntax.specs.declared.pieces.Shape.TheVariants.{Word, Digits, Sign, Literal, Single}
use Rattle.coq_syntax.specs.declared.pieces.Piece.{Piece}
use Rattle.coq_syntax.specs.declared.pieces.Piece.TheVariants.{Gap, Lexeme}
use Rattle.coq_syntax.specs.declared.token.TokenKind.{TokenKind}
use Rattle.coq_syntax.specs.declared.token.TokenKind.TheVariants.{Identifier, Wildcard, Reserved, Number, Symbol, Quoted, Other}
use Rattle.coq_syntax.specs.Characters.{starts_word, continues_word, is_digit, is_mark, begins_pair, is_wildcard, is_reserved}

-- the mode of a scan of bytes
abbrev pub as_scanned : Mode → Scanned
as_scanned Fresh = Item
as_scanned InString = InQuotes
as_scanned InMark = Second

abbrev pub scan_state : State → ScanState
scan_state s = state s.depth (as_scanned s.mode)

-- how many open comments the rest can close, in each mode, one character earlier
abbrev pub rooms_before : ℕ → List ℕ → Rooms → Rooms
rooms_before c rest rooms = record {
  fresh = if opens c rest then rooms.in_mark - 1 else if closes c rest then rooms.in_mark + 1 else if c == 34 then rooms.in_string else rooms.fresh;
  in_string = if c == 34 then rooms.fresh else rooms.in_string;
  in_mark = rooms.fresh;
}

abbrev pub rooms_of : List ℕ → Rooms
rooms_of [] = record { fresh = 0; in_string = 0; in_mark = 0 }
rooms_of (c ∷ rest) = rooms_before c rest (rooms_of rest)

-- a mark for each character; where it's false, no comment that begins there is closed
pub record AreMarks (text : List ℕ) (marks : List Bool) : Type 0 where
  pub count : length marks ≡ length text
  pub none : (k : ℕ) → k < length text → get_or marks k true ≡ false → comment_end (drop (k + 1) text) ≡ None

-- a string, or where nothing closes it its mark
abbrev pub quoted_piece : List ℕ → Piece
quoted_piece rest = if nat_lt (prefix_len (λ c. not (c == 34)) rest) (length rest) then Lexeme Literal (prefix_len (λ c. not (c == 34)) rest + 2) else Lexeme Single 1

-- a comment, or where nothing closes it the symbol `(`
abbrev pub comment_piece : List ℕ → Option (List ℕ) → Piece
comment_piece text None = Lexeme Sign 1
comment_piece text (Some rest) = Gap (length text - length rest)

-- a symbol, or the character alone
abbrev pub symbol_piece : ℕ → List ℕ → Piece
symbol_piece c rest = if begins_pair c rest then Lexeme Sign 2 else if is_mark c then Lexeme Sign 1 else Lexeme Single 1

-- what begins with this character, and how many it has
abbrev pub first_piece : ℕ → List ℕ → Piece
first_piece c rest =
    if is_blank c then Gap 1
    else if starts_word c then Lexeme Word (1 + prefix_len (λ d. continues_word d) rest)
    else if is_digit c then Lexeme Digits (1 + prefix_len (λ d. is_digit d) rest)
    else if c == 34 then quoted_piece rest
    else if opens c rest then comment_piece (c ∷ rest) (comment_end rest)
    else symbol_piece c rest

-- how many characters a piece has
abbrev pub piece_len : Piece → ℕ
piece_len (Gap len) = len
piece_len (Lexeme shape len) = len

-- a piece has some of so many characters
pub record IsWithin (piece : Piece) (most : ℕ) : Type 0 where
  pub some : 0 < piece_len piece
  pub no_more : piece_len piece ≤ most

-- the kind of a token of this shape and text
abbrev pub kind_of : Shape → List ℕ → TokenKind
kind_of Word text = if is_wildcard text then Wildcard else if is_reserved text then Reserved else Identifier
kind_of Digits text = Number
kind_of Sign text = Symbol
kind_of Literal text = Quoted
kind_of Single text = Other
