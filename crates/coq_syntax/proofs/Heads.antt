-- The code finds the first of any pieces.
use Rattle.std.proofs.Common.{◌≡◌, ℕ, ◌+◌, ◌<◌, Bool, true, false, cond, eqb, nat_lt, not, Option, None, Some, List, [], ◌∷◌, ◌++◌, length, suc, refl, sym, ◌∙◌, ap, arith, length-append, append_assoc}
use Rattle.std.specs.List.{prefix_len, AllPass}
use Rattle.std.proofs.lemmas.Bool.Decides.{nat_tests}
use Rattle.std.proofs.lemmas.List.Elements.{All-head, All-tail}
use Rattle.sentence_split.specs.Items.{Items, spells, AreItems, HasNoQuote, is_blank, opens}
use Rattle.sentence_split.specs.Scan.{comment_end}
use Rattle.sentence_split.proofs.Passes.{spells-append, comment_found, commented}
use Rattle.coq_syntax.specs.declared.token.TokenKind.{TokenKind}
use Rattle.coq_syntax.specs.declared.token.TokenKind.TheVariants.{Identifier, Wildcard, Reserved, Number, Symbol, Quoted, Other}
use Rattle.coq_syntax.specs.declared.pieces.Shape.{Shape}
use Rattle.coq_syntax.specs.declared.pieces.Shape.TheVariants.{Word, Digits, Sign, Literal, Single}
use Rattle.coq_syntax.specs.declared.pieces.Piece.{Piece}
use Rattle.coq_syntax.specs.declared.pieces.Piece.TheVariants.{Gap, Lexeme}
use Rattle.coq_syntax.specs.Characters.{starts_word, continues_word, is_digit, is_mark, begins_pair}
use Rattle.coq_syntax.specs.Lexemes.{Stops, IsRun, IsWord, BeginsNoComment, IsSymbol, IsQuoted, IsOther, IsLexeme}
use Rattle.coq_syntax.specs.Pieces.{Pieces, End, Blank, Comment, Lexeme as Token_piece, characters_of, ArePieces, comment_of}
use Rattle.coq_syntax.specs.Scan.{quoted_piece, comment_piece, symbol_piece, first_piece}
use Rattle.coq_syntax.proofs.Classes.{Signed, mark_signed, pair_signed, word_no_blank, digit_no_blank, digit_no_word, signed_quote, open_signed}

-- what the code finds in characters
abbrev pub found : List ℕ → Piece
found [] = Gap 0
found (c ∷ rest) = first_piece c rest

abbrev pub shape_of : TokenKind → Shape
shape_of Identifier = Word
shape_of Wildcard = Word
shape_of Reserved = Word
shape_of Number = Digits
shape_of Symbol = Sign
shape_of Quoted = Literal
shape_of Other = Single

abbrev pub head_of : Pieces → Piece
head_of End = Gap 0
head_of (Blank c after) = Gap 1
head_of (Comment inside after) = Gap (length (comment_of inside))
head_of (Token_piece kind cs after) = Lexeme (shape_of kind) (length cs)

piece_word : (c : ℕ) (rest : List ℕ) → is_blank c ≡ false → starts_word c ≡ true → first_piece c rest ≡ Lexeme Word (1 + prefix_len (λ d. continues_word d) rest)
piece_word c rest b s = rw (b, s) refl

piece_digits : (c : ℕ) (rest : List ℕ) → is_blank c ≡ false → starts_word c ≡ false → is_digit c ≡ true → first_piece c rest ≡ Lexeme Digits (1 + prefix_len (λ d. is_digit d) rest)
piece_digits c rest b s d = rw (b, s, d) refl

piece_quoted : (c : ℕ) (rest : List ℕ) → is_blank c ≡ false → starts_word c ≡ false → is_digit c ≡ false → eqb c 34 ≡ true → first_piece c rest ≡ quoted_piece rest
piece_quoted c rest b s d q = rw (b, s, d, q) refl

piece_comment : (c : ℕ) (rest : List ℕ) → Signed c → opens c rest ≡ true → first_piece c rest ≡ comment_piece (c ∷ rest) (comment_end rest)
piece_comment c rest s o = rw (s.blank, s.word, s.digit, s.quote, o) refl

piece_symbol : (c : ℕ) (rest : List ℕ) → Signed c → opens c rest ≡ false → first_piece c rest ≡ symbol_piece c rest
piece_symbol c rest s o = rw (s.blank, s.word, s.digit, s.quote, o) refl

stopped : (class : ℕ → Bool) (rest : List ℕ) → Stops class rest → prefix_len class rest ≡ 0
stopped class [] h = refl
stopped class (c ∷ rest) h = rw h refl

pub run_len : (class : ℕ → Bool) (w rest : List ℕ) → AllPass class w → Stops class rest → prefix_len class (w ++ rest) ≡ length w
run_len class [] rest h s = stopped class rest s
run_len class (c ∷ w) rest h s =
    let here : class c ≡ true = All-head (λ d. class d ≡ true) c w h in
    let later : AllPass class w = All-tail (λ d. class d ≡ true) c w h in
    let more = run_len class w rest later s in
    rw here (omega (arith, more))

word_head : (w rest : List ℕ) → IsWord w rest → found (w ++ rest) ≡ Lexeme Word (length w)
word_head [] rest h = absurd h.0
word_head (c ∷ w) rest h =
    let len = run_len (λ d. continues_word d) w rest h.0.1 h.1 in
    let size : 1 + prefix_len (λ d. continues_word d) (w ++ rest) ≡ length (c ∷ w) = omega (arith, len) in
    piece_word c (w ++ rest) (word_no_blank c h.0.0) h.0.0 ∙ ap (λ n. Lexeme Word n) size

number_head : (w rest : List ℕ) → IsRun is_digit is_digit w → Stops is_digit rest → found (w ++ rest) ≡ Lexeme Digits (length w)
number_head [] rest h s = absurd h
number_head (c ∷ w) rest h s =
    let len = run_len (λ d. is_digit d) w rest h.1 s in
    let size : 1 + prefix_len (λ d. is_digit d) (w ++ rest) ≡ length (c ∷ w) = omega (arith, len) in
    piece_digits c (w ++ rest) (digit_no_blank c h.0) (digit_no_word c h.0) h.0 ∙ ap (λ n. Lexeme Digits n) size

quote_len : (inside rest : List ℕ) → HasNoQuote inside → prefix_len (λ d. not (eqb d 34)) (inside ++ 34 ∷ rest) ≡ length inside
quote_len [] rest h = refl
quote_len (c ∷ inside) rest h = let more = quote_len inside rest h.1 in rw h.0 (omega (arith, more))

unquoted_len : (rest : List ℕ) → HasNoQuote rest → prefix_len (λ d. not (eqb d 34)) rest ≡ length rest
unquoted_len [] h = refl
unquoted_len (c ∷ rest) h = let more = unquoted_len rest h.1 in rw h.0 (omega (arith, more))

below : (a b : ℕ) → a < b → nat_lt a b ≡ true
below a b h = grind (arith, nat_tests)

not_below : (a b : ℕ) → a ≡ b → nat_lt a b ≡ false
not_below a b h = grind (arith, nat_tests)

quoted_is : (n m : ℕ) (t : Bool) → nat_lt n m ≡ t → cond (nat_lt n m) (Lexeme Literal (n + 2)) (Lexeme Single 1) ≡ cond t (Lexeme Literal (n + 2)) (Lexeme Single 1)
quoted_is n m t e = ap (λ b. cond b (Lexeme Literal (n + 2)) (Lexeme Single 1)) e

quoted_head : (w rest : List ℕ) → IsQuoted w → found (w ++ rest) ≡ Lexeme Literal (length w)
quoted_head w rest q =
    let inner : List ℕ = q.inside ++ 34 ∷ rest in
    let parts : w ++ rest ≡ 34 ∷ inner = ap (λ t. t ++ rest) q.spelled ∙ ap (λ t. 34 ∷ t) (append_assoc q.inside (34 ∷ []) rest) in
    let len = quote_len q.inside rest q.unquoted in
    let long : length inner ≡ length q.inside + suc (length rest) = length-append q.inside (34 ∷ rest) in
    let less : nat_lt (prefix_len (λ d. not (eqb d 34)) inner) (length inner) ≡ true = below _ _ (omega (arith, len, long)) in
    let size : prefix_len (λ d. not (eqb d 34)) inner + 2 ≡ length w = omega (arith, len, ap length q.spelled, length-append q.inside (34 ∷ [])) in
    ap found parts ∙ piece_quoted 34 inner refl signed_quote refl refl ∙ quoted_is _ _ true less ∙ ap (λ n. Lexeme Literal n) size

open_clash : (c : ℕ) (rest : List ℕ) → opens c rest ≡ true → is_mark c ≡ false → ⊥
open_clash c rest o m = let is : c ≡ 40 = grind (arith, nat_tests) in let bad : true ≡ false = ap is_mark (sym is) ∙ m in cc

symbol_is : (c : ℕ) (rest : List ℕ) (p m : Bool) → begins_pair c rest ≡ p → is_mark c ≡ m → symbol_piece c rest ≡ cond p (Lexeme Sign 2) (cond m (Lexeme Sign 1) (Lexeme Single 1))
symbol_is c rest p m e f = ap (λ b. cond b (Lexeme Sign 2) (cond (is_mark c) (Lexeme Sign 1) (Lexeme Single 1))) e ∙ ap (λ b. cond p (Lexeme Sign 2) (cond b (Lexeme Sign 1) (Lexeme Single 1))) f

other_open : (o : Bool) (c : ℕ) (rest : List ℕ) → opens c rest ≡ o → Signed c → is_mark c ≡ false → begins_pair c rest ≡ false → first_piece c rest ≡ Lexeme Single 1
other_open true c rest o s m p = absurd (open_clash c rest o m)
other_open false c rest o s m p = piece_symbol c rest s o ∙ symbol_is c rest false false p m

other_quote : (t : Bool) (c : ℕ) (rest : List ℕ) → eqb c 34 ≡ t → IsOther (c ∷ []) rest → first_piece c rest ≡ Lexeme Single 1
other_quote true c rest q h =
    let len = unquoted_len rest (h.5 q) in
    piece_quoted c rest h.0 h.1 h.2 q ∙ quoted_is _ _ false (not_below _ _ len)
other_quote false c rest q h = other_open (opens c rest) c rest refl (record { blank = h.0; word = h.1; digit = h.2; quote = q }) h.3 h.4

other_head : (w rest : List ℕ) → IsOther w rest → found (w ++ rest) ≡ Lexeme Single (length w)
other_head [] rest h = absurd h
other_head (c ∷ []) rest h = other_quote (eqb c 34) c rest refl h
other_head (c ∷ d ∷ w) rest h = absurd h

-- nothing closes a comment that begins here
unclosed : (o : Option (List ℕ)) (c : ℕ) (rest : List ℕ) → comment_end rest ≡ o → opens c rest ≡ true → BeginsNoComment (c ∷ rest) → comment_piece (c ∷ rest) o ≡ Lexeme Sign 1
unclosed None c rest e o h = refl
unclosed (Some tail) c rest e o h = let k = commented c rest tail o e in absurd (h k.inside tail k.items k.spelled)

mark_head : (o : Bool) (c : ℕ) (rest : List ℕ) → opens c rest ≡ o → IsSymbol (c ∷ []) rest → first_piece c rest ≡ Lexeme Sign 1
mark_head true c rest o h = piece_comment c rest (mark_signed c h.0) o ∙ unclosed (comment_end rest) c rest refl o h.2
mark_head false c rest o h = piece_symbol c rest (mark_signed c h.0) o ∙ symbol_is c rest false true h.1 h.0

symbol_head : (w rest : List ℕ) → IsSymbol w rest → found (w ++ rest) ≡ Lexeme Sign (length w)
symbol_head [] rest h = absurd h
symbol_head (c ∷ []) rest h = mark_head (opens c rest) c rest refl h
symbol_head (c ∷ d ∷ []) rest h =
    let p = pair_signed c d h in
    let shut : opens c (d ∷ rest) ≡ false = rw p.unopened refl in
    piece_symbol c (d ∷ rest) p.signed shut ∙ symbol_is c (d ∷ rest) true (is_mark c) h refl
symbol_head (c ∷ d ∷ e ∷ w) rest h = absurd h

lexeme_head : (kind : TokenKind) (w rest : List ℕ) → IsLexeme kind w rest → found (w ++ rest) ≡ Lexeme (shape_of kind) (length w)
lexeme_head Identifier w rest h = word_head w rest h.0
lexeme_head Wildcard w rest h = word_head w rest h.0
lexeme_head Reserved w rest h = word_head w rest h.0
lexeme_head Number w rest h = number_head w rest h.0 h.1
lexeme_head Symbol w rest h = symbol_head w rest h
lexeme_head Quoted w rest h = quoted_head w rest h
lexeme_head Other w rest h = other_head w rest h

comment_head : (inside : Items) (tail : List ℕ) → AreItems inside (42 ∷ 41 ∷ tail) → found (40 ∷ 42 ∷ spells inside (42 ∷ 41 ∷ tail)) ≡ Gap (length (comment_of inside))
comment_head inside tail h =
    let parts = ap length (spells-append inside (42 ∷ 41 ∷ []) tail) in
    let sum = length-append (spells inside (42 ∷ 41 ∷ [])) tail in
    piece_comment 40 (42 ∷ spells inside (42 ∷ 41 ∷ tail)) open_signed refl
    ∙ ap (comment_piece (40 ∷ 42 ∷ spells inside (42 ∷ 41 ∷ tail))) (comment_found inside tail h)
    ∙ ap (λ n. Gap n) (omega (arith, parts, sum))

-- the first of the pieces is what the code finds
pub headed : (p : Pieces) → ArePieces p → found (characters_of p) ≡ head_of p
headed End h = refl
headed (Blank c after) h = rw h.0 refl
headed (Comment inside after) h = comment_head inside (characters_of after) h.0
headed (Token_piece kind cs after) h = lexeme_head kind cs (characters_of after) h.0
