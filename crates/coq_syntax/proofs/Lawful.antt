-- What the code finds at a character is a blank, a comment or a token.
use Rattle.std.proofs.Common.{◌≡◌, ℕ, ◌+◌, ◌-◌, ◌<◌, ◌≤◌, Bool, true, false, cond, eqb, nat_lt, not, Option, None, Some, List, [], ◌∷◌, ◌++◌, length, take, drop, get_or, suc, refl, sym, ◌∙◌, ap, subst, arith, append-nil, length-append, encode_utf8, encode_utf8_all}
use Rattle.std.specs.List.{prefix_len}
use Rattle.std.proofs.lemmas.Bool.Decides.{nat_tests}
use Rattle.std.proofs.lemmas.Grind.{common_steps}
use Rattle.sentence_split.specs.Items.{spells, AreItems, opens, is_blank}
use Rattle.sentence_split.specs.Scan.{comment_end}
use Rattle.sentence_split.proofs.Passes.{spells-append, comment_found, none_some, commented, Commented}
use Rattle.coq_syntax.specs.declared.pieces.Shape.{Shape}
use Rattle.coq_syntax.specs.declared.pieces.Shape.TheVariants.{Word, Digits, Sign, Literal, Single}
use Rattle.coq_syntax.specs.declared.pieces.Piece.{Piece}
use Rattle.coq_syntax.specs.declared.pieces.Piece.TheVariants.{Gap, Lexeme}
use Rattle.coq_syntax.specs.Characters.{starts_word, continues_word, is_digit, is_mark, begins_pair}
use Rattle.coq_syntax.specs.Lexemes.{BeginsNoComment, IsOther, IsLexeme}
use Rattle.coq_syntax.specs.Pieces.{Pieces, Blank, Comment, characters_of, ArePieces, comment_of, tokens_of}
use Rattle.coq_syntax.specs.Scan.{quoted_piece, comment_piece, symbol_piece, first_piece, kind_of}
use Rattle.coq_syntax.proofs.Lexemes.{ran, quoting, word_lexeme}

-- the first characters are a gap before any pieces that follow
pub record Widened (text : List ℕ) (len : ℕ) (after : Pieces) : Type 0 where
  pub pieces : Pieces
  pub fit : ArePieces pieces
  pub spelled : characters_of pieces ≡ text
  pub tokens : (at : ℕ) → tokens_of at pieces ≡ tokens_of (at + length (encode_utf8_all (take len text))) after

unfoldable pub IsLawful : List ℕ → Piece → Type 0
IsLawful text (Gap len) = (0 < len) × ((after : Pieces) → ArePieces after → characters_of after ≡ drop len text → Widened text len after)
IsLawful text (Lexeme shape len) = IsLexeme (kind_of shape (encode_utf8_all (take len text))) (take len text) (drop len text)

take_one : (c : ℕ) (rest : List ℕ) → take 1 (c ∷ rest) ≡ c ∷ []
take_one c rest = refl

blank_law : (c : ℕ) (rest : List ℕ) → is_blank c ≡ true → IsLawful (c ∷ rest) (Gap 1)
unfolding IsLawful
blank_law c rest e = (
  omega arith,
  λ after fit is. record {
    pieces = Blank c after;
    fit = (e, fit);
    spelled = ap (λ t. c ∷ t) is;
    tokens = λ at. ap (λ n. tokens_of (at + n) after) (sym (ap length (append-nil (encode_utf8 c))));
  },
)

split_at : (text front tail : List ℕ) (n : ℕ) → text ≡ front ++ tail → n ≡ length text - length tail → (take n text ≡ front) × (drop n text ≡ tail)
split_at text front tail n e is =
    let long : n ≡ length front = omega (arith, is, ap length e, length-append front tail) in
    (grind (arith, common_steps), grind (arith, common_steps))

comment_law : (c : ℕ) (rest tail : List ℕ) → Commented c rest tail → IsLawful (c ∷ rest) (Gap (length (c ∷ rest) - length tail))
unfolding IsLawful
comment_law c rest tail k =
    let parts : c ∷ rest ≡ comment_of k.inside ++ tail = k.spelled ∙ ap (λ t. 40 ∷ 42 ∷ t) (spells-append k.inside (42 ∷ 41 ∷ []) tail) in
    let cut = split_at (c ∷ rest) (comment_of k.inside) tail (length (c ∷ rest) - length tail) parts refl in (
      omega (arith, ap length parts, length-append (comment_of k.inside) tail),
      λ after fit is.
          let same : tail ≡ characters_of after = sym (is ∙ cut.1) in
          record {
            pieces = Comment k.inside after;
            fit = (subst (λ t. AreItems k.inside (42 ∷ 41 ∷ t)) same k.items, fit);
            spelled = ap (λ t. 40 ∷ 42 ∷ spells k.inside (42 ∷ 41 ∷ t)) (sym same) ∙ sym k.spelled;
            tokens = λ at. ap (λ cs. tokens_of (at + length (encode_utf8_all cs)) after) (sym cut.0);
          },
    )

run_cut : (c : ℕ) (rest : List ℕ) (n : ℕ) → (take (1 + n) (c ∷ rest) ≡ c ∷ take n rest) × (drop (1 + n) (c ∷ rest) ≡ drop n rest)
run_cut c rest n = let one : 1 + n ≡ suc n = omega arith in (rw one refl, rw one refl)

lexeme_law : (shape : Shape) (n : ℕ) (text front tail : List ℕ) → take n text ≡ front → drop n text ≡ tail → IsLexeme (kind_of shape (encode_utf8_all front)) front tail → IsLawful text (Lexeme shape n)
unfolding IsLawful
lexeme_law shape n text front tail e f h =
    subst (λ xs. IsLexeme (kind_of shape (encode_utf8_all xs)) xs (drop n text)) (sym e) (subst (λ xs. IsLexeme (kind_of shape (encode_utf8_all front)) front xs) (sym f) h)

word_law : (c : ℕ) (rest : List ℕ) → starts_word c ≡ true → IsLawful (c ∷ rest) (Lexeme Word (1 + prefix_len (λ d. continues_word d) rest))
word_law c rest e =
    let n = prefix_len (λ d. continues_word d) rest in
    let r = ran (λ d. continues_word d) rest in
    let cut = run_cut c rest n in
    lexeme_law Word (1 + n) (c ∷ rest) (c ∷ take n rest) (drop n rest) cut.0 cut.1 (word_lexeme (c ∷ take n rest) (drop n rest) ((e, r.pass), r.stop))

digits_law : (c : ℕ) (rest : List ℕ) → is_digit c ≡ true → IsLawful (c ∷ rest) (Lexeme Digits (1 + prefix_len (λ d. is_digit d) rest))
digits_law c rest e =
    let n = prefix_len (λ d. is_digit d) rest in
    let r = ran (λ d. is_digit d) rest in
    let cut = run_cut c rest n in
    lexeme_law Digits (1 + n) (c ∷ rest) (c ∷ take n rest) (drop n rest) cut.0 cut.1 ((e, r.pass), r.stop)

no_pair_quote : (rest : List ℕ) → begins_pair 34 rest ≡ false
no_pair_quote [] = refl
no_pair_quote (d ∷ rest) = refl

no_pair_open : (rest : List ℕ) → begins_pair 40 rest ≡ false
no_pair_open [] = refl
no_pair_open (d ∷ rest) = refl

single_law : (c : ℕ) (rest : List ℕ) → IsOther (c ∷ []) rest → IsLawful (c ∷ rest) (Lexeme Single 1)
single_law c rest h = lexeme_law Single 1 (c ∷ rest) (c ∷ []) rest refl refl h

quoted_law : (t : Bool) (c : ℕ) (rest : List ℕ) → nat_lt (prefix_len (λ d. not (eqb d 34)) rest) (length rest) ≡ t → c ≡ 34 → is_blank c ≡ false → starts_word c ≡ false → is_digit c ≡ false → IsLawful (c ∷ rest) (quoted_piece rest)
quoted_law true c rest e f b s d =
    let n = prefix_len (λ d. not (eqb d 34)) rest in
    let q = quoting rest in
    let is : quoted_piece rest ≡ Lexeme Literal (n + 2) = rw e refl in
    let two : n + 2 ≡ 1 + (n + 1) = omega arith in
    let cut = run_cut c rest (n + 1) in
    let less : n < length rest = grind (arith, nat_tests) in
    let front : take (n + 2) (c ∷ rest) ≡ 34 ∷ (take n rest ++ 34 ∷ []) = ap (λ k. take k (c ∷ rest)) two ∙ cut.0 ∙ ap (λ x. x ∷ take (n + 1) rest) f ∙ ap (λ t. 34 ∷ t) (q.closed less) in
    subst (IsLawful (c ∷ rest)) (sym is) (lexeme_law Literal (n + 2) (c ∷ rest) (34 ∷ (take n rest ++ 34 ∷ [])) (drop (n + 2) (c ∷ rest)) front refl (record { inside = take n rest; unquoted = q.unquoted; spelled = refl }))
quoted_law false c rest e f b s d =
    let q = quoting rest in
    let is : quoted_piece rest ≡ Lexeme Single 1 = rw e refl in
    let more : length rest ≤ prefix_len (λ d. not (eqb d 34)) rest = grind (arith, nat_tests) in
    subst (IsLawful (c ∷ rest)) (sym is) (single_law c rest (b, s, d, ap is_mark f, ap (λ x. begins_pair x rest) f ∙ no_pair_quote rest, λ h. q.open_end more))

tails : {b c : ℕ} {xs ys : List ℕ} → b ∷ xs ≡ c ∷ ys → xs ≡ ys
tails e = cc

mark_law : (c : ℕ) (rest : List ℕ) → is_mark c ≡ true → begins_pair c rest ≡ false → BeginsNoComment (c ∷ rest) → IsLawful (c ∷ rest) (Lexeme Sign 1)
mark_law c rest m p none = lexeme_law Sign 1 (c ∷ rest) (c ∷ []) rest refl refl (m, p, none)

opened_law : (o : Option (List ℕ)) (c : ℕ) (rest : List ℕ) → comment_end rest ≡ o → c ≡ 40 → opens c rest ≡ true → IsLawful (c ∷ rest) (comment_piece (c ∷ rest) o)
opened_law None c rest e f h = mark_law c rest (ap is_mark f) (ap (λ x. begins_pair x rest) f ∙ no_pair_open rest) (λ inside after items is. none_some after (sym e ∙ ap comment_end (tails is) ∙ comment_found inside after items))
opened_law (Some tail) c rest e f h = comment_law c rest tail (commented c rest tail h e)

opens_text : List ℕ → Bool
opens_text [] = false
opens_text (b ∷ rest) = opens b rest

not_open : (b : ℕ) (rest : List ℕ) → opens b rest ≡ false → BeginsNoComment (b ∷ rest)
unfolding opens_text
not_open b rest e inside after h is = let clash : false ≡ true = sym e ∙ ap opens_text is in cc

pair_law : (c : ℕ) (rest : List ℕ) → begins_pair c rest ≡ true → IsLawful (c ∷ rest) (Lexeme Sign 2)
pair_law c [] e = cc
pair_law c (d ∷ rest) e = lexeme_law Sign 2 (c ∷ d ∷ rest) (c ∷ d ∷ []) rest refl refl e

symbol_law : (p m : Bool) (c : ℕ) (rest : List ℕ) → begins_pair c rest ≡ p → is_mark c ≡ m → opens c rest ≡ false → is_blank c ≡ false → starts_word c ≡ false → is_digit c ≡ false → eqb c 34 ≡ false → IsLawful (c ∷ rest) (symbol_piece c rest)
symbol_law true m c rest e f o b s d q = let is : symbol_piece c rest ≡ Lexeme Sign 2 = ap (λ t. cond t (Lexeme Sign 2) (cond (is_mark c) (Lexeme Sign 1) (Lexeme Single 1))) e in subst (IsLawful (c ∷ rest)) (sym is) (pair_law c rest e)
symbol_law false true c rest e f o b s d q =
    let is : symbol_piece c rest ≡ Lexeme Sign 1 = ap (λ t. cond t (Lexeme Sign 2) (cond (is_mark c) (Lexeme Sign 1) (Lexeme Single 1))) e ∙ ap (λ t. cond t (Lexeme Sign 1) (Lexeme Single 1)) f in
    subst (IsLawful (c ∷ rest)) (sym is) (mark_law c rest f e (not_open c rest o))
symbol_law false false c rest e f o b s d q =
    let is : symbol_piece c rest ≡ Lexeme Single 1 = ap (λ t. cond t (Lexeme Sign 2) (cond (is_mark c) (Lexeme Sign 1) (Lexeme Single 1))) e ∙ ap (λ t. cond t (Lexeme Sign 1) (Lexeme Single 1)) f in
    subst (IsLawful (c ∷ rest)) (sym is) (single_law c rest (b, s, d, f, e, λ h. let clash : false ≡ true = sym q ∙ h in cc))

open_is : (c : ℕ) (rest : List ℕ) → opens c rest ≡ true → c ≡ 40
open_is c rest e = grind (arith, nat_tests)

quote_is : (c : ℕ) → eqb c 34 ≡ true → c ≡ 34
quote_is c e = grind (arith, nat_tests)

on_open : (t : Bool) (c : ℕ) (rest : List ℕ) → opens c rest ≡ t → is_blank c ≡ false → starts_word c ≡ false → is_digit c ≡ false → eqb c 34 ≡ false →
    IsLawful (c ∷ rest) (cond t (comment_piece (c ∷ rest) (comment_end rest)) (symbol_piece c rest))
on_open true c rest o b s d q = opened_law (comment_end rest) c rest refl (open_is c rest o) o
on_open false c rest o b s d q = symbol_law (begins_pair c rest) (is_mark c) c rest refl refl o b s d q

on_quote : (t : Bool) (c : ℕ) (rest : List ℕ) → eqb c 34 ≡ t → is_blank c ≡ false → starts_word c ≡ false → is_digit c ≡ false →
    IsLawful (c ∷ rest) (cond t (quoted_piece rest) (cond (opens c rest) (comment_piece (c ∷ rest) (comment_end rest)) (symbol_piece c rest)))
on_quote true c rest q b s d = quoted_law (nat_lt (prefix_len (λ d. not (eqb d 34)) rest) (length rest)) c rest refl (quote_is c q) b s d
on_quote false c rest q b s d = on_open (opens c rest) c rest refl b s d q

on_digit : (t : Bool) (c : ℕ) (rest : List ℕ) → is_digit c ≡ t → is_blank c ≡ false → starts_word c ≡ false →
    IsLawful (c ∷ rest) (cond t (Lexeme Digits (1 + prefix_len (λ d. is_digit d) rest)) (cond (eqb c 34) (quoted_piece rest) (cond (opens c rest) (comment_piece (c ∷ rest) (comment_end rest)) (symbol_piece c rest))))
on_digit true c rest d b s = digits_law c rest d
on_digit false c rest d b s = on_quote (eqb c 34) c rest refl b s d

on_word : (t : Bool) (c : ℕ) (rest : List ℕ) → starts_word c ≡ t → is_blank c ≡ false →
    IsLawful (c ∷ rest) (cond t (Lexeme Word (1 + prefix_len (λ d. continues_word d) rest)) (cond (is_digit c) (Lexeme Digits (1 + prefix_len (λ d. is_digit d) rest)) (cond (eqb c 34) (quoted_piece rest) (cond (opens c rest) (comment_piece (c ∷ rest) (comment_end rest)) (symbol_piece c rest)))))
on_word true c rest s b = word_law c rest s
on_word false c rest s b = on_digit (is_digit c) c rest refl b s

on_blank : (t : Bool) (c : ℕ) (rest : List ℕ) → is_blank c ≡ t →
    IsLawful (c ∷ rest) (cond t (Gap 1) (cond (starts_word c) (Lexeme Word (1 + prefix_len (λ d. continues_word d) rest)) (cond (is_digit c) (Lexeme Digits (1 + prefix_len (λ d. is_digit d) rest)) (cond (eqb c 34) (quoted_piece rest) (cond (opens c rest) (comment_piece (c ∷ rest) (comment_end rest)) (symbol_piece c rest))))))
on_blank true c rest b = blank_law c rest b
on_blank false c rest b = on_word (starts_word c) c rest refl b

-- what is found at the first character
pub piece_law : (text : List ℕ) (p : Piece) → 0 < length text → p ≡ first_piece (get_or text 0 0) (drop 1 text) → IsLawful text p
piece_law [] p h e = absurd (omega arith)
piece_law (c ∷ rest) p h e = subst (IsLawful (c ∷ rest)) (sym e) (on_blank (is_blank c) c rest refl)
