-- The function of a sentence's bytes gives its token list.
use Rattle.std.proofs.Common.{◌≡◌, ℕ, zero, suc, ◌+◌, ◌-◌, ◌<◌, ◌≤◌, List, [], ◌∷◌, ◌++◌, length, take, drop, get_or, slice_range, refl, sym, ◌∙◌, ap, subst, arith, length-append, add-zero, encode_utf8, encode_utf8_all}
use Rattle.std.specs.Str.{IsUtf8, chars}
use Rattle.std.proofs.lemmas.Str.{IsUtf8-take, IsCharBoundary-before_ascii}
use Rattle.std.proofs.lemmas.Grind.{common_steps}
use Rattle.std.proofs.lemmas.List.{take-append-drop}
use Rattle.base_core.specs.Fit.{EndsInPeriod}
use Rattle.coq_syntax.specs.declared.token.Token.{Token}
use Rattle.coq_syntax.specs.declared.token.TokenKind.{TokenKind}
use Rattle.coq_syntax.specs.declared.pieces.Shape.{Shape}
use Rattle.coq_syntax.specs.declared.pieces.Piece.{Piece}
use Rattle.coq_syntax.specs.declared.pieces.Piece.TheVariants.{Gap, Lexeme}
use Rattle.coq_syntax.specs.Lexemes.{IsLexeme}
use Rattle.coq_syntax.specs.Pieces.{Pieces, End, Lexeme as Token_piece, characters_of, ArePieces, token_at, tokens_of, AreTokensOf, IsTokenList}
use Rattle.coq_syntax.specs.Scan.{first_piece, kind_of}
use Rattle.coq_syntax.specs.SentenceTokens.{with_piece, tokens_from, sentence_tokens}
use Rattle.coq_syntax.proofs.Lawful.{IsLawful, Widened, piece_law}
use Rattle.coq_syntax.proofs.Sentence.{bytes_before, listed}
use Rattle.coq_syntax.proofs.Unique.{no_lexeme}

-- pieces of what is left behind so many characters
record Found (left : ℕ) (text : List ℕ) : Type 0 where
  pub pieces : Pieces
  pub fit : ArePieces pieces
  pub spelled : characters_of pieces ≡ drop left text
  pub tokens : (at : ℕ) → tokens_from left at text ≡ tokens_of (at + length (encode_utf8_all (take left text))) pieces

-- pieces of characters of which the first begins a piece
record Begun (c : ℕ) (rest : List ℕ) (p : Piece) : Type 0 where
  pub pieces : Pieces
  pub fit : ArePieces pieces
  pub spelled : characters_of pieces ≡ c ∷ rest
  pub tokens : (at : ℕ) → with_piece at p (c ∷ rest) (λ left. tokens_from left (at + length (encode_utf8 c)) rest) ≡ tokens_of at pieces

-- the bytes of a character and of others behind it
one_more : (at c : ℕ) (cs : List ℕ) → at + length (encode_utf8 c) + length (encode_utf8_all cs) ≡ at + length (encode_utf8 c ++ encode_utf8_all cs)
one_more at c cs = omega (arith, length-append (encode_utf8 c) (encode_utf8_all cs))

module _ (c : ℕ) (rest : List ℕ) (ih : (left : ℕ) → Found left rest) where
  gap_begun : (n : ℕ) → IsLawful (c ∷ rest) (Gap (suc n)) → Begun c rest (Gap (suc n))
  unfolding IsLawful
  gap_begun n law =
      let f = ih n in
      let w : Widened (c ∷ rest) (suc n) f.pieces = law.1 f.pieces f.fit f.spelled in
      record {
        pieces = w.pieces;
        fit = w.fit;
        spelled = w.spelled;
        tokens = λ at. f.tokens (at + length (encode_utf8 c)) ∙ ap (λ k. tokens_of k f.pieces) (one_more at c (take n rest)) ∙ sym (w.tokens at);
      }

  lexeme_begun : (shape : Shape) (n : ℕ) → IsLawful (c ∷ rest) (Lexeme shape (suc n)) → Begun c rest (Lexeme shape (suc n))
  unfolding IsLawful
  lexeme_begun shape n law =
      let f = ih n in
      let cs : List ℕ = take (suc n) (c ∷ rest) in
      let kind : TokenKind = kind_of shape (encode_utf8_all cs) in
      record {
        pieces = Token_piece kind cs f.pieces;
        fit = (subst (IsLexeme kind cs) (sym f.spelled) law, f.fit);
        spelled = ap (λ t. cs ++ t) f.spelled ∙ take-append-drop (suc n) (c ∷ rest);
        tokens = λ at.
            ap (λ ts. token_at at kind (encode_utf8_all cs) ∷ ts) (f.tokens (at + length (encode_utf8 c)) ∙ ap (λ k. tokens_of k f.pieces) (one_more at c (take n rest)));
      }

  piece_begun : (p : Piece) → IsLawful (c ∷ rest) p → Begun c rest p
  unfolding IsLawful
  piece_begun (Gap zero) law = absurd (omega (arith, law.0))
  piece_begun (Gap (suc n)) law = gap_begun n law
  piece_begun (Lexeme shape zero) law = absurd (no_lexeme (kind_of shape (encode_utf8_all [])) (c ∷ rest) law)
  piece_begun (Lexeme shape (suc n)) law = lexeme_begun shape n law

  first_begun : Begun c rest (first_piece c rest)
  first_begun = piece_begun (first_piece c rest) (piece_law (c ∷ rest) (first_piece c rest) (omega arith) refl)

found : (text : List ℕ) (left : ℕ) → Found left text
unfolding tokens_from
found [] zero = record { pieces = End; fit = tt; spelled = refl; tokens = λ at. refl }
found [] (suc left) = record { pieces = End; fit = tt; spelled = refl; tokens = λ at. refl }
found (c ∷ rest) zero =
    let b = first_begun c rest (found rest) in
    record { pieces = b.pieces; fit = b.fit; spelled = b.spelled; tokens = λ at. b.tokens at ∙ ap (λ k. tokens_of k b.pieces) (sym (add-zero at)) }
found (c ∷ rest) (suc left) =
    let f = found rest left in
    record { pieces = f.pieces; fit = f.fit; spelled = f.spelled; tokens = λ at. f.tokens (at + length (encode_utf8 c)) ∙ ap (λ k. tokens_of k f.pieces) (one_more at c (take left rest)) }

are_tokens : (text : List ℕ) → AreTokensOf text (tokens_from 0 0 text)
are_tokens text =
    let f = found text 0 in
    record { pieces = f.pieces; fit = f.fit; spelled = sym f.spelled; tokens_are = f.tokens 0 }

front_is_utf8 : (sentence front : List ℕ) → sentence ≡ front ++ 46 ∷ [] → IsUtf8 sentence → IsUtf8 (take (length sentence - 1) sentence)
front_is_utf8 sentence front parts utf8 =
    let size : length sentence ≡ length front + 1 = omega (arith, ap length parts, length-append front (46 ∷ [])) in
    let byte : get_or sentence (length sentence - 1) 0 ≡ 46 = ap (λ s. get_or s (length sentence - 1) 0) parts ∙ at_end front (length sentence - 1) (omega (arith, size)) in
    IsUtf8-take sentence (length sentence - 1) utf8 (IsCharBoundary-before_ascii sentence (length sentence - 1) (omega (arith, size)) (omega (arith, byte))) where
      at_end : (xs : List ℕ) (n : ℕ) → n ≡ length xs → get_or (xs ++ 46 ∷ []) n 0 ≡ 46
      at_end xs n e = grind (arith, common_steps)

pub law : (sentence : List ℕ) → IsUtf8 sentence → EndsInPeriod sentence → IsTokenList sentence (sentence_tokens sentence)
law sentence utf8 ended =
    let n : ℕ = length sentence - 1 in
    let shows : take n sentence ≡ slice_range sentence 0 n = ap (λ k. take k sentence) (omega arith) in
    let shown = front_is_utf8 sentence ended.front ended.parts utf8 in
    listed sentence ended.front (chars (take n sentence)) (tokens_from 0 0 (chars (take n sentence))) (sentence_tokens sentence) ended.parts
    (bytes_before sentence ended.front (take n sentence) (chars (take n sentence)) ended.parts shows shown refl) (are_tokens (chars (take n sentence))) refl refl
