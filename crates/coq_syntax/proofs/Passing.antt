-- Pieces, one after another.
use Rattle.std.proofs.Common.{◌≡◌, ℕ, ◌+◌, ◌-◌, ◌<◌, ◌≤◌, Bool, true, false, None, List, [], ◌∷◌, ◌++◌, zero, suc, ◌^◌, length, take, drop, get_or, refl, sym, ◌∙◌, ap, subst, arith, append_assoc, append-nil, length-append, length-drop, encode_utf8_all}
use Rattle.std.proofs.lemmas.Grind.{common_steps}
use Rattle.std.proofs.lemmas.List.{take-append-drop}
use Rattle.coq_syntax.specs.declared.token.Token.{Token}
use Rattle.coq_syntax.specs.declared.token.TokenKind.{TokenKind}
use Rattle.coq_syntax.specs.declared.pieces.Shape.{Shape}
use Rattle.coq_syntax.specs.declared.pieces.Piece.{Piece}
use Rattle.coq_syntax.specs.declared.pieces.Piece.TheVariants.{Gap, Lexeme}
use Rattle.coq_syntax.specs.Lexemes.{IsLexeme}
use Rattle.coq_syntax.specs.Pieces.{Pieces, End, Lexeme as Token_piece, characters_of, ArePieces, token_at, tokens_of, AreTokensOf}
use Rattle.sentence_split.specs.Scan.{comment_end}
use Rattle.coq_syntax.specs.Scan.{first_piece, kind_of, AreMarks}
use Rattle.coq_syntax.proofs.Lawful.{IsLawful, Widened, piece_law}
use Rattle.coq_syntax.proofs.Runs.{encodes-append}

token_of : TokenKind → List ℕ → ℕ → ℕ → Token
token_of kind text from to = record { kind = kind; text = text; from = from; to = to }

-- the tokens found so far, before any pieces of the rest, are tokens of the whole
pub record Partly (body : List ℕ) (at from : ℕ) (found : List Token) : Type 0 where
  pub within : at ≤ length body
  pub place : from + length (encode_utf8_all (drop at body)) ≡ length (encode_utf8_all body)
  pub whole : (after : Pieces) → ArePieces after → characters_of after ≡ drop at body → AreTokensOf body (found ++ tokens_of from after)

pub begun : (body : List ℕ) → Partly body 0 0 []
begun body = record {
  within = omega arith;
  place = omega arith;
  whole = λ after fit is. record { pieces = after; fit = fit; spelled = sym is; tokens_are = refl };
}

drop-drop : (text : List ℕ) (at n : ℕ) → drop n (drop at text) ≡ drop (at + n) text
drop-drop text at n = grind (arith, common_steps)

sizes : (text : List ℕ) (n : ℕ) → length (encode_utf8_all (take n text)) + length (encode_utf8_all (drop n text)) ≡ length (encode_utf8_all text)
sizes text n = sym (length-append (encode_utf8_all (take n text)) (encode_utf8_all (drop n text))) ∙ ap length (sym (encodes-append (take n text) (drop n text))) ∙ ap (λ cs. length (encode_utf8_all cs)) (take-append-drop n text)

moved : (body : List ℕ) (at n from bytes : ℕ) → bytes ≡ length (encode_utf8_all (take n (drop at body))) → from + length (encode_utf8_all (drop at body)) ≡ length (encode_utf8_all body) → from + bytes + length (encode_utf8_all (drop (at + n) body)) ≡ length (encode_utf8_all body)
moved body at n from bytes e h =
    let parts = sizes (drop at body) n in
    let same : length (encode_utf8_all (drop n (drop at body))) ≡ length (encode_utf8_all (drop (at + n) body)) = ap (λ cs. length (encode_utf8_all cs)) (drop-drop body at n) in
    omega (arith, parts, same, e, h)

pub gap_passed : (body : List ℕ) (at n from bytes : ℕ) (found : List Token) (p : Piece) (shown : List ℕ) → at < length body → shown ≡ drop at body → n ≤ length shown → p ≡ first_piece (get_or shown 0 0) (drop 1 shown) → p ≡ Gap n → bytes ≡ length (encode_utf8_all (take n (drop at body))) → Partly body at from found → Partly body (at + n) (from + bytes) found
unfolding IsLawful
gap_passed body at n from bytes found p shown less shows few found_is gap size h =
    let is : p ≡ first_piece (get_or (drop at body) 0 0) (drop 1 (drop at body)) = found_is ∙ ap (λ t. first_piece (get_or t 0 0) (drop 1 t)) shows in
    let most : n ≤ length (drop at body) = omega (arith, few, ap length shows) in
    let some : 0 < length (drop at body) = omega (arith, length-drop at body) in
    let law : IsLawful (drop at body) (Gap n) = piece_law (drop at body) (Gap n) some (sym gap ∙ is) in
    record {
      within = omega (arith, length-drop at body);
      place = moved body at n from bytes size h.place;
      whole = λ after fit same.
          let w : Widened (drop at body) n after = law.1 after fit (same ∙ sym (drop-drop body at n)) in
          let later : tokens_of from w.pieces ≡ tokens_of (from + bytes) after = w.tokens from ∙ ap (λ k. tokens_of (from + k) after) (sym size) in
          subst (λ ts. AreTokensOf body (found ++ ts)) later (h.whole w.pieces w.fit w.spelled);
    }

pub lexeme_passed : (body : List ℕ) (at n from bytes : ℕ) (found now : List Token) (shape : Shape) (kind : TokenKind) (text : List ℕ) (p : Piece) (shown : List ℕ) → at < length body → shown ≡ drop at body → n ≤ length shown → p ≡ first_piece (get_or shown 0 0) (drop 1 shown) → p ≡ Lexeme shape n → text ≡ encode_utf8_all (take n (drop at body)) → bytes ≡ length text → kind ≡ kind_of shape text → now ≡ found ++ record { kind = kind; text = text; from = from; to = from + bytes } ∷ [] → Partly body at from found → Partly body (at + n) (from + bytes) now
unfolding IsLawful token_of
lexeme_passed body at n from bytes found now shape kind text p shown less shows few found_is lexeme text_is size kind_is grown h =
    let is : p ≡ first_piece (get_or (drop at body) 0 0) (drop 1 (drop at body)) = found_is ∙ ap (λ t. first_piece (get_or t 0 0) (drop 1 t)) shows in
    let most : n ≤ length (drop at body) = omega (arith, few, ap length shows) in
    let some : 0 < length (drop at body) = omega (arith, length-drop at body) in
    let law : IsLawful (drop at body) (Lexeme shape n) = piece_law (drop at body) (Lexeme shape n) some (sym lexeme ∙ is) in
    let cs : List ℕ = take n (drop at body) in
    let the_kind : TokenKind = kind_of shape (encode_utf8_all cs) in
    let bytes_is : bytes ≡ length (encode_utf8_all cs) = size ∙ ap length text_is in
    let token_is : ◌≡◌ {A = Token} (record { kind = kind; text = text; from = from; to = from + bytes }) (token_at from the_kind (encode_utf8_all cs)) =
    ap (λ k. token_of k text from (from + bytes)) (kind_is ∙ ap (kind_of shape) text_is) ∙ ap (λ t. token_of the_kind t from (from + bytes)) text_is ∙ ap (λ b. token_of the_kind (encode_utf8_all cs) from (from + b)) bytes_is in
    record {
      within = omega (arith, length-drop at body);
      place = moved body at n from bytes bytes_is h.place;
      whole = λ after fit same.
          let here : drop n (drop at body) ≡ characters_of after = drop-drop body at n ∙ sym same in
          let all : AreTokensOf body (found ++ tokens_of from (Token_piece the_kind cs after)) = h.whole (Token_piece the_kind cs after) (subst (IsLexeme the_kind cs) here law, fit) (ap (λ t. cs ++ t) (sym here) ∙ take-append-drop n (drop at body)) in
          let later : found ++ tokens_of from (Token_piece the_kind cs after) ≡ now ++ tokens_of (from + bytes) after =
          ap (λ k. found ++ token_at from the_kind (encode_utf8_all cs) ∷ tokens_of (from + k) after) (sym bytes_is)
          ∙ ap (λ t. found ++ t ∷ tokens_of (from + bytes) after) (sym token_is)
          ∙ sym (append_assoc found (record { kind = kind; text = text; from = from; to = from + bytes } ∷ []) (tokens_of (from + bytes) after))
          ∙ ap (λ ts. ts ++ tokens_of (from + bytes) after) (sym grown) in
          subst (AreTokensOf body) later all;
    }

pub ended : (body : List ℕ) (at from : ℕ) (found : List Token) → length body ≤ at → Partly body at from found → AreTokensOf body found
ended body at from found past h =
    let none : [] ≡ drop at body = grind (arith, common_steps) in
    subst (AreTokensOf body) (append-nil found) (h.whole End tt none)

-- the rest of the characters, and a part of them, as the code slices them
pub shown_rest : (body : List ℕ) (at : ℕ) → take (length body - at) (drop at body) ≡ drop at body
shown_rest body at = grind (arith, common_steps)

pub shown_part : (body : List ℕ) (at n : ℕ) → take (at + n - at) (drop at body) ≡ take n (drop at body)
shown_part body at n = let same : at + n - at ≡ n = omega arith in ap (λ k. take k (drop at body)) same

pub part_fits : (body : List ℕ) (at n from : ℕ) (found : List Token) → Partly body at from found → length (encode_utf8_all body) < 2 ^ 32 → from + length (encode_utf8_all (take (at + n - at) (drop at body))) < 2 ^ 32
part_fits body at n from found h short =
    let parts = sizes (drop at body) n in
    let place = h.place in
    let same = ap (λ cs. length (encode_utf8_all cs)) (shown_part body at n) in
    omega (arith, parts, place, same, short)

default_free : (marks : List Bool) (at : ℕ) (x y : Bool) → at < length marks → get_or marks at y ≡ get_or marks at x
default_free [] at x y h = absurd (omega arith)
default_free (m ∷ marks) zero x y h = refl
default_free (m ∷ marks) (suc at) x y h = let less : at < length marks = omega arith in default_free marks at x y less

pub no_comment : (body : List ℕ) (marks : List Bool) (at : ℕ) (mark : Bool) → at < length body → AreMarks body marks → mark ≡ get_or marks at mark → mark ≡ false → comment_end (drop 1 (take (length body - at) (drop at body))) ≡ None
no_comment body marks at mark less are is e =
    let same : drop 1 (take (length body - at) (drop at body)) ≡ drop (at + 1) body = ap (drop 1) (shown_rest body at) ∙ drop-drop body at 1 in
    let here : get_or marks at true ≡ false = default_free marks at mark true (omega (arith, are.count)) ∙ sym is ∙ e in
    ap comment_end same ∙ are.none at less here
