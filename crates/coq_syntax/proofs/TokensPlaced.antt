-- The tokens of a sentence stand between its characters, one behind another, before its period.
use Rattle.std.proofs.Common.{◌≡◌, ℕ, zero, suc, ◌+◌, ◌-◌, ◌<◌, ◌≤◌, List, [], ◌∷◌, ◌++◌, length, take, drop, get_or, slice_range, refl, sym, ◌∙◌, ap, subst, arith, length-append, append_assoc, encode_utf8, encode_utf8_all}
use lib.Utf8.{encode}
use Rattle.std.specs.Str.{IsCharBoundary}
use Rattle.std.proofs.lemmas.Str.{length-encode, len_utf8_bounds}
use Rattle.std.proofs.lemmas.Bool.Decides.{nat_tests}
use Rattle.std.proofs.lemmas.Grind.{common_steps}
use Rattle.sentence_split.specs.Items.{Items, spells}
use Rattle.sentence_split.proofs.Passes.{spells-append}
use Rattle.coq_syntax.specs.declared.token.Token.{Token}
use Rattle.coq_syntax.specs.declared.token.TokenKind.{TokenKind}
use Rattle.coq_syntax.specs.Tokens.{Tokens}
use Rattle.coq_syntax.specs.Lexemes.{IsLexeme}
use Rattle.coq_syntax.specs.Pieces.{Pieces, End, Blank, Comment, Lexeme, characters_of, ArePieces, comment_of, token_at, tokens_of, IsTokenList}
use Rattle.coq_syntax.specs.TokenPlaces.{IsTokenAt, AreTokensBehind, ArePlaced}
use Rattle.coq_syntax.proofs.Runs.{encodes-append}
use Rattle.coq_syntax.proofs.Unique.{no_lexeme}

-- a character begins with a byte that continues none
lead_byte : (c : ℕ) (rest : List ℕ) → 128 ≤ get_or (encode_utf8 c ++ rest) 0 0 → 192 ≤ get_or (encode_utf8 c ++ rest) 0 0
unfolding encode
lead_byte c rest low = grind (arith, nat_tests)

some_bytes : (c : ℕ) → 0 < length (encode_utf8 c)
some_bytes c = let size = length-encode c in let least = (len_utf8_bounds c).0 in omega (arith, size, least)

-- what follows the first bytes, up to the period
with_period : List ℕ → List ℕ
with_period cs = encode_utf8_all cs ++ 46 ∷ []

lead_of : (cs : List ℕ) → 128 ≤ get_or (with_period cs) 0 0 → 192 ≤ get_or (with_period cs) 0 0
unfolding with_period
lead_of [] low = absurd (omega (arith, low))
lead_of (c ∷ cs) low =
    let same : encode_utf8_all (c ∷ cs) ++ 46 ∷ [] ≡ encode_utf8 c ++ (encode_utf8_all cs ++ 46 ∷ []) = append_assoc (encode_utf8 c) (encode_utf8_all cs) (46 ∷ []) in
    subst (λ bs. 192 ≤ get_or bs 0 0) (sym same) (lead_byte c (encode_utf8_all cs ++ 46 ∷ []) (subst (λ bs. 128 ≤ get_or bs 0 0) same low))

get_behind : (front back : List ℕ) → get_or (front ++ back) (length front) 0 ≡ get_or back 0 0
get_behind [] back = refl
get_behind (b ∷ front) back = get_behind front back

seam : (sentence front cs : List ℕ) (at : ℕ) → sentence ≡ front ++ with_period cs → at ≡ length front → IsCharBoundary sentence at
seam sentence front cs at e is =
    let here : get_or sentence at 0 ≡ get_or (with_period cs) 0 0 = ap (λ s. get_or s at 0) e ∙ ap (λ n. get_or (front ++ with_period cs) n 0) is ∙ get_behind front (with_period cs) in
    (omega (arith, is, ap length e, length-append front (with_period cs)), λ lt low. subst (λ b. 192 ≤ b) (sym here) (lead_of cs (subst (λ b. 128 ≤ b) here low)))

-- some characters are passed
past : (sentence front part cs : List ℕ) → sentence ≡ front ++ with_period (part ++ cs) → sentence ≡ (front ++ encode_utf8_all part) ++ with_period cs
unfolding with_period
past sentence front part cs e =
    e ∙ ap (λ bs. front ++ (bs ++ 46 ∷ [])) (encodes-append part cs)
    ∙ ap (λ bs. front ++ bs) (append_assoc (encode_utf8_all part) (encode_utf8_all cs) (46 ∷ []))
    ∙ sym (append_assoc front (encode_utf8_all part) (encode_utf8_all cs ++ 46 ∷ []))

farther : (front part : List ℕ) (at : ℕ) → at ≡ length front → at + length part ≡ length (front ++ part)
farther front part at is = omega (arith, is, length-append front part)

cut_out : (front text back : List ℕ) (at : ℕ) → at ≡ length front → slice_range (front ++ (text ++ back)) at (at + length text) ≡ text
cut_out front text back at is = grind (arith, common_steps)

token_placed : (sentence front cs rest : List ℕ) (kind : TokenKind) (at : ℕ) → sentence ≡ front ++ with_period (cs ++ rest) → at ≡ length front → IsLexeme kind cs rest → IsTokenAt sentence (token_at at kind (encode_utf8_all cs))
unfolding with_period
token_placed sentence front [] rest kind at e is lexeme = absurd (no_lexeme kind rest lexeme)
token_placed sentence front (c ∷ cs) rest kind at e is lexeme =
    let text : List ℕ = encode_utf8_all (c ∷ cs) in
    let behind : sentence ≡ (front ++ text) ++ with_period rest = past sentence front (c ∷ cs) rest e in
    let parts : sentence ≡ front ++ (text ++ with_period rest) = behind ∙ append_assoc front text (with_period rest) in
    record {
      some = omega (arith, some_bytes c, length-append (encode_utf8 c) (encode_utf8_all cs));
      starts = seam sentence front (c ∷ (cs ++ rest)) at e is;
      ends = seam sentence (front ++ text) rest (at + length text) behind (farther front text at is);
      text = ap (λ s. slice_range s at (at + length text)) parts ∙ cut_out front text (with_period rest) at is;
    }

comment_is : (inside : Items) (tail : List ℕ) → 40 ∷ 42 ∷ spells inside (42 ∷ 41 ∷ tail) ≡ comment_of inside ++ tail
comment_is inside tail = ap (λ t. 40 ∷ 42 ∷ t) (spells-append inside (42 ∷ 41 ∷ []) tail)

placed : (sentence : List ℕ) (p : Pieces) (front : List ℕ) (at low : ℕ) → sentence ≡ front ++ with_period (characters_of p) → at ≡ length front → low ≤ at → ArePieces p → AreTokensBehind sentence low (tokens_of at p)
unfolding with_period
placed sentence End front at low e is h fit = omega (arith, is, ap length e, length-append front (46 ∷ []))
placed sentence (Blank c after) front at low e is h fit =
    let here : length (encode_utf8_all (c ∷ [])) ≡ length (encode_utf8 c) = omega (arith, length-append (encode_utf8 c) []) in
    placed sentence after (front ++ encode_utf8_all (c ∷ [])) (at + length (encode_utf8 c)) low (past sentence front (c ∷ []) (characters_of after) e)
    (omega (arith, here, farther front (encode_utf8_all (c ∷ [])) at is)) (omega arith) fit.1
placed sentence (Comment inside after) front at low e is h fit =
    let whole : sentence ≡ front ++ with_period (comment_of inside ++ characters_of after) = e ∙ ap (λ cs. front ++ with_period cs) (comment_is inside (characters_of after)) in
    placed sentence after (front ++ encode_utf8_all (comment_of inside)) (at + length (encode_utf8_all (comment_of inside))) low (past sentence front (comment_of inside) (characters_of after) whole)
    (farther front (encode_utf8_all (comment_of inside)) at is) (omega arith) fit.1
placed sentence (Lexeme kind cs after) front at low e is h fit = (
  h,
  token_placed sentence front cs (characters_of after) kind at e is fit.0,
  placed sentence after (front ++ encode_utf8_all cs) (at + length (encode_utf8_all cs)) (at + length (encode_utf8_all cs)) (past sentence front cs (characters_of after) e)
      (farther front (encode_utf8_all cs) at is) (omega arith) fit.1,
)

pub list_placed : (sentence : List ℕ) (tokens : Tokens) → IsTokenList sentence tokens → ArePlaced sentence tokens
unfolding with_period
list_placed sentence tokens list =
    subst (AreTokensBehind sentence 0) (sym list.items_are) (placed sentence list.pieces [] 0 0 list.spelled refl (omega arith) list.fit)
