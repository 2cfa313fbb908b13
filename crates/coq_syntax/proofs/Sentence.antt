-- A sentence: the characters before its period, and the period.
use Rattle.std.proofs.Common.{◌≡◌, ℕ, ◌-◌, ◌<◌, ◌^◌, List, [], ◌∷◌, ◌++◌, length, take, sym, ◌∙◌, ap, arith, length-append, encode_utf8_all, slice_range}
use Rattle.std.proofs.lemmas.Grind.{common_steps}
use Rattle.std.specs.Str.{IsUtf8, chars}
use Rattle.std.proofs.lemmas.Str.{encodes-chars}
use Rattle.coq_syntax.specs.declared.token.Token.{Token}
use Rattle.coq_syntax.specs.Tokens.{Tokens}
use Rattle.coq_syntax.specs.Pieces.{AreTokensOf, IsTokenList}

cut_front : (front : List ℕ) (n : ℕ) → n ≡ length front → take (n - 0) (front ++ 46 ∷ []) ≡ front
cut_front front n e = grind (arith, common_steps)

-- the bytes of the characters before the period
pub bytes_before : (sentence front shown cs : List ℕ) → sentence ≡ front ++ 46 ∷ [] → shown ≡ slice_range sentence 0 (length sentence - 1) → IsUtf8 shown → cs ≡ chars shown → encode_utf8_all cs ≡ front
bytes_before sentence front shown cs parts shows utf8 e =
    let size : length sentence - 1 ≡ length front = omega (arith, ap length parts, length-append front (46 ∷ [])) in
    let cut : slice_range sentence 0 (length sentence - 1) ≡ front = ap (λ t. take (length sentence - 1 - 0) t) parts ∙ cut_front front (length sentence - 1) size in
    ap encode_utf8_all e ∙ encodes-chars shown utf8 ∙ shows ∙ cut

pub bytes_fit : (sentence front cs : List ℕ) → sentence ≡ front ++ 46 ∷ [] → encode_utf8_all cs ≡ front → length sentence < 2 ^ 32 → length (encode_utf8_all cs) < 2 ^ 32
bytes_fit sentence front cs parts e h = omega (arith, ap length parts, length-append front (46 ∷ []), ap length e, h)

pub listed : (sentence front cs : List ℕ) (items : List Token) (tokens : Tokens) → sentence ≡ front ++ 46 ∷ [] → encode_utf8_all cs ≡ front → AreTokensOf cs items → tokens.items ≡ items → tokens.period ≡ length sentence - 1 → IsTokenList sentence tokens
listed sentence front cs items tokens parts e found same period = record {
  pieces = found.pieces;
  fit = found.fit;
  spelled = parts ∙ ap (λ t. t ++ 46 ∷ []) (sym e ∙ ap encode_utf8_all found.spelled);
  items_are = same ∙ found.tokens_are;
  period_is = omega (arith, period, ap length parts, length-append front (46 ∷ []));
}
