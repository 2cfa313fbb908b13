-- Characters and their bytes, one after another.
use Rattle.std.proofs.Common.{◌≡◌, ℕ, ◌+◌, ◌<◌, List, [], ◌∷◌, ◌++◌, length, take, get_or, refl, sym, ◌∙◌, ap, append-nil, add-one, append_assoc, encode_utf8, encode_utf8_all}
use Rattle.std.proofs.Math.Seq.{take-suc}

pub encodes-append : (xs ys : List ℕ) → encode_utf8_all (xs ++ ys) ≡ encode_utf8_all xs ++ encode_utf8_all ys
encodes-append [] ys = refl
encodes-append (c ∷ xs) ys = ap (λ bs. encode_utf8 c ++ bs) (encodes-append xs ys) ∙ sym (append_assoc (encode_utf8 c) (encode_utf8_all xs) (encode_utf8_all ys))

-- a text grows by a character
pub text_grown : (cs : List ℕ) (i c : ℕ) (before now : List ℕ) → i < length cs → c ≡ get_or cs i c → before ≡ encode_utf8_all (take i cs) → now ≡ before ++ encode_utf8 c → now ≡ encode_utf8_all (take (i + 1) cs)
text_grown cs i c before now h e f g =
    let more : take (i + 1) cs ≡ take i cs ++ get_or cs i c ∷ [] = rw add-one (take-suc cs i c h) in
    g ∙ ap (λ b. b ++ encode_utf8 c) f ∙ ap (λ d. encode_utf8_all (take i cs) ++ encode_utf8 d) e
    ∙ ap (λ b. encode_utf8_all (take i cs) ++ b) (sym (append-nil (encode_utf8 (get_or cs i c))))
    ∙ sym (encodes-append (take i cs) (get_or cs i c ∷ []))
    ∙ sym (ap encode_utf8_all more)
