-- Runs of characters, and the tokens that they are.
use Rattle.std.proofs.Common.{◌≡◌, ℕ, ◌+◌, ◌<◌, ◌≤◌, Bool, true, false, cond, eqb, not, List, [], ◌∷◌, ◌++◌, length, take, drop, suc, refl, sym, ap, subst, arith, encode_utf8_all}
use Rattle.std.specs.List.{prefix_len, AllPass}
use Rattle.std.proofs.lemmas.Bool.Decides.{nat_tests}
use Rattle.std.proofs.lemmas.List.Elements.{All-nil, All-cons}
use Rattle.sentence_split.specs.Items.{HasNoQuote}
use Rattle.coq_syntax.specs.declared.token.TokenKind.TheVariants.{Identifier, Wildcard, Reserved}
use Rattle.coq_syntax.specs.declared.pieces.Shape.TheVariants.{Word}
use Rattle.coq_syntax.specs.Characters.{is_wildcard, is_reserved}
use Rattle.coq_syntax.specs.Lexemes.{Stops, IsWord, IsLexeme}
use Rattle.coq_syntax.specs.Scan.{kind_of}

-- a longest run passes, and stops
pub record Ran (class : ℕ → Bool) (xs : List ℕ) (n : ℕ) : Type 0 where
  pub pass : AllPass class (take n xs)
  pub stop : Stops class (drop n xs)

ran_more : (class : ℕ → Bool) (t : Bool) (x : ℕ) (xs : List ℕ) → class x ≡ t → Ran class xs (prefix_len class xs) → Ran class (x ∷ xs) (cond t (1 + prefix_len class xs) 0)
ran_more class true x xs e r =
    let one : 1 + prefix_len class xs ≡ suc (prefix_len class xs) = omega arith in
    subst (Ran class (x ∷ xs)) (sym one) (record { pass = All-cons (λ c. class c ≡ true) x (take (prefix_len class xs) xs) e r.pass; stop = r.stop })
ran_more class false x xs e r = record { pass = All-nil (λ c. class c ≡ true); stop = e }

pub ran : (class : ℕ → Bool) (xs : List ℕ) → Ran class xs (prefix_len class xs)
ran class [] = record { pass = All-nil (λ c. class c ≡ true); stop = tt }
ran class (x ∷ xs) = ran_more class (class x) x xs refl (ran class xs)

unquote : ℕ → Bool
unquote c = not (eqb c 34)

-- the characters before a quote, and the quote
pub record Quoting (xs : List ℕ) (n : ℕ) : Type 0 where
  pub unquoted : HasNoQuote (take n xs)
  pub closed : n < length xs → take (n + 1) xs ≡ take n xs ++ 34 ∷ []
  pub open_end : length xs ≤ n → HasNoQuote xs

quote_is : (c : ℕ) → eqb c 34 ≡ true → c ≡ 34
quote_is c e = grind (arith, nat_tests)

quoting_more : (t : Bool) (x : ℕ) (xs : List ℕ) (n : ℕ) → eqb x 34 ≡ t → Quoting xs n → Quoting (x ∷ xs) (cond (not t) (1 + n) 0)
quoting_more true x xs n e q = record { unquoted = tt; closed = λ h. ap (λ c. c ∷ []) (quote_is x e); open_end = λ h. absurd (omega arith) }
quoting_more false x xs n e q =
    let one : 1 + n ≡ suc n = omega arith in
    let two : suc n + 1 ≡ suc (n + 1) = omega arith in
    subst (Quoting (x ∷ xs)) (sym one) (record {
      unquoted = (e, q.unquoted);
      closed = λ h. let less : n < length xs = omega arith in rw two (ap (λ t. x ∷ t) (q.closed less));
      open_end = λ h. let less : length xs ≤ n = omega arith in (e, q.open_end less);
    })

pub quoting : (xs : List ℕ) → Quoting xs (prefix_len (λ c. not (eqb c 34)) xs)
quoting [] = record { unquoted = tt; closed = λ h. absurd (omega arith); open_end = λ h. tt }
quoting (x ∷ xs) = quoting_more (eqb x 34) x xs (prefix_len (λ c. not (eqb c 34)) xs) refl (quoting xs)

word_kind : (a b : Bool) (w rest : List ℕ) → is_wildcard (encode_utf8_all w) ≡ a → is_reserved (encode_utf8_all w) ≡ b → IsWord w rest → IsLexeme (cond a Wildcard (cond b Reserved Identifier)) w rest
word_kind true b w rest e f h = (h, e)
word_kind false true w rest e f h = (h, f)
word_kind false false w rest e f h = (h, e, f)

pub word_lexeme : (w rest : List ℕ) → IsWord w rest → IsLexeme (kind_of Word (encode_utf8_all w)) w rest
word_lexeme w rest h = word_kind (is_wildcard (encode_utf8_all w)) (is_reserved (encode_utf8_all w)) w rest refl refl h
