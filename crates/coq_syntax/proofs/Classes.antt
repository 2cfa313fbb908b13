-- The classes of characters don't overlap.
use Rattle.std.proofs.Common.{◌≡◌, ℕ, ◌<◌, Bool, true, false, eqb, ◌||◌, ◌&&◌, refl, sym, ◌∙◌, ap, subst, arith, lit<}
use Rattle.std.specs.Char.{is_ascii_alphabetic}
use Rattle.std.proofs.lemmas.Bool.Decides.{nat_tests}
use Rattle.unicode_ident.proofs.IdentLemmas.{is_xid_start-ascii}
use Rattle.sentence_split.specs.Items.{is_blank}
use Rattle.coq_syntax.specs.Characters.{starts_word, is_digit, is_mark, is_pair}

-- none of the classes that are tried before symbols
pub record Signed (c : ℕ) : Type 0 where
  pub blank : is_blank c ≡ false
  pub word : starts_word c ≡ false
  pub digit : is_digit c ≡ false
  pub quote : eqb c 34 ≡ false

pub not_word : (c : ℕ) → c < 128 → (is_ascii_alphabetic c || eqb c 95) ≡ false → starts_word c ≡ false
not_word c h e = ap (λ t. t || eqb c 95) (is_xid_start-ascii c h) ∙ e

is : (c k : ℕ) → eqb c k ≡ true → c ≡ k
is c k e = grind (arith, nat_tests)

either : (o t : Bool) (P : Type 0) → (o ≡ true → P) → (t ≡ true → P) → (o || t) ≡ true → P
either true t P f g h = f refl
either false t P f g h = g h

no_word_at : (c k : ℕ) → starts_word k ≡ false → eqb c k ≡ true → starts_word c ≡ false
no_word_at c k h e = subst (λ x. starts_word x ≡ false) (sym (is c k e)) h

blank_no_word : (c : ℕ) → is_blank c ≡ true → starts_word c ≡ false
blank_no_word c =
    either (eqb c 32 || eqb c 9 || eqb c 13) (eqb c 10) (starts_word c ≡ false)
    (either (eqb c 32 || eqb c 9) (eqb c 13) (starts_word c ≡ false)
    (either (eqb c 32) (eqb c 9) (starts_word c ≡ false) (no_word_at c 32 (not_word 32 (lit< tt) refl)) (no_word_at c 9 (not_word 9 (lit< tt) refl)))
    (no_word_at c 13 (not_word 13 (lit< tt) refl)))
    (no_word_at c 10 (not_word 10 (lit< tt) refl))

clash : true ≡ false → ⊥
clash e = cc

word_cases : (t : Bool) (c : ℕ) → is_blank c ≡ t → starts_word c ≡ true → is_blank c ≡ false
word_cases true c e h = absurd (clash (sym h ∙ blank_no_word c e))
word_cases false c e h = e

pub word_no_blank : (c : ℕ) → starts_word c ≡ true → is_blank c ≡ false
word_no_blank c h = word_cases (is_blank c) c refl h

pub digit_no_blank : (c : ℕ) → is_digit c ≡ true → is_blank c ≡ false
digit_no_blank c h = grind (arith, nat_tests)

digit_no_letter : (c : ℕ) → is_digit c ≡ true → (is_ascii_alphabetic c || eqb c 95) ≡ false
digit_no_letter c h = grind (arith, nat_tests)

digit_small : (c : ℕ) → is_digit c ≡ true → c < 128
digit_small c h = grind (arith, nat_tests)

pub digit_no_word : (c : ℕ) → is_digit c ≡ true → starts_word c ≡ false
digit_no_word c h = not_word c (digit_small c h) (digit_no_letter c h)

at : (c k : ℕ) → Signed k → eqb c k ≡ true → Signed c
at c k h e = subst Signed (sym (is c k e)) h

sign : (k : ℕ) → k < 128 → (is_ascii_alphabetic k || eqb k 95) ≡ false → is_blank k ≡ false → is_digit k ≡ false → eqb k 34 ≡ false → Signed k
sign k h a b d q = record { blank = b; word = not_word k h a; digit = d; quote = q }

two : (o : Bool) (c k : ℕ) → Signed k → (o ≡ true → Signed c) → (o || eqb c k) ≡ true → Signed c
two o c k h more = either o (eqb c k) (Signed c) more (at c k h)

pub mark_signed : (c : ℕ) → is_mark c ≡ true → Signed c
mark_signed c =
    two (eqb c 40 || eqb c 41 || eqb c 91 || eqb c 93 || eqb c 123 || eqb c 125 || eqb c 44 || eqb c 58 || eqb c 61 || eqb c 126 || eqb c 124 || eqb c 64) c 46 (sign 46 (lit< tt) refl refl refl refl)
    (two (eqb c 40 || eqb c 41 || eqb c 91 || eqb c 93 || eqb c 123 || eqb c 125 || eqb c 44 || eqb c 58 || eqb c 61 || eqb c 126 || eqb c 124) c 64 (sign 64 (lit< tt) refl refl refl refl)
    (two (eqb c 40 || eqb c 41 || eqb c 91 || eqb c 93 || eqb c 123 || eqb c 125 || eqb c 44 || eqb c 58 || eqb c 61 || eqb c 126) c 124 (sign 124 (lit< tt) refl refl refl refl)
    (two (eqb c 40 || eqb c 41 || eqb c 91 || eqb c 93 || eqb c 123 || eqb c 125 || eqb c 44 || eqb c 58 || eqb c 61) c 126 (sign 126 (lit< tt) refl refl refl refl)
    (two (eqb c 40 || eqb c 41 || eqb c 91 || eqb c 93 || eqb c 123 || eqb c 125 || eqb c 44 || eqb c 58) c 61 (sign 61 (lit< tt) refl refl refl refl)
    (two (eqb c 40 || eqb c 41 || eqb c 91 || eqb c 93 || eqb c 123 || eqb c 125 || eqb c 44) c 58 (sign 58 (lit< tt) refl refl refl refl)
    (two (eqb c 40 || eqb c 41 || eqb c 91 || eqb c 93 || eqb c 123 || eqb c 125) c 44 (sign 44 (lit< tt) refl refl refl refl)
    (two (eqb c 40 || eqb c 41 || eqb c 91 || eqb c 93 || eqb c 123) c 125 (sign 125 (lit< tt) refl refl refl refl)
    (two (eqb c 40 || eqb c 41 || eqb c 91 || eqb c 93) c 123 (sign 123 (lit< tt) refl refl refl refl)
    (two (eqb c 40 || eqb c 41 || eqb c 91) c 93 (sign 93 (lit< tt) refl refl refl refl)
    (two (eqb c 40 || eqb c 41) c 91 (sign 91 (lit< tt) refl refl refl refl)
    (two (eqb c 40) c 41 (sign 41 (lit< tt) refl refl refl refl) (at c 40 (sign 40 (lit< tt) refl refl refl refl)))))))))))))

-- the first character of a symbol of two, which is no `(`
pub record Paired (c : ℕ) : Type 0 where
  pub signed : Signed c
  pub unopened : eqb c 40 ≡ false

paired : (k : ℕ) → Signed k → eqb k 40 ≡ false → Paired k
paired k s u = record { signed = s; unopened = u }

first_of_two : (a b : Bool) → (a && b) ≡ true → a ≡ true
first_of_two true b h = refl
first_of_two false b h = h

at_pair : (c k : ℕ) (b : Bool) → Paired k → (eqb c k && b) ≡ true → Paired c
at_pair c k b h e = subst Paired (sym (is c k (first_of_two (eqb c k) b e))) h

more_pair : (o : Bool) (c k : ℕ) (b : Bool) → Paired k → (o ≡ true → Paired c) → (o || (eqb c k && b)) ≡ true → Paired c
more_pair o c k b h more = either o (eqb c k && b) (Paired c) more (at_pair c k b h)

pub pair_signed : (c d : ℕ) → is_pair c d ≡ true → Paired c
pair_signed c d =
    more_pair ((eqb c 58 && eqb d 61) || (eqb c 61 && eqb d 62) || (eqb c 45 && eqb d 62) || (eqb c 60 && eqb d 45) || (eqb c 47 && eqb d 92)) c 92 (eqb d 47) (paired 92 (sign 92 (lit< tt) refl refl refl refl) refl)
    (more_pair ((eqb c 58 && eqb d 61) || (eqb c 61 && eqb d 62) || (eqb c 45 && eqb d 62) || (eqb c 60 && eqb d 45)) c 47 (eqb d 92) (paired 47 (sign 47 (lit< tt) refl refl refl refl) refl)
    (more_pair ((eqb c 58 && eqb d 61) || (eqb c 61 && eqb d 62) || (eqb c 45 && eqb d 62)) c 60 (eqb d 45) (paired 60 (sign 60 (lit< tt) refl refl refl refl) refl)
    (more_pair ((eqb c 58 && eqb d 61) || (eqb c 61 && eqb d 62)) c 45 (eqb d 62) (paired 45 (sign 45 (lit< tt) refl refl refl refl) refl)
    (more_pair (eqb c 58 && eqb d 61) c 61 (eqb d 62) (paired 61 (sign 61 (lit< tt) refl refl refl refl) refl)
    (at_pair c 58 (eqb d 61) (paired 58 (sign 58 (lit< tt) refl refl refl refl) refl))))))

pub signed_quote : starts_word 34 ≡ false
signed_quote = not_word 34 (lit< tt) refl

pub open_signed : Signed 40
open_signed = sign 40 (lit< tt) refl refl refl refl
