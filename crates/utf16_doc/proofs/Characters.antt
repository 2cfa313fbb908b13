-- The units of a character, by its bytes in UTF-8.
use lib.Utf8.{encode, next}
use Rattle.std.proofs.Common.{◌≡◌, ℕ, ◌+◌, ◌*◌, ◌/◌, ◌%◌, ◌<◌, ◌≤◌, Bool, cond, true, false, ltb, List, [], ◌∷◌, length, refl, ◌∙◌, arith}
use Rattle.std.specs.List.{sum_by}
use Rattle.std.proofs.lemmas.Bool.Decides.{nat_tests}
use Rattle.utf16_doc.specs.declared.encoding.Encoding.{Encoding}
use Rattle.utf16_doc.specs.declared.encoding.Encoding.TheVariants.{Utf8, Utf16}
use Rattle.utf16_doc.specs.Units.{units_of}

-- a byte behind the first
none : (encoding : Encoding) (bits : ℕ) → units_of encoding (next bits) ≡ 0
none Utf8 bits = grind (arith, nat_tests)
none Utf16 bits = grind (arith, nat_tests)

ascii : (encoding : Encoding) (b : ℕ) → b < 128 → units_of encoding b ≡ 1
ascii Utf8 b h = grind (arith, nat_tests)
ascii Utf16 b h = grind (arith, nat_tests)

first_of_two : (b : ℕ) → 192 ≤ b → b < 224 → (units_of Utf8 b ≡ 2) × (units_of Utf16 b ≡ 1)
first_of_two b low high = (grind (arith, nat_tests), grind (arith, nat_tests))

first_of_three : (b : ℕ) → 224 ≤ b → b < 240 → (units_of Utf8 b ≡ 3) × (units_of Utf16 b ≡ 1)
first_of_three b low high = (grind (arith, nat_tests), grind (arith, nat_tests))

first_of_four : (b : ℕ) → 240 ≤ b → (units_of Utf8 b ≡ 4) × (units_of Utf16 b ≡ 2)
first_of_four b low = (grind (arith, nat_tests), grind (arith, nat_tests))

sum_one : (encoding : Encoding) (b : ℕ) → sum_by (units_of encoding) (b ∷ []) ≡ units_of encoding b
sum_one encoding b = omega arith

sum_two : (encoding : Encoding) (b x : ℕ) → sum_by (units_of encoding) (b ∷ next x ∷ []) ≡ units_of encoding b
sum_two encoding b x = omega (arith, none encoding x)

sum_three : (encoding : Encoding) (b x y : ℕ) → sum_by (units_of encoding) (b ∷ next x ∷ next y ∷ []) ≡ units_of encoding b
sum_three encoding b x y = omega (arith, none encoding x, none encoding y)

sum_four : (encoding : Encoding) (b x y z : ℕ) → sum_by (units_of encoding) (b ∷ next x ∷ next y ∷ next z ∷ []) ≡ units_of encoding b
sum_four encoding b x y z = omega (arith, none encoding x, none encoding y, none encoding z)

bytes_of : Bool → Bool → Bool → ℕ → List ℕ
bytes_of x y z c = cond x (c ∷ []) (cond y ((192 + c / 64) ∷ next c ∷ []) (cond z ((224 + c / 4096) ∷ next (c / 64) ∷ next c ∷ []) ((240 + c / 262144) ∷ next (c / 4096) ∷ next (c / 64) ∷ next c ∷ [])))

bytes_by : (x y z : Bool) (c : ℕ) → ltb c 128 ≡ x → ltb c 2048 ≡ y → ltb c 65536 ≡ z → sum_by (units_of Utf8) (bytes_of x y z c) ≡ length (bytes_of x y z c)
unfolding bytes_of
bytes_by true y z c a b d = let small : c < 128 = grind (arith, nat_tests, a) in sum_one Utf8 c ∙ ascii Utf8 c small
bytes_by false true z c a b d =
    let h : c < 2048 = grind (arith, nat_tests, b) in
    sum_two Utf8 (192 + c / 64) c ∙ (first_of_two (192 + c / 64) (omega arith) (omega (arith, h))).0
bytes_by false false true c a b d =
    let h : c < 65536 = grind (arith, nat_tests, d) in
    sum_three Utf8 (224 + c / 4096) (c / 64) c ∙ (first_of_three (224 + c / 4096) (omega arith) (omega (arith, h))).0
bytes_by false false false c a b d = sum_four Utf8 (240 + c / 262144) (c / 4096) (c / 64) c ∙ (first_of_four (240 + c / 262144) (omega arith)).0

pub units_are_bytes : (c : ℕ) → sum_by (units_of Utf8) (encode c) ≡ length (encode c)
unfolding encode bytes_of
units_are_bytes c = bytes_by (ltb c 128) (ltb c 2048) (ltb c 65536) c refl refl refl

one_by : (x y z : Bool) (c : ℕ) → c < 65536 → ltb c 128 ≡ x → ltb c 2048 ≡ y → ltb c 65536 ≡ z → sum_by (units_of Utf16) (bytes_of x y z c) ≡ 1
unfolding bytes_of
one_by true y z c low a b d = let small : c < 128 = grind (arith, nat_tests, a) in sum_one Utf16 c ∙ ascii Utf16 c small
one_by false true z c low a b d =
    let h : c < 2048 = grind (arith, nat_tests, b) in
    sum_two Utf16 (192 + c / 64) c ∙ (first_of_two (192 + c / 64) (omega arith) (omega (arith, h))).1
one_by false false true c low a b d = sum_three Utf16 (224 + c / 4096) (c / 64) c ∙ (first_of_three (224 + c / 4096) (omega arith) (omega (arith, low))).1
one_by false false false c low a b d = absurd (grind (arith, nat_tests, d, low))

pub one_unit : (c : ℕ) → c < 65536 → sum_by (units_of Utf16) (encode c) ≡ 1
unfolding encode bytes_of
one_unit c low = one_by (ltb c 128) (ltb c 2048) (ltb c 65536) c low refl refl refl

two_by : (x y z : Bool) (c : ℕ) → 65536 ≤ c → ltb c 128 ≡ x → ltb c 2048 ≡ y → ltb c 65536 ≡ z → sum_by (units_of Utf16) (bytes_of x y z c) ≡ 2
unfolding bytes_of
two_by true y z c high a b d = absurd (grind (arith, nat_tests, a, high))
two_by false true z c high a b d = absurd (grind (arith, nat_tests, b, high))
two_by false false true c high a b d = absurd (grind (arith, nat_tests, d, high))
two_by false false false c high a b d = sum_four Utf16 (240 + c / 262144) (c / 4096) (c / 64) c ∙ (first_of_four (240 + c / 262144) (omega arith)).1

pub two_units : (c : ℕ) → 65536 ≤ c → sum_by (units_of Utf16) (encode c) ≡ 2
unfolding encode bytes_of
two_units c high = two_by (ltb c 128) (ltb c 2048) (ltb c 65536) c high refl refl refl
