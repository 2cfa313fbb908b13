-- How deep a tree is whose sides balance each other.
use Rattle.std.proofs.Common.{◌≡◌, ℕ, ◌+◌, ◌*◌, ◌^◌, ◌<◌, ◌≤◌, max, inl, inr, add-one, lit<, arith}
use Rattle.std.proofs.Math.Nat.{pow-suc, pow-le-pow_right, mul-le-mul_right}
use Rattle.std.proofs.lemmas.Bool.{cases_lt}
use Rattle.shared_map.specs.Balance.{AreBalanced}

scaled : (l r p q : ℕ) → l + 1 ≤ 3 * (r + 1) → q ≤ (l + 1) * p → q * 4 ≤ (l + r + 1 + 1) * (p * 3)
scaled l r p q even h = omega (arith, h, mul-le-mul_right p even)

-- one level above the heavier side
heavier : (l r d : ℕ) → l + 1 ≤ 3 * (r + 1) → 4 ^ d ≤ (l + 1) * 3 ^ d → 4 ^ (d + 1) ≤ (l + r + 1 + 1) * 3 ^ (d + 1)
heavier l r d even h = rw (add-one, pow-suc 4 d, pow-suc 3 d) (scaled l r (3 ^ d) (4 ^ d) even h)

pub logarithmic_above : (l r d e : ℕ) → AreBalanced l r → 4 ^ d ≤ (l + 1) * 3 ^ d → 4 ^ e ≤ (r + 1) * 3 ^ e → 4 ^ (max d e + 1) ≤ (l + r + 1 + 1) * 3 ^ (max d e + 1)
logarithmic_above l r d e even h k = elim (cases_lt d e) [
  | inl below ↦ let is : max d e ≡ e = omega arith in let turned : r + l ≡ l + r = omega arith in rw is (rw turned at (heavier r l e even.1 k))
  | inr above ↦ let is : max d e ≡ d = omega arith in rw is (heavier l r d even.0 h)
]

-- two sides that a level holds, and the item between them
held : (l r d e : ℕ) → d ≤ e → l < 2 ^ d → r < 2 ^ e → l + r + 1 < 2 ^ (e + 1)
held l r d e le h k =
    let wider : 2 ^ d ≤ 2 ^ e = pow-le-pow_right (lit< tt) le in
    let next : 2 ^ (e + 1) ≡ 2 ^ e * 2 = rw add-one (pow-suc 2 e) in
    omega (arith, next)

pub enough_above : (l r d e : ℕ) → l < 2 ^ d → r < 2 ^ e → l + r + 1 < 2 ^ (max d e + 1)
enough_above l r d e h k = elim (cases_lt d e) [
  | inl below ↦ let is : max d e ≡ e = omega arith in rw is (held l r d e (omega arith) h k)
  | inr above ↦ let is : max d e ≡ d = omega arith in let turned : r + l ≡ l + r = omega arith in rw is (rw turned at (held r l e d above k h))
]
