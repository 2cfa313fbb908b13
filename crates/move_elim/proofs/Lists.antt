-- Lists from a place on.
use Rattle.std.specs.Prelude.{◌≡◌, ℕ, zero, suc, ◌+◌, ◌≤◌, List, [], ◌∷◌, length, drop, Some, slice_get, refl}
use Rattle.std.proofs.Common.{ap, arith}

pub from_place : {A : Type 0} (xs : List A) (i : ℕ) (x : A) → Some x ≡ slice_get xs i → drop i xs ≡ x ∷ drop (i + 1) xs
from_place [] i x e = cc
from_place (y ∷ ys) zero x e = let same : y ≡ x = cc in ap (λ z. z ∷ ys) same
from_place (y ∷ ys) (suc i) x e = let k : suc i + 1 ≡ suc (i + 1) = omega arith in rw k (from_place ys i x e)

pub all_behind : {A : Type 0} (xs : List A) (i : ℕ) → length xs ≤ i → drop i xs ≡ []
all_behind [] zero le = refl
all_behind [] (suc i) le = refl
all_behind (x ∷ xs) zero le = absurd (omega (arith, le))
all_behind (x ∷ xs) (suc i) le = all_behind xs i (omega (arith, le))
