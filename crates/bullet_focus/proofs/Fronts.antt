-- Lists from a place on.
use Rattle.std.proofs.Common.{◌≡◌, ℕ, ◌+◌, ◌<◌, ◌≤◌, zero, suc, List, [], ◌∷◌, ◌++◌, length, drop, take, Some, None, refl, sym, ◌∙◌, ap, arith, append_assoc}
use Rattle.std.specs.List.{slice_get}
use Rattle.std.proofs.lemmas.Option.{slice_get_past}

pub get_behind : {X : Type 0} (xs : List X) (s i : ℕ) → slice_get (drop s xs) i ≡ slice_get xs (s + i)
get_behind [] zero i = refl
get_behind [] (suc s) i = refl
get_behind (x ∷ xs) zero i = let e : 0 + i ≡ i = omega arith in rw e refl
get_behind (x ∷ xs) (suc s) i = let e : suc s + i ≡ suc (s + i) = omega arith in rw e (get_behind xs s i)

-- nothing stands at or past the end
pub get_past : {X : Type 0} (xs : List X) (s i : ℕ) → length (drop s xs) ≤ i → slice_get (drop s xs) i ≡ None
get_past xs s i past = slice_get_past (drop s xs) i past

-- from the place of an item on, the list is that item and what is behind it
pub drop_at : {X : Type 0} (xs : List X) (i : ℕ) (x : X) → slice_get xs i ≡ Some x → drop i xs ≡ x ∷ drop (i + 1) xs
drop_at [] i x there = cc
drop_at (y ∷ ys) zero x there = cc
drop_at (y ∷ ys) (suc i) x there = let e : suc i + 1 ≡ suc (i + 1) = omega arith in rw e (drop_at ys i x there)

-- an item below a place is among those before it
pub get_among : {X : Type 0} (xs : List X) (n i : ℕ) (x : X) → slice_get xs i ≡ Some x → i < n → slice_get (take n xs) i ≡ Some x
get_among [] n i x there below = cc
get_among (y ∷ ys) zero i x there below = absurd (omega arith)
get_among (y ∷ ys) (suc n) zero x there below = there
get_among (y ∷ ys) (suc n) (suc i) x there below = get_among ys n i x there (omega arith)

pub drop_taken : {X : Type 0} (xs : List X) (n : ℕ) → drop n (take n xs) ≡ []
drop_taken [] zero = refl
drop_taken [] (suc n) = refl
drop_taken (x ∷ xs) zero = refl
drop_taken (x ∷ xs) (suc n) = drop_taken xs n

-- one item more stands behind the others, and one less is left
pub appended_next : {X : Type 0} (all after goals whole : List X) (i : ℕ) (x : X) → slice_get goals i ≡ Some x → after ≡ all ++ (x ∷ []) → all ++ drop i goals ≡ whole → after ++ drop (i + 1) goals ≡ whole
appended_next {X} all after goals whole i x there more before =
    ap (λ (l : List X). l ++ drop (i + 1) goals) more ∙ append_assoc all (x ∷ []) (drop (i + 1) goals) ∙ ap (λ (l : List X). all ++ l) (sym (drop_at goals i x there)) ∙ before
