-- Items of a list, at a place or elsewhere.
use Rattle.std.proofs.Common.{◌≡◌, ℕ, zero, suc, ◌<◌, ◌≤◌, ◌⊎◌, inl, inr, ⊎_elim, Bool, true, false, nat_lt, None, Some, if◌then◌else◌, List, [], ◌∷◌, ◌++◌, length, get_or, length-set, get_or-set_same, lt-ltb, arith, refl, sym, ap, ◌∙◌}
use Rattle.std.specs.Prelude.{Contains, position}
use Rattle.std.specs.List.{remove, slice_set, position_or_len}
use Rattle.std.proofs.lemmas.Bool.{cases_lt}
use Rattle.std.proofs.lemmas.List.Sums.{fails_before_first}

module _ {X : Type 0} where
  pub contains_later : (x : X) (xs : List X) (y : X) → Contains xs y → Contains (x ∷ xs) y
  contains_later x xs y h = (suc h.0, omega (arith, h.1), h.2)

  contains_first : (x : X) (xs : List X) → Contains (x ∷ xs) x
  contains_first x xs = (zero, omega arith, refl)

  -- an item is the one at a place, or it stays where that one is another or is taken away
  abbrev StaysBeside : List X → ℕ → X → Type 0
  StaysBeside xs place y = Contains (remove xs place) y × ((z : X) → Contains (slice_set xs place z) y)

  pub here_or_beside : (xs : List X) (place : ℕ) (d y : X) → Contains xs y → (y ≡ get_or xs place d) ⊎ StaysBeside xs place y
  here_or_beside [] place d y h = absurd (omega (arith, h.1))
  here_or_beside (x ∷ xs) zero d y h = by h.0 h.1 h.2 where
    by : (k : ℕ) → k < length (x ∷ xs) → get_or (x ∷ xs) k y ≡ y → (y ≡ x) ⊎ StaysBeside (x ∷ xs) zero y
    by zero within is = inl (sym is)
    by (suc k) within is = let rest : Contains xs y = (k, omega (arith, within), is) in inr (rest, λ z. contains_later z xs y rest)
  here_or_beside (x ∷ xs) (suc place) d y h = by (here_or_beside xs place d y) h.0 h.1 h.2 where
    by : (Contains xs y → (y ≡ get_or xs place d) ⊎ StaysBeside xs place y) → (k : ℕ) → k < length (x ∷ xs) → get_or (x ∷ xs) k y ≡ y → (y ≡ get_or xs place d) ⊎ StaysBeside (x ∷ xs) (suc place) y
    by later zero within is = inr ((zero, omega arith, is), λ z. (zero, omega arith, is))
    by later (suc k) within is =
        ⊎_elim (λ e. inl e) (λ h. inr (contains_later x (remove xs place) y h.0, λ z. contains_later x (slice_set xs place z) y (h.1 z)))
        (later (k, omega (arith, within), is))

  pub contains_set : (xs : List X) (place : ℕ) (z : X) → place < length xs → Contains (slice_set xs place z) z
  contains_set xs place z within = (place, omega (arith, within, length-set xs place z), get_or-set_same xs place z z within)

  pub set_last : (xs : List X) (y z : X) → slice_set (xs ++ y ∷ []) (length xs) z ≡ xs ++ z ∷ []
  set_last [] y z = refl
  set_last (x ∷ xs) y z = ap (λ rest. x ∷ rest) (set_last xs y z)

  -- where no item passes a test
  pub none_passes : (p : X → Bool) (xs : List X) (d : X) → position p xs ≡ None → (k : ℕ) → k < length xs → p (get_or xs k d) ≡ false
  none_passes p xs d none k within = ⊎_elim some all (cases_lt (position_or_len p xs) (length xs)) where
    some : position_or_len p xs < length xs → p (get_or xs k d) ≡ false
    some less =
        let test : nat_lt (position_or_len p xs) (length xs) ≡ true = lt-ltb (position_or_len p xs) (length xs) less in
        let found : (Some (position_or_len p xs)) ≡ None = sym (ap (λ b. if b then Some (position_or_len p xs) else None) test) ∙ none in
        cc

    all : length xs ≤ position_or_len p xs → p (get_or xs k d) ≡ false
    all far = fails_before_first p xs k d (omega (arith, within, far))
