-- The union of two lists of places, a step at a time.
use Rattle.std.specs.Prelude.{◌≡◌, ◌⊎◌, Bool, ℕ, zero, suc, ◌+◌, ◌<◌, ◌≤◌, nat_lt, nat_le, List, [], ◌∷◌, ◌++◌, length, true, false, if◌then◌else◌, min, refl}
use Rattle.std.proofs.Common.{arith, ap, sym, ◌∙◌, inl, inr, drop, get_or}
use Rattle.std.proofs.lemmas.Bool.{cases_order}
use Rattle.std.proofs.lemmas.List.{drop_more, drop_all, append-nil, append_assoc}
use Rattle.std.proofs.lemmas.Bool.Decides.{nat_tests}
use Rattle.cic_rules.specs.Infer.{merge_in, union}

-- turns that are enough give one list
merge_more : (k m : ℕ) (us vs : List ℕ) → length us + length vs ≤ k → length us + length vs ≤ m → merge_in k us vs ≡ merge_in m us vs
merge_more k m [] vs enough also = refl
merge_more k m (u ∷ us) [] enough also = refl
merge_more zero m (u ∷ us) (v ∷ vs) enough also = absurd (omega arith)
merge_more (suc k) zero (u ∷ us) (v ∷ vs) enough also = absurd (omega arith)
merge_more (suc k) (suc m) (u ∷ us) (v ∷ vs) enough also =
    cc (merge_more k m us (v ∷ vs) (omega arith) (omega arith), merge_more k m (u ∷ us) vs (omega arith) (omega arith), merge_more k m us vs (omega arith) (omega arith))

unfolded : (u v : ℕ) (us vs : List ℕ) →
    union (u ∷ us) (v ∷ vs) ≡ (if nat_lt u v then u ∷ union us (v ∷ vs) else (if nat_lt v u then v ∷ union (u ∷ us) vs else u ∷ union us vs))
unfolded u v us vs =
    merge_more _ (suc (suc (length us + length vs))) (u ∷ us) (v ∷ vs) (omega arith) (omega arith)
    ∙ cc (
      merge_more (suc (length us + length vs)) (length us + length (v ∷ vs)) us (v ∷ vs) (omega arith) (omega arith),
      merge_more (suc (length us + length vs)) (length (u ∷ us) + length vs) (u ∷ us) vs (omega arith) (omega arith),
      merge_more (suc (length us + length vs)) (length us + length vs) us vs (omega arith) (omega arith),
    )

pub union_less : (u v : ℕ) (us vs : List ℕ) → u < v → union (u ∷ us) (v ∷ vs) ≡ u ∷ union us (v ∷ vs)
union_less u v us vs less = let step = unfolded u v us vs in grind (arith, nat_tests)

pub union_more : (u v : ℕ) (us vs : List ℕ) → v < u → union (u ∷ us) (v ∷ vs) ≡ v ∷ union (u ∷ us) vs
union_more u v us vs more = let step = unfolded u v us vs in grind (arith, nat_tests)

pub union_same : (u v : ℕ) (us vs : List ℕ) → u ≡ v → union (u ∷ us) (v ∷ vs) ≡ u ∷ union us vs
union_same u v us vs same = let step = unfolded u v us vs in grind (arith, nat_tests)

-- a step takes the least place from each list that begins with it
pub union_step : (u v : ℕ) (us vs : List ℕ) → union (u ∷ us) (v ∷ vs) ≡ min u v ∷ union (if nat_le u v then us else u ∷ us) (if nat_le v u then vs else v ∷ vs)
union_step u v us vs =
    let step = unfolded u v us vs in
    elim (cases_order u v) [
      | inl same ↦ grind (arith, nat_tests, step)
      | inr apart ↦ elim apart [ inl less ↦ grind (arith, nat_tests, step) | inr more ↦ grind (arith, nat_tests, step) ]
    ]

pub union_none : (us : List ℕ) → union us [] ≡ us
union_none [] = refl
union_none (u ∷ us) = refl

drop_if : (b : Bool) (xs : List ℕ) (i : ℕ) → i < length xs → drop (i + (if b then 1 else 0)) xs ≡ (if b then drop (i + 1) xs else get_or xs i 0 ∷ drop (i + 1) xs)
drop_if true xs i within = refl
drop_if false xs i within = let same : i + 0 ≡ i = omega arith in ap (λ n. drop n xs) same ∙ drop_more xs i 0 within

-- the same at two places of two lists
pub union_at : (us vs : List ℕ) (i j : ℕ) → i < length us → j < length vs →
    union (drop i us) (drop j vs)
    ≡ min (get_or us i 0) (get_or vs j 0)
    ∷ union (drop (i + (if nat_le (get_or us i 0) (get_or vs j 0) then 1 else 0)) us) (drop (j + (if nat_le (get_or vs j 0) (get_or us i 0) then 1 else 0)) vs)
union_at us vs i j left right =
    cc (
      drop_more us i 0 left,
      drop_more vs j 0 right,
      union_step (get_or us i 0) (get_or vs j 0) (drop (i + 1) us) (drop (j + 1) vs),
      drop_if (nat_le (get_or us i 0) (get_or vs j 0)) us i left,
      drop_if (nat_le (get_or vs j 0) (get_or us i 0)) vs j right,
    )

-- where one of them is at its end, the other follows
pub union_rest : (us vs : List ℕ) (i j : ℕ) → (length us ≤ i) ⊎ (length vs ≤ j) → union (drop i us) (drop j vs) ≡ drop i us ++ drop j vs
union_rest us vs i j (inl past) = let none = drop_all i us past in ap (λ xs. union xs (drop j vs)) none ∙ sym (ap (λ xs. xs ++ drop j vs) none)
union_rest us vs i j (inr past) = let none = drop_all j vs past in ap (λ xs. union (drop i us) xs) none ∙ (union_none (drop i us) ∙ sym (ap (λ xs. drop i us ++ xs) none ∙ append-nil (drop i us)))

-- one turn of the walk through both lists
pub union_kept : (us vs done more : List ℕ) (i j p a b : ℕ) → i < length us → j < length vs → done ++ union (drop i us) (drop j vs) ≡ union us vs →
    p ≡ min (get_or us i 0) (get_or vs j 0) → a ≡ (if nat_le (get_or us i 0) (get_or vs j 0) then 1 else 0) →
    b ≡ (if nat_le (get_or vs j 0) (get_or us i 0) then 1 else 0) → more ≡ done ++ (p ∷ []) → more ++ union (drop (i + a) us) (drop (j + b) vs) ≡ union us vs
union_kept us vs done more i j p a b left right same least first second pushed =
    let step = union_at us vs i j left right in
    let rest = union (drop (i + a) us) (drop (j + b) vs) in
    ap (λ xs. xs ++ rest) pushed ∙ (append_assoc done (p ∷ []) rest ∙ (ap (λ xs. done ++ xs) (cc (step, least, first, second)) ∙ same))

-- and its end
pub union_ended : (us vs done all : List ℕ) (i j : ℕ) → (length us ≤ i) ⊎ (length vs ≤ j) → done ++ union (drop i us) (drop j vs) ≡ union us vs →
    all ≡ (done ++ drop i us) ++ drop j vs → all ≡ union us vs
union_ended us vs done all i j past same is =
    is ∙ (append_assoc done (drop i us) (drop j vs) ∙ (ap (λ xs. done ++ xs) (sym (union_rest us vs i j past)) ∙ same))
