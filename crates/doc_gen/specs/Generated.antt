-- The text that `gen` makes: lemmas about sums of numerals, each proved by computation.
use Rattle.std.specs.Prelude.{ℕ, zero, suc, ◌+◌, ◌%◌, List, [], ◌∷◌, ◌++◌, codes}
use Rattle.std.specs.Fmt.{decimal}

-- pieces one after another
abbrev pub joined : List (List ℕ) → List ℕ
joined [] = []
joined (piece ∷ pieces) = piece ++ joined pieces

-- `Lemma gI : plus A B = C.` and its proof, each on a line
abbrev pub sum_lemma : ℕ → ℕ → ℕ → List ℕ
sum_lemma number left right =
    joined (codes "Lemma g" ∷ decimal number ∷ codes " : plus " ∷ decimal left ∷ codes " " ∷ decimal right ∷ codes " = " ∷ decimal (left + right) ∷ codes ".\nProof. reflexivity. Qed.\n" ∷ [])

-- the lemma of a number, from 0 on
abbrev pub lemma : ℕ → List ℕ
lemma number = sum_lemma number (number % 7) (number % 5)

-- so many lemmas
abbrev pub generated : ℕ → List ℕ
generated zero = []
generated (suc count) = generated count ++ lemma count
