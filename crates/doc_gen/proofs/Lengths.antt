-- How long a generated text is.
use Rattle.std.proofs.Common.{◌≡◌, ℕ, Result, Ok, Err, IfOk, subst, zero, suc, ◌+◌, ◌*◌, ◌%◌, ◌<◌, ◌≤◌, List, [], ◌∷◌, length, length-append, codes, sym, ◌∙◌, arith, lit<}
use Rattle.std.specs.Fmt.{decimal}
use Rattle.std.proofs.lemmas.Fmt.{length-decimal-le}
use Rattle.doc_gen.specs.Generated.{joined, sum_lemma, lemma, generated}

-- a list with one more piece in front
joined_short : (piece : List ℕ) (pieces : List (List ℕ)) (a b : ℕ) → length piece ≤ a → length (joined pieces) ≤ b → length (joined (piece ∷ pieces)) ≤ a + b
joined_short piece pieces a b h g = omega (arith, h, g, length-append piece (joined pieces))

-- a lemma whose numerals have so many digits
sum_short : (number left right sum : List ℕ) → length number ≤ 4 → length left ≤ 1 → length right ≤ 1 → length sum ≤ 2 → length (joined (codes "Lemma g" ∷ number ∷ codes " : plus " ∷ left ∷ codes " " ∷ right ∷ codes " = " ∷ sum ∷ codes ".\nProof. reflexivity. Qed.\n" ∷ [])) ≤ 64
sum_short number left right sum a b c d = grind (arith, length-append)

sum_lemma_short : (number left right : ℕ) → number < 10000 → left < 10 → right < 10 → length (sum_lemma number left right) ≤ 64
sum_lemma_short number left right n l r =
    let a : length (decimal number) ≤ 4 = length-decimal-le 4 number (lit< tt) n (omega (arith, n)) in
    let b : length (decimal left) ≤ 1 = length-decimal-le 1 left (lit< tt) l (omega (arith, l)) in
    let c : length (decimal right) ≤ 1 = length-decimal-le 1 right (lit< tt) r (omega (arith, r)) in
    let d : length (decimal (left + right)) ≤ 2 = length-decimal-le 2 (left + right) (lit< tt) (omega (arith, l, r)) (omega (arith, l, r)) in
    sum_short (decimal number) (decimal left) (decimal right) (decimal (left + right)) a b c d

pub generated_short : (count : ℕ) → count ≤ 2000 → length (generated count) ≤ 64 * count
generated_short zero h = omega arith
generated_short (suc count) h =
    let one = sum_lemma_short count (count % 7) (count % 5) (omega (arith, h)) (omega arith) (omega arith) in
    omega (arith, one, generated_short count (omega (arith, h)), length-append (generated count) (lemma count))

-- the same of a text that was made, or not for want of memory
pub made_short : {E : Type 0} (made : Result (List ℕ) E) (text : List ℕ) (count : ℕ) → IfOk made (λ t. t ≡ text) → text ≡ generated count → count ≤ 2000 → IfOk made (λ t. length t ≤ 64 * count)
made_short (Ok t) text count is same h = subst (λ x. length x ≤ 64 * count) (sym (is ∙ same)) (generated_short count h)
made_short (Err e) text count is same h = tt
