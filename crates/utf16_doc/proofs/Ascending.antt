-- The ends of lines ascend, and how many are at most an offset.
use Rattle.std.proofs.Common.{◌≡◌, ℕ, ◌+◌, ◌<◌, ◌≤◌, Bool, cond, true, false, leb, List, [], ◌∷◌, length, get_or, zero, suc, refl, sym, ◌∙◌, ap, subst, arith}
use Rattle.std.specs.List.{count_by, AllWithin}
use Rattle.std.specs.List.Sorted.{IsNonDecreasing, IsPartitionPoint}
use Rattle.std.proofs.lemmas.List.Sums.{sum_by-cons}
use Rattle.std.proofs.lemmas.Bool.Decides.{nat_tests}
use Rattle.utf16_doc.specs.Lines.{ends_line, line_ends}
use Rattle.utf16_doc.specs.Positions.{line_at, line_start}

-- each is above the one before, and the first above a number
pub Ascends : ℕ → List ℕ → Type 0
Ascends low [] = Unit {0}
Ascends low (x ∷ xs) = (low < x) × Ascends x xs

ascends_lower : (low lower : ℕ) (xs : List ℕ) → lower ≤ low → Ascends low xs → Ascends lower xs
unfolding Ascends
ascends_lower low lower [] h up = tt
ascends_lower low lower (x ∷ xs) h up = (omega (arith, up.0), up.1)

ends_from : (t : Bool) (at : ℕ) (xs : List ℕ) → Ascends (at + 1) xs → Ascends at (cond t ((at + 1) ∷ xs) xs)
unfolding Ascends
ends_from true at xs up = (omega arith, up)
ends_from false at xs up = ascends_lower (at + 1) at xs (omega arith) up

pub line_ends-ascend : (at : ℕ) (text : List ℕ) → Ascends at (line_ends at text)
unfolding Ascends
line_ends-ascend at [] = tt
line_ends-ascend at (b ∷ rest) = ends_from (ends_line b rest) at (line_ends (at + 1) rest) (line_ends-ascend (at + 1) rest)

pub above : (low : ℕ) (xs : List ℕ) (k d : ℕ) → Ascends low xs → k < length xs → low < get_or xs k d
unfolding Ascends
above low [] k d up h = absurd (omega arith)
above low (x ∷ xs) zero d up h = up.0
above low (x ∷ xs) (suc k) d up h = let more = above x xs k d up.1 (omega arith) in omega (arith, up.0, more)

rising : (low : ℕ) (xs : List ℕ) → Ascends low xs → IsNonDecreasing xs
unfolding Ascends
rising low [] up i j d le lt = absurd (omega arith)
rising low (x ∷ xs) up zero zero d le lt = omega arith
rising low (x ∷ xs) up zero (suc j) d le lt = let more = above x xs j d up.1 (omega arith) in omega (arith, more)
rising low (x ∷ xs) up (suc i) zero d le lt = absurd (omega arith)
rising low (x ∷ xs) up (suc i) (suc j) d le lt = rising x xs up.1 i j d (omega arith) (omega arith)

pub line_ends-rise : (text : List ℕ) → IsNonDecreasing (line_ends 0 text)
line_ends-rise text = rising 0 (line_ends 0 text) (line_ends-ascend 0 text)

count-cons : (p : ℕ → Bool) (x : ℕ) (xs : List ℕ) → count_by p (x ∷ xs) ≡ cond (p x) 1 0 + count_by p xs
count-cons p x xs = sum_by-cons (λ y. cond (p y) 1 0) x xs

-- so many pass as come before the place from which none passes
count_of : (p : ℕ → Bool) (xs : List ℕ) (i : ℕ) → i ≤ length xs → AllWithin (λ y. p y ≡ true) xs 0 i → AllWithin (λ y. p y ≡ false) xs i (length xs) → count_by p xs ≡ i
count_of p [] i h passing failing = omega arith
count_of p (x ∷ xs) zero h passing failing =
    let fails : p x ≡ false = failing 0 0 (omega arith) (omega arith) in
    let rest : count_by p xs ≡ 0 = count_of p xs 0 (omega arith) (λ k d low high. absurd (omega arith)) (λ k d low high. failing (suc k) d (omega arith) (omega arith)) in
    count-cons p x xs ∙ ap (λ b. cond b 1 0 + count_by p xs) fails ∙ omega (arith, rest)
count_of p (x ∷ xs) (suc i) h passing failing =
    let passes : p x ≡ true = passing 0 0 (omega arith) (omega arith) in
    let rest : count_by p xs ≡ i = count_of p xs i (omega arith) (λ k d low high. passing (suc k) d (omega arith) (omega arith)) (λ k d low high. failing (suc k) d (omega arith) (omega arith)) in
    count-cons p x xs ∙ ap (λ b. cond b 1 0 + count_by p xs) passes ∙ omega (arith, rest)

pub count_of_point : (p : ℕ → Bool) (xs : List ℕ) (i : ℕ) → i ≤ length xs → IsPartitionPoint (λ y. p y ≡ true) (λ y. p y ≡ false) xs i → i ≡ count_by p xs
count_of_point p xs i h point = sym (count_of p xs i h point.0 point.1)

-- no line ends beyond the text
fewer : (t : Bool) (at n : ℕ) (xs : List ℕ) → length xs ≤ n → length (cond t (at ∷ xs) xs) ≤ n + 1
fewer true at n xs h = omega arith
fewer false at n xs h = omega arith

pub length-line_ends : (at : ℕ) (text : List ℕ) → length (line_ends at text) ≤ length text
length-line_ends at [] = omega arith
length-line_ends at (b ∷ rest) = let more = fewer (ends_line b rest) (at + 1) (length rest) (line_ends (at + 1) rest) (length-line_ends (at + 1) rest) in omega (arith, more)

-- a line starts at or before each offset on it
none_up_to : (low offset : ℕ) (xs : List ℕ) → offset ≤ low → Ascends low xs → count_by (λ end. leb end offset) xs ≡ 0
unfolding Ascends
none_up_to low offset [] h up = refl
none_up_to low offset (x ∷ xs) h up =
    let above : offset < x = omega (arith, up.0) in
    let fails : leb x offset ≡ false = grind (arith, nat_tests) in
    count-cons (λ end. leb end offset) x xs ∙ ap (λ b. cond b 1 0 + count_by (λ end. leb end offset) xs) fails ∙ omega (arith, none_up_to x offset xs (omega arith) up.1)

start_cases : (t : Bool) (low x offset : ℕ) (xs : List ℕ) → leb x offset ≡ t → low ≤ offset → Ascends x xs → (x ≤ offset → get_or (x ∷ xs) (count_by (λ end. leb end offset) xs) 0 ≤ offset) → get_or (low ∷ (x ∷ xs)) (count_by (λ end. leb end offset) (x ∷ xs)) 0 ≤ offset
start_cases true low x offset xs e h up more =
    let below : x ≤ offset = grind (arith, nat_tests) in
    let count : count_by (λ end. leb end offset) (x ∷ xs) ≡ suc (count_by (λ end. leb end offset) xs) = count-cons (λ end. leb end offset) x xs ∙ ap (λ b. cond b 1 0 + count_by (λ end. leb end offset) xs) e ∙ omega arith in
    subst (λ n. get_or (low ∷ (x ∷ xs)) n 0 ≤ offset) (sym count) (more below)
start_cases false low x offset xs e h up more =
    let over : offset < x = grind (arith, nat_tests) in
    let none : count_by (λ end. leb end offset) xs ≡ 0 = none_up_to x offset xs (omega arith) up in
    let count : count_by (λ end. leb end offset) (x ∷ xs) ≡ 0 = count-cons (λ end. leb end offset) x xs ∙ ap (λ b. cond b 1 0 + count_by (λ end. leb end offset) xs) e ∙ omega (arith, none) in
    subst (λ n. get_or (low ∷ (x ∷ xs)) n 0 ≤ offset) (sym count) h

start_of_count : (low offset : ℕ) (xs : List ℕ) → low ≤ offset → Ascends low xs → get_or (low ∷ xs) (count_by (λ end. leb end offset) xs) 0 ≤ offset
unfolding Ascends
start_of_count low offset [] h up = h
start_of_count low offset (x ∷ xs) h up = start_cases (leb x offset) low x offset xs refl h up.1 (λ below. start_of_count x offset xs below up.1)

pub line_start-le : (text : List ℕ) (offset : ℕ) → line_start text (line_at text offset) ≤ offset
line_start-le text offset = start_of_count 0 offset (line_ends 0 text) (omega arith) (line_ends-ascend 0 text)
