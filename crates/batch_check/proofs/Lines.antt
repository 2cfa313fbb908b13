-- Lines, one after another.
use Rattle.std.proofs.Common.{◌≡◌, ℕ, ◌+◌, ◌<◌, List, ◌∷◌, ◌++◌, fold, length, get_or, drop, append_assoc, suc, sym, ◌∙◌, ap, add-one}
use Rattle.std.proofs.Math.Seq.{drop-cons}

-- one more line was added, of those that are joined by a rule
pub lines_more : {X : Type 0} (line : X → List ℕ) (lines : List X → List ℕ) (rule : (x : X) (xs : List X) → lines (x ∷ xs) ≡ line x ++ lines xs) (xs : List X) (i : ℕ) (d : X) (before now whole : List ℕ) → i < length xs → now ≡ before ++ line (get_or xs i d) → before ++ lines (drop i xs) ≡ whole → now ++ lines (drop (i + 1) xs) ≡ whole
lines_more line lines rule xs i d before now whole h grown was =
    let parts : drop i xs ≡ get_or xs i d ∷ drop (suc i) xs = drop-cons xs i d h in
    ap (λ n. now ++ lines (drop n xs)) (add-one i)
    ∙ ap (λ n. n ++ lines (drop (suc i) xs)) grown
    ∙ append_assoc before (line (get_or xs i d)) (lines (drop (suc i) xs))
    ∙ ap (λ l. before ++ l) (sym (ap lines parts ∙ rule (get_or xs i d) (drop (suc i) xs)))
    ∙ was

-- one more item was folded in
pub fold_more : {A B : Type 0} (f : B → A → B) (xs : List A) (i : ℕ) (d : A) (before now whole : B) → i < length xs → now ≡ f before (get_or xs i d) → fold f before (drop i xs) ≡ whole → fold f now (drop (i + 1) xs) ≡ whole
fold_more f xs i d before now whole h grown was =
    ap (λ n. fold f now (drop n xs)) (add-one i)
    ∙ ap (λ b. fold f b (drop (suc i) xs)) grown
    ∙ sym (ap (fold f before) (drop-cons xs i d h))
    ∙ was
