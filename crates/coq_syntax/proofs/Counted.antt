-- The nodes of lists of arguments and of groups, one item after another.
use Rattle.std.proofs.Common.{◌≡◌, ℕ, zero, suc, ◌+◌, ◌-◌, ◌^◌, ◌<◌, ◌≤◌, min, List, [], ◌∷◌, length, get_or, drop, add-one, refl, sym, ◌∙◌, ap, arith}
use Rattle.std.proofs.Math.Seq.{drop-cons}
use Rattle.std.proofs.lemmas.List.{drop_all}
use Rattle.coq_syntax.specs.declared.tree.Group.{Group}
use Rattle.coq_syntax.specs.declared.tree.Argument.{Argument}
use Rattle.coq_syntax.specs.declared.tree.Argument.TheVariants.{Positional, Given}
use Rattle.coq_syntax.specs.Trees.{Arguments, size_of, size_of_arguments, size_of_groups}
use Rattle.coq_syntax.specs.Nodes.{groups_of, with_argument, arguments_of}
use Rattle.coq_syntax.specs.Counts.{capped, argument_term}

-- one item more, or the whole
more : (count inner rest now total : ℕ) → now ≡ capped (capped (capped inner + 1) + count) → capped (count + (1 + inner + rest)) ≡ capped total → capped (now + rest) ≡ capped total
more count inner rest now total e h = omega (arith, e, h)

at_index : {X : Type 0} (xs : List X) (i : ℕ) (x : X) → i < length xs → x ≡ get_or xs i x → drop i xs ≡ x ∷ drop (i + 1) xs
at_index xs i x lt is = drop-cons xs i x lt ∙ ap (λ y. y ∷ drop (suc i) xs) (sym is) ∙ ap (λ n. x ∷ drop n xs) (sym (add-one i))

one_argument : (x : Argument) (after : Arguments) → size_of_arguments (with_argument x after) ≡ 1 + size_of (argument_term x) + size_of_arguments after
one_argument (Positional t) after = refl
one_argument (Given opening name assign value closing) after = refl

pub next_argument : (xs : List Argument) (i count now : ℕ) (x : Argument) → i < length xs → x ≡ get_or xs i x → now ≡ capped (capped (capped (size_of (argument_term x)) + 1) + count)
    → capped (count + size_of_arguments (arguments_of (drop i xs))) ≡ capped (size_of_arguments (arguments_of xs))
    → capped (now + size_of_arguments (arguments_of (drop (i + 1) xs))) ≡ capped (size_of_arguments (arguments_of xs))
next_argument xs i count now x lt is e h =
    let size : size_of_arguments (arguments_of (drop i xs)) ≡ 1 + size_of (argument_term x) + size_of_arguments (arguments_of (drop (i + 1) xs)) =
    ap (λ l. size_of_arguments (arguments_of l)) (at_index xs i x lt is) ∙ one_argument x (arguments_of (drop (i + 1) xs)) in
    more count (size_of (argument_term x)) (size_of_arguments (arguments_of (drop (i + 1) xs))) now (size_of_arguments (arguments_of xs)) e (ap (λ n. capped (count + n)) (sym size) ∙ h)

pub next_group : (xs : List Group) (i count now : ℕ) (x : Group) → i < length xs → x ≡ get_or xs i x → now ≡ capped (capped (capped (size_of x.ty.value) + 1) + count)
    → capped (count + size_of_groups (groups_of (drop i xs))) ≡ capped (size_of_groups (groups_of xs))
    → capped (now + size_of_groups (groups_of (drop (i + 1) xs))) ≡ capped (size_of_groups (groups_of xs))
next_group xs i count now x lt is e h =
    let size : size_of_groups (groups_of (drop i xs)) ≡ 1 + size_of x.ty.value + size_of_groups (groups_of (drop (i + 1) xs)) = ap (λ l. size_of_groups (groups_of l)) (at_index xs i x lt is) in
    more count (size_of x.ty.value) (size_of_groups (groups_of (drop (i + 1) xs))) now (size_of_groups (groups_of xs)) e (ap (λ n. capped (count + n)) (sym size) ∙ h)

pub all_arguments : (xs : List Argument) (i count : ℕ) → length xs ≤ i → count ≤ 2 ^ 64 - 1 → capped (count + size_of_arguments (arguments_of (drop i xs))) ≡ capped (size_of_arguments (arguments_of xs)) → count ≡ capped (size_of_arguments (arguments_of xs))
all_arguments xs i count past small h =
    let none : size_of_arguments (arguments_of (drop i xs)) ≡ 0 = ap (λ l. size_of_arguments (arguments_of l)) (drop_all i xs past) in
    omega (arith, none, h)

pub all_groups : (xs : List Group) (i count : ℕ) → length xs ≤ i → count ≤ 2 ^ 64 - 1 → capped (count + size_of_groups (groups_of (drop i xs))) ≡ capped (size_of_groups (groups_of xs)) → count ≡ capped (size_of_groups (groups_of xs))
all_groups xs i count past small h =
    let none : size_of_groups (groups_of (drop i xs)) ≡ 0 = ap (λ l. size_of_groups (groups_of l)) (drop_all i xs past) in
    omega (arith, none, h)

-- an item is smaller than its list
pub argument_smaller : (xs : List Argument) (i : ℕ) (x : Argument) → i < length xs → x ≡ get_or xs i x → size_of (argument_term x) < size_of_arguments (arguments_of xs)
argument_smaller [] i x lt is = absurd (omega arith)
argument_smaller (y ∷ xs) zero x lt is = let same : size_of (argument_term x) ≡ size_of (argument_term y) = ap (λ z. size_of (argument_term z)) is in omega (arith, same, one_argument y (arguments_of xs))
argument_smaller (y ∷ xs) (suc i) x lt is = omega (arith, argument_smaller xs i x (omega arith) is, one_argument y (arguments_of xs))

pub group_smaller : (xs : List Group) (i : ℕ) (x : Group) → i < length xs → x ≡ get_or xs i x → size_of x.ty.value < size_of_groups (groups_of xs)
group_smaller [] i x lt is = absurd (omega arith)
group_smaller (y ∷ xs) zero x lt is = let same : size_of x.ty.value ≡ size_of y.ty.value = ap (λ z. size_of z.ty.value) is in omega (arith, same)
group_smaller (y ∷ xs) (suc i) x lt is = omega (arith, group_smaller xs i x (omega arith) is)
