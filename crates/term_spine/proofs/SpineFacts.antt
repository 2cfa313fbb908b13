-- Spines are terms, and their measures are those of their parts.
use Rattle.std.specs.Prelude.{Ok, Err, if◌then◌else◌, ◌≡◌, ◌+◌, ◌^◌, ◌≤◌, ◌<◌, max, List, [], ◌∷◌, ◌++◌, length, Bool, true, false, not, refl}
use Rattle.std.proofs.Common.{arith, ap, ◌∙◌, sym, append_assoc}
use Rattle.std.proofs.lemmas.List.{append-nil}
use Rattle.std.proofs.lemmas.Bool.Decides.{nat_tests}
use Rattle.core_term.specs.Tree.{Tree, Var, Sorted, Constant, Prod, Lam, LetIn, App, size_of, depth_of, is_small}
use Rattle.core_term.specs.declared.terms.Node.{Node}
use Rattle.core_term.specs.Nodes.{tree_of}
use Rattle.core_term.specs.declared.terms.Node.TheVariants as node
use Rattle.core_term.specs.declared.stops.TermStop.{TermStop}
use Rattle.core_term.specs.declared.stops.TermStop.TheVariants.{TooLarge, NoMem}
use Rattle.core_term.specs.Answers.{within_limits, Gives}
use Rattle.term_spine.specs.Arguments as row
use Rattle.term_spine.specs.Spines.{GivesSpine}
use Rattle.term_spine.specs.Spine.{head_of, arguments_of, apply_all, IsHead, arguments_size, arguments_depth, are_small}

pub size_applied : (h : Tree) (args : List Tree) → size_of (apply_all h args) ≡ size_of h + arguments_size args
size_applied h [] = omega arith
size_applied h (a ∷ more) = omega (arith, size_applied (App h a) more)

pub depth_applied : (h : Tree) (args : List Tree) → depth_of (apply_all h args) ≡ max (depth_of h + length args) (arguments_depth args)
depth_applied h [] = omega arith
depth_applied h (a ∷ more) = omega (arith, depth_applied (App h a) more)

pub head_applied : (h : Tree) (args : List Tree) → head_of (apply_all h args) ≡ head_of h
head_applied h [] = refl
head_applied h (a ∷ more) = head_applied (App h a) more

pub arguments_applied : (h : Tree) (args : List Tree) → arguments_of (apply_all h args) ≡ arguments_of h ++ args
arguments_applied h [] = sym (append-nil (arguments_of h))
arguments_applied h (a ∷ more) = arguments_applied (App h a) more ∙ append_assoc (arguments_of h) (a ∷ []) more

-- arguments in two rows
pub applied_twice : (h : Tree) (xs ys : List Tree) → apply_all h (xs ++ ys) ≡ apply_all (apply_all h xs) ys
applied_twice h [] ys = refl
applied_twice h (x ∷ xs) ys = applied_twice (App h x) xs ys

-- a term is its head applied to its arguments
pub whole_applied : (t : Tree) → apply_all (head_of t) (arguments_of t) ≡ t
whole_applied (App f a) =
    applied_twice (head_of f) (arguments_of f) (a ∷ []) ∙ ap (λ t. App t a) (whole_applied f)
whole_applied (Var _) = refl
whole_applied (Sorted _) = refl
whole_applied (Constant _) = refl
whole_applied (Prod _ _ _) = refl
whole_applied (Lam _ _ _) = refl
whole_applied (LetIn _ _ _ _) = refl

pub head_is : (h : Tree) → IsHead h → head_of h ≡ h
head_is (App f a) is = absurd is
head_is (Var _) is = refl
head_is (Sorted _) is = refl
head_is (Constant _) is = refl
head_is (Prod _ _ _) is = refl
head_is (Lam _ _ _) is = refl
head_is (LetIn _ _ _ _) is = refl

pub no_arguments : (h : Tree) → IsHead h → arguments_of h ≡ []
no_arguments (App f a) is = absurd is
no_arguments (Var _) is = refl
no_arguments (Sorted _) is = refl
no_arguments (Constant _) is = refl
no_arguments (Prod _ _ _) is = refl
no_arguments (Lam _ _ _) is = refl
no_arguments (LetIn _ _ _ _) is = refl

-- the head of a term is a head
pub is_head : (t : Tree) → IsHead (head_of t)
is_head (App f a) = is_head f
is_head (Var _) = tt
is_head (Sorted _) = tt
is_head (Constant _) = tt
is_head (Prod _ _ _) = tt
is_head (Lam _ _ _) = tt
is_head (LetIn _ _ _ _) = tt

-- what no application is, is a head
pub not_applied : (n : Node) → ((f a : Tree) → n ≡ node.App f a → ⊥) → IsHead (tree_of n)
not_applied (node.App f a) apart = absurd (apart f a refl)
not_applied (node.Var _) apart = tt
not_applied (node.Sorted _) apart = tt
not_applied (node.Constant _) apart = tt
not_applied (node.Prod _ _ _) apart = tt
not_applied (node.Lam _ _ _) apart = tt
not_applied (node.LetIn _ _ _ _) apart = tt

-- each argument stands below those behind it
pub length_depth : (args : List Tree) → length args ≤ arguments_depth args
length_depth [] = omega arith
length_depth (a ∷ more) = omega (arith, length_depth more)

pub too_large_size : (h : Tree) (args : List Tree) → 2 ^ 20 < size_of h + arguments_size args → is_small (apply_all h args) ≡ false
too_large_size h args large = grind (arith, nat_tests, size_applied h args)

pub too_large_depth : (h : Tree) (args : List Tree) → 1000 < max (depth_of h + length args) (arguments_depth args) → is_small (apply_all h args) ≡ false
too_large_depth h args large = grind (arith, nat_tests, depth_applied h args)

pub not_too_large : (h : Tree) (args : List Tree) → size_of h + arguments_size args ≤ 2 ^ 20 → max (depth_of h + length args) (arguments_depth args) ≤ 1000 →
    is_small (apply_all h args) ≡ true
not_too_large h args small shallow = grind (arith, nat_tests, size_applied h args, depth_applied h args)

-- arguments that a limit forbids make each term that is applied to them too large
pub arguments_too_large : (h : Tree) (args : List Tree) → are_small args ≡ false → is_small (apply_all h args) ≡ false
arguments_too_large h args large = grind (arith, nat_tests, size_applied h args, depth_applied h args)

-- so does a term that is too large itself
pub applied_too_large : (h : Tree) (args : List Tree) → is_small h ≡ false → is_small (apply_all h args) ≡ false
applied_too_large h args large = grind (arith, nat_tests, size_applied h args, depth_applied h args)

forbidden : (args : List Tree) → Gives {A = List Tree} (Err TooLarge) (row.within_limits args) → are_small args ≡ false
forbidden args gives =
    elim (are_small args) as (λ b. Gives {A = List Tree} (Err TooLarge) (if b then Ok args else Err TooLarge) → b ≡ false) [ true ↦ λ is. absurd (cc) | false ↦ λ _. refl ] gives

-- arguments that can't be made end the search for a spine
pub spine_stop : (e : TermStop) (h : Tree) (args : List Tree) (t : Tree) → apply_all h args ≡ t → Gives {A = List Tree} (Err e) (row.within_limits args) →
    GivesSpine (Err e) t
spine_stop TooLarge h args t is gives = rw (sym is) (arguments_too_large h args (forbidden args gives))
spine_stop NoMem h args t is gives = tt

too_large : (t : Tree) → Gives {A = Tree} (Err TooLarge) (within_limits t) → is_small t ≡ false
too_large t gives =
    elim (is_small t) as (λ b. Gives {A = Tree} (Err TooLarge) (if b then Ok t else Err TooLarge) → b ≡ false) [ true ↦ λ is. absurd (cc) | false ↦ λ _. refl ] gives

-- a function that can't be made ends the making of its application
pub whole_stop : (e : TermStop) (f : Tree) (args : List Tree) (t : Tree) → apply_all f args ≡ t → Gives {A = Tree} (Err e) (within_limits f) →
    Gives {A = Tree} (Err e) (within_limits t)
whole_stop TooLarge f args t is gives = let large = applied_too_large f args (too_large f gives) in grind (arith, large, is)
whole_stop NoMem f args t is gives = tt

-- a test that answers No tells the other
pub small_is : (small : Bool) (large : Bool) → large ≡ not small → large ≡ false → small ≡ true
small_is true large is answer = refl
small_is false large is answer = absurd (cc)
