-- Types made of parameters: what is too large, and names that stand twice.
use Rattle.std.specs.Prelude.{◌≡◌, ℕ, zero, suc, ◌+◌, ◌≤◌, ◌<◌, ◌-◌, List, [], ◌∷◌, length, drop, Bool, true, false, Result, Ok, Err, if◌then◌else◌, refl}
use Rattle.std.proofs.Common.{arith, ap, sym, ◌∙◌, subst, drop-cons, get_or}
use Rattle.std.proofs.lemmas.Bool.Decides.{nat_tests}
use Rattle.core_term.specs.Tree.{Tree, Var, Sorted, Constant, Prod, Lam, LetIn, App, IsTerm, size_of, depth_of, is_small}
use Rattle.core_term.specs.Answers.{within_limits, Gives}
use Rattle.core_term.specs.declared.stops.TermStop.{TermStop}
use Rattle.core_term.specs.declared.stops.TermStop.TheVariants.{TooLarge, NoMem}
use Rattle.core_term.proofs.Bounds.{bounded-term}
use Rattle.cic_rules.specs.declared.context.Hyp.{Hyp}
use Rattle.cic_rules.specs.Contexts.{products_over}
use Rattle.base_core.specs.declared.refusals.Stop.{Stop}
use Rattle.base_core.specs.declared.refusals.Stop.TheVariants.{Out}
use Rattle.base_core.specs.declared.refusals.Limit.TheVariants.{SizeLimit}
use Rattle.term_spine.specs.Spine.{count_products}
use Rattle.cic_rules.specs.declared.decls.InductiveDecl.{InductiveDecl}
use Rattle.cic_rules.specs.Families.{count_params, count_indices}
use Rattle.cic_rules.specs.Eliminators.{has_name, type_of_decl}
use Rattle.inductive_check.specs.Steps.{sized}
use Rattle.cic_rules.specs.Inductive.{has_twice}

pub term_within : (t u : Tree) → IsTerm t → t ≡ u → Ok t ≡ within_limits u
term_within t u is e = subst (λ x. Ok t ≡ within_limits x) e (sym (bounded-term t is))

pub too_large : (t : Tree) → Gives {A = Tree} (Err TooLarge) (within_limits t) → is_small t ≡ false
too_large t gives =
    elim (is_small t) as (λ b. Gives {A = Tree} (Err TooLarge) (if b then Ok t else Err TooLarge) → b ≡ false) [ true ↦ λ is. absurd (cc) | false ↦ λ _. refl ] gives

-- a part that is too large ends the making of the whole
pub stopped : (stop : TermStop) (part whole : Tree) → (is_small part ≡ false → is_small whole ≡ false) → Gives {A = Tree} (Err stop) (within_limits part) →
    Gives {A = Tree} (Err stop) (within_limits whole)
stopped TooLarge part whole large gives = let big = large (too_large part gives) in rw big refl
stopped NoMem part whole large gives = tt

pub large_more : (t u : Tree) → size_of t ≤ size_of u → depth_of t ≤ depth_of u → is_small t ≡ false → is_small u ≡ false
large_more t u size depth large = grind (arith, nat_tests)

same_by : (b : Bool) (x t : Tree) → ◌≡◌ {A = Result Tree TermStop} (Ok x) (if b then Ok t else Err TooLarge) → x ≡ t
same_by true x t e = cc
same_by false x t e = cc

-- what was made is the term
pub same_term : (x t : Tree) → Ok x ≡ within_limits t → x ≡ t
same_term x t e = same_by (is_small t) x t e

over_size : (at : ℕ) (hs : List Hyp) (t : Tree) → size_of (products_over (drop at hs) t) ≤ size_of (products_over hs t)
over_size zero hs t = omega arith
over_size (suc at) [] t = omega arith
over_size (suc at) (h ∷ hs) t = let rest = over_size at hs t in omega (arith, rest)

over_depth : (at : ℕ) (hs : List Hyp) (t : Tree) → depth_of (products_over (drop at hs) t) ≤ depth_of (products_over hs t)
over_depth zero hs t = omega arith
over_depth (suc at) [] t = omega arith
over_depth (suc at) (h ∷ hs) t = let rest = over_depth at hs t in omega (arith, rest)

-- a product over one of the parameters that can't be made
pub over_stop : (stop : TermStop) (at : ℕ) (hs : List Hyp) (t part : Tree) → part ≡ products_over (drop at hs) t →
    Gives {A = Tree} (Err stop) (within_limits part) → Gives {A = Tree} (Err stop) (within_limits (products_over hs t))
over_stop stop at hs t part e gives =
    stopped stop part (products_over hs t)
    (λ large. large_more (products_over (drop at hs) t) (products_over hs t) (over_size at hs t) (over_depth at hs t) (ap is_small (sym e) ∙ large)) gives

-- names
second_true : (b c : Bool) → c ≡ true → (if b then true else c) ≡ true
second_true true c e = refl
second_true false c e = e

pub twice_behind : (at : ℕ) (ns : List (List ℕ)) → has_twice (drop at ns) ≡ true → has_twice ns ≡ true
twice_behind zero ns e = e
twice_behind (suc at) [] e = e
twice_behind (suc at) (n ∷ ns) e = second_true (has_name ns n) (has_twice ns) (twice_behind at ns e)

pub twice_here : (n : List ℕ) (ns : List (List ℕ)) → has_name ns n ≡ true → has_twice (n ∷ ns) ≡ true
twice_here n ns e = ap (λ b. if b then true else has_twice ns) e

pub twice_not : (n : List ℕ) (ns : List (List ℕ)) → has_name ns n ≡ false → has_twice ns ≡ false → has_twice (n ∷ ns) ≡ false
twice_not n ns e f = ap (λ b. if b then true else has_twice ns) e ∙ f

-- one more parameter in front
pub over_part : (at : ℕ) (hs : List Hyp) (h : Hyp) (t whole : Tree) → 0 < at → at ≤ length hs → h ≡ get_or hs (at - 1) h →
    whole ≡ products_over (drop at hs) t → Prod h.name h.ty whole ≡ products_over (drop (at - 1) hs) t
over_part at hs h t whole some within is made =
    let lt : at - 1 < length hs = omega (arith, some, within) in
    let next : suc (at - 1) ≡ at = omega (arith, some) in
    let split : drop (at - 1) hs ≡ h ∷ drop at hs =
    drop-cons hs (at - 1) h lt ∙ ap (λ x. x ∷ drop (suc (at - 1)) hs) (sym is) ∙ ap (λ n. h ∷ drop n hs) next in
    ap (Prod h.name h.ty) made ∙ ap (λ xs. products_over xs t) (sym split)

pub twice_at : (at : ℕ) (ns : List (List ℕ)) (n : List ℕ) (behind : List (List ℕ)) → 0 < at → at ≤ length ns → n ≡ get_or ns (at - 1) n →
    behind ≡ drop at ns → has_name behind n ≡ true → true ≡ has_twice ns
twice_at at ns n behind some within is same has =
    let lt : at - 1 < length ns = omega (arith, some, within) in
    let next : suc (at - 1) ≡ at = omega (arith, some) in
    let split : drop (at - 1) ns ≡ n ∷ drop at ns =
    drop-cons ns (at - 1) n lt ∙ ap (λ x. x ∷ drop (suc (at - 1)) ns) (sym is) ∙ ap (λ k. n ∷ drop k ns) next in
    let here : has_name (drop at ns) n ≡ true = ap (λ xs. has_name xs n) (sym same) ∙ has in
    sym (twice_behind (at - 1) ns (ap has_twice split ∙ twice_here n (drop at ns) here))

-- a type that is not too large has few parameters and indices
products_depth : (t : Tree) → count_products t ≤ depth_of t
products_depth (Prod n a b) = let rest = products_depth b in omega (arith, rest)
products_depth (Var _) = omega arith
products_depth (Sorted _) = omega arith
products_depth (Constant _) = omega arith
products_depth (Lam _ _ _) = omega arith
products_depth (LetIn _ _ _ _) = omega arith
products_depth (App _ _) = omega arith

over_count : (hs : List Hyp) (t : Tree) → length hs + count_products t ≤ depth_of (products_over hs t)
over_count [] t = let rest = products_depth t in omega (arith, rest)
over_count (h ∷ hs) t = let rest = over_count hs t in omega (arith, rest)

shallow_by : (b : Bool) (x t : Tree) → ◌≡◌ {A = Result Tree Stop} (Ok x) (if b then Ok t else Err (Out SizeLimit)) → b ≡ true
shallow_by true x t e = refl
shallow_by false x t e = cc

pub counts_small : (d : InductiveDecl) (ty : Tree) → Ok ty ≡ sized (type_of_decl d) → count_params d + count_indices d ≤ 1000
counts_small d ty e =
    let small : is_small (type_of_decl d) ≡ true = shallow_by (is_small (type_of_decl d)) ty (type_of_decl d) e in
    let count = over_count d.params d.arity in
    let shallow : depth_of (type_of_decl d) ≤ 1000 = grind (arith, nat_tests, small) in
    omega (arith, count, shallow)

-- items of a list from a place on
pub split_at : {A : Type 0} (xs : List A) (i : ℕ) (x : A) → i < length xs → x ≡ get_or xs i x → drop i xs ≡ x ∷ drop (i + 1) xs
split_at xs i x lt is =
    let one : suc i ≡ i + 1 = omega arith in
    drop-cons xs i x lt ∙ ap (λ y. y ∷ drop (suc i) xs) (sym is) ∙ ap (λ n. x ∷ drop n xs) one

pub none_behind : {A : Type 0} (xs : List A) (i : ℕ) → length xs ≤ i → drop i xs ≡ []
none_behind [] zero le = refl
none_behind [] (suc i) le = refl
none_behind (x ∷ xs) zero le = absurd (omega (arith, le))
none_behind (x ∷ xs) (suc i) le = none_behind xs i (omega (arith, le))
