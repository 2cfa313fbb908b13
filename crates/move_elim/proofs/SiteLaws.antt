-- Values that are the variables of binders.
use Rattle.std.specs.Prelude.{◌≡◌, ℕ, zero, suc, ◌+◌, ◌-◌, ◌^◌, ◌≤◌, nat_le, nat_lt, List, [], ◌∷◌, length, Bool, true, false, Option, Some, None, slice_get, slice_set, Ok, Err, if◌then◌else◌, refl}
use Rattle.std.proofs.Common.{arith, ap, sym, ◌∙◌, subst}
use Rattle.std.proofs.lemmas.Bool.Decides.{nat_tests}
use Rattle.core_term.specs.Answers.{within_limits}
use Rattle.core_term.specs.declared.stops.TermStop.TheVariants.{TooLarge}
use Rattle.core_term.proofs.Bounds.{bounded-term}
use Rattle.core_term.specs.Places.{lift_of}
use Rattle.core_term.specs.Tree.{Tree, Var, Sorted, Constant, Prod, Lam, LetIn, App, IsTerm, IsNumbered, size_of, depth_of, is_small}
use Rattle.term_spine.specs.SpineLaws.{AreOver, AreShallow}
use Rattle.term_spine.specs.Instantiate.{instantiated_variable, instantiate_under}
use Rattle.term_spine.proofs.Instantiations.{instantiate_numbered}
use Rattle.cic_rules.specs.Scopes.{AreBefore, AreScoped}
use Rattle.cic_rules.proofs.ScopeLaws.{scoped_free}
use Rattle.move_elim.specs.declared.sites.Site.{Site}
use Rattle.move_elim.specs.Sites.{variable_at, values_at, site_values, levels_of, stand_for}
use Rattle.move_elim.specs.Scopes.{IsSite, MayPlace}

pub values_length : (depth : ℕ) (ls : List ℕ) → length (values_at depth ls) ≡ length ls
values_length depth [] = refl
values_length depth (l ∷ ls) = ap suc (values_length depth ls)

value_got : (depth : ℕ) (ls : List ℕ) (k l : ℕ) → slice_get ls k ≡ Some l → slice_get (values_at depth ls) k ≡ Some (variable_at depth l)
value_got depth [] k l e = cc
value_got depth (x ∷ xs) zero l e = let same : x ≡ l = cc in ap (λ y. Some (variable_at depth y)) same
value_got depth (x ∷ xs) (suc k) l e = value_got depth xs k l e

value_missed : (depth : ℕ) (ls : List ℕ) (k : ℕ) → slice_get ls k ≡ None → slice_get (values_at depth ls) k ≡ None
value_missed depth [] k e = refl
value_missed depth (x ∷ xs) zero e = cc
value_missed depth (x ∷ xs) (suc k) e = value_missed depth xs k e

not_below : (i binders : ℕ) → binders ≤ i → nat_lt i binders ≡ false
not_below i binders le = grind (arith, nat_tests, le)

lift_var : (i by : ℕ) → lift_of (Var i) by 0 ≡ Var (i + by)
lift_var i by = let all : nat_le 0 i ≡ true = grind (arith, nat_tests) in ap (λ b. Var (if b then i + by else i)) all

-- the variable that a variable becomes
pub variable_found : (depth : ℕ) (ls : List ℕ) (i binders l : ℕ) → binders ≤ i → slice_get ls (i - binders) ≡ Some l →
    instantiate_under (values_at depth ls) (Var i) binders ≡ Var (depth - 1 - l + binders)
variable_found depth ls i binders l le e =
    ap (λ b. if b then Var i else instantiated_variable (slice_get (values_at depth ls) (i - binders)) i (length (values_at depth ls)) binders) (not_below i binders le)
    ∙ ap (λ v. instantiated_variable v i (length (values_at depth ls)) binders) (value_got depth ls (i - binders) l e)
    ∙ lift_var (depth - 1 - l) binders

pub variable_none : (depth : ℕ) (ls : List ℕ) (i binders : ℕ) → binders ≤ i → slice_get ls (i - binders) ≡ None →
    instantiate_under (values_at depth ls) (Var i) binders ≡ Var (i - length ls)
variable_none depth ls i binders le e =
    ap (λ b. if b then Var i else instantiated_variable (slice_get (values_at depth ls) (i - binders)) i (length (values_at depth ls)) binders) (not_below i binders le)
    ∙ ap (λ v. instantiated_variable v i (length (values_at depth ls)) binders) (value_missed depth ls (i - binders) e)
    ∙ ap (λ n. Var (i - n)) (values_length depth ls)

-- a variable becomes a variable
one_by : (depth : ℕ) (ls : List ℕ) (k i count binders : ℕ) (found : Option ℕ) → found ≡ slice_get ls k →
    (size_of (instantiated_variable (slice_get (values_at depth ls) k) i count binders) ≡ 1)
    × (depth_of (instantiated_variable (slice_get (values_at depth ls) k) i count binders) ≡ 1)
one_by depth ls k i count binders None e =
    let got = ap (λ v. instantiated_variable v i count binders) (value_missed depth ls k (sym e)) in (ap size_of got, ap depth_of got)
one_by depth ls k i count binders (Some l) e =
    let got = ap (λ v. instantiated_variable v i count binders) (value_got depth ls k l (sym e)) in (ap size_of got, ap depth_of got)

one : (b : Bool) (t : Tree) (i : ℕ) → (size_of t ≡ 1) × (depth_of t ≡ 1) → (size_of (if b then Var i else t) ≡ 1) × (depth_of (if b then Var i else t) ≡ 1)
one true t i is = (refl, refl)
one false t i is = is

-- so a term stays as large, and as deep
same_measures : (depth : ℕ) (ls : List ℕ) (t : Tree) (binders : ℕ) →
    (size_of (instantiate_under (values_at depth ls) t binders) ≡ size_of t)
    × (depth_of (instantiate_under (values_at depth ls) t binders) ≡ depth_of t)
same_measures depth ls (Var i) binders =
    one (nat_lt i binders) _ i (one_by depth ls (i - binders) i (length (values_at depth ls)) binders (slice_get ls (i - binders)) refl)
same_measures depth ls (Sorted s) binders = (refl, refl)
same_measures depth ls (Constant c) binders = (refl, refl)
same_measures depth ls (Prod n a b) binders =
    let first = same_measures depth ls a binders in let second = same_measures depth ls b (binders + 1) in (cc (first.0, second.0), cc (first.1, second.1))
same_measures depth ls (Lam n a b) binders =
    let first = same_measures depth ls a binders in let second = same_measures depth ls b (binders + 1) in (cc (first.0, second.0), cc (first.1, second.1))
same_measures depth ls (LetIn n a t b) binders =
    let first = same_measures depth ls a binders in let second = same_measures depth ls t binders in let third = same_measures depth ls b (binders + 1) in
    (cc (first.0, second.0, third.0), cc (first.1, second.1, third.1))
same_measures depth ls (App f a) binders =
    let first = same_measures depth ls f binders in let second = same_measures depth ls a binders in (cc (first.0, second.0), cc (first.1, second.1))

pub placed_fits : (s : Site) (t : Tree) → IsTerm t → within_limits (instantiate_under (site_values s) t 0) ≡ Ok (instantiate_under (site_values s) t 0)
placed_fits s t is =
    let same = same_measures s.depth s.levels t 0 in
    let size = same.0 in let depth = same.1 in let few = is.small in let shallow = is.shallow in
    let small : is_small (instantiate_under (site_values s) t 0) ≡ true = grind (arith, nat_tests, size, depth, few, shallow) in
    ap (λ b. if b then Ok (instantiate_under (site_values s) t 0) else Err TooLarge) small

-- when a term may be placed
values_over : (depth : ℕ) (ls : List ℕ) → AreBefore depth ls → AreOver depth (values_at depth ls)
values_over depth [] h = tt
values_over depth (l ∷ ls) h = let lt = h.0 in (omega (arith, lt), values_over depth ls h.1)

values_shallow : (depth : ℕ) (ls : List ℕ) → AreShallow 1 (values_at depth ls)
values_shallow depth [] = tt
values_shallow depth (l ∷ ls) = (omega arith, values_shallow depth ls)

pub placed_numbered : (globals : ℕ) (s : Site) (t : Tree) → MayPlace globals s t → IsTerm t → IsNumbered (instantiate_under (site_values s) t 0)
placed_numbered globals s t may is =
    let few = scoped_free (length s.levels) globals t may.term in
    let room = may.site.room in let shallow = is.shallow in let same = values_length s.depth s.levels in
    instantiate_numbered (values_at s.depth s.levels) t 0 s.depth 1 (values_over s.depth s.levels may.site.above) (values_shallow s.depth s.levels)
    (omega (arith, few, same)) (omega (arith, room, shallow))

pub values_scoped : (globals depth : ℕ) (ls : List ℕ) → AreBefore depth ls → AreScoped depth globals (values_at depth ls)
values_scoped globals depth [] h = tt
values_scoped globals depth (l ∷ ls) h = let lt = h.0 in (omega (arith, lt), values_scoped globals depth ls h.1)

-- sites below further binders
pub before_more : (depth : ℕ) (ls : List ℕ) → AreBefore depth ls → AreBefore (depth + 1) ls
before_more depth [] h = tt
before_more depth (l ∷ ls) h = let lt = h.0 in (omega (arith, lt), before_more depth ls h.1)

pub before_set : (depth i : ℕ) (ls : List ℕ) → AreBefore depth ls → AreBefore (depth + 1) (slice_set ls i depth)
before_set depth i [] h = tt
before_set depth zero (l ∷ ls) h = (omega arith, before_more depth ls h.1)
before_set depth (suc i) (l ∷ ls) h = let lt = h.0 in (omega (arith, lt), before_set depth i ls h.1)

pub is_standing : (i : ℕ) (s : Site) → IsSite s → s.depth + 1 ≤ 2 ^ 31 + 3000 → IsSite (stand_for i s)
is_standing i s is room = record { above = before_set s.depth i s.levels is.above; room = room }

pub levels_before : (n : ℕ) → AreBefore n (levels_of n)
levels_before zero = tt
levels_before (suc n) =
    let up : n + 1 ≡ suc n = omega arith in
    (omega arith, subst (λ k. AreBefore k (levels_of n)) up (before_more n (levels_of n) (levels_before n)))

pub levels_length : (n : ℕ) → length (levels_of n) ≡ n
levels_length zero = refl
levels_length (suc n) = ap suc (levels_length n)

pub levels_next : (n : ℕ) → levels_of (n + 1) ≡ n ∷ levels_of n
levels_next n = let up : n + 1 ≡ suc n = omega arith in ap levels_of up

pub term_is_within : (t : Tree) → IsTerm t → Ok t ≡ within_limits t
term_is_within t is = sym (bounded-term t is)
