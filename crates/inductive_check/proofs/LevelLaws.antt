-- Values that are the variables of binders.
use Rattle.std.specs.Prelude.{◌≡◌, ℕ, zero, suc, ◌+◌, ◌-◌, ◌<◌, ◌≤◌, nat_le, nat_lt, List, [], ◌∷◌, ◌++◌, length, take, drop, true, false, Some, None, slice_get, Result, Ok, Err, if◌then◌else◌, refl}
use Rattle.std.proofs.Common.{arith, ap, sym, ◌∙◌, subst}
use Rattle.std.proofs.lemmas.Bool.Decides.{nat_tests}
use Rattle.core_term.specs.Tree.{Tree, Var, Sorted, Constant, Prod, Lam, LetIn, App, IsTerm, IsNumbered}
use Rattle.core_term.specs.Places.{lift_of}
use Rattle.core_term.specs.Answers.{within_limits, Gives}
use Rattle.core_term.specs.declared.stops.TermStop.{TermStop}
use Rattle.inductive_check.proofs.PartLaws.{same_term}
use Rattle.inductive_check.proofs.SizeLaws.{applied_stop}
use Rattle.term_spine.specs.SpineLaws.{AreOver, AreShallow}
use Rattle.term_spine.specs.Spine.{apply_all, arguments_of, shift, shift_all, eta_body, variables_of}
use Rattle.term_spine.specs.Instantiate.{instantiated_variable, instantiate_under, values_under}
use Rattle.term_spine.proofs.Instantiations.{instantiate_numbered}
use Rattle.cic_rules.specs.Families.{newest_first, indices}
use Rattle.cic_rules.specs.Scopes.{AreBefore}
use Rattle.inductive_check.specs.declared.levels.Site.{Site}
use Rattle.inductive_check.specs.Forms.{params_under}
use Rattle.inductive_check.specs.Levels.{variable_at, values_at, MayPlace, MayPlaceAll, levels_of}
use Rattle.inductive_check.proofs.FormLaws.{shift_var, params_shift, params_top}

pub values_length : (depth : ℕ) (ls : List ℕ) → length (values_at depth ls) ≡ length ls
values_length depth [] = refl
values_length depth (l ∷ ls) = ap suc (values_length depth ls)

value_got : (depth : ℕ) (ls : List ℕ) (k l : ℕ) → slice_get ls k ≡ Some l → slice_get (values_at depth ls) k ≡ Some (variable_at depth l)
value_got depth [] k l e = cc
value_got depth (x ∷ xs) zero l e = let same : x ≡ l = cc in ap (λ y. Some (variable_at depth y)) same
value_got depth (x ∷ xs) (suc k) l e = value_got depth xs k l e

value_missed : (depth : ℕ) (ls : List ℕ) (k : ℕ) → slice_get ls k ≡ None → slice_get (values_at depth ls) k ≡ None
value_missed depth [] k e = refl
value_missed depth (x ∷ xs) zero e = cc
value_missed depth (x ∷ xs) (suc k) e = value_missed depth xs k e

not_below : (i binders : ℕ) → binders ≤ i → nat_lt i binders ≡ false
not_below i binders le = grind (arith, nat_tests, le)

lift_var : (i by : ℕ) → lift_of (Var i) by 0 ≡ Var (i + by)
lift_var i by = let all : nat_le 0 i ≡ true = grind (arith, nat_tests) in ap (λ b. Var (if b then i + by else i)) all

-- the variable that a variable becomes
pub variable_found : (depth : ℕ) (ls : List ℕ) (i binders l : ℕ) → binders ≤ i → slice_get ls (i - binders) ≡ Some l →
    instantiate_under (values_at depth ls) (Var i) binders ≡ Var (depth - 1 - l + binders)
variable_found depth ls i binders l le e =
    ap (λ b. if b then Var i else instantiated_variable (slice_get (values_at depth ls) (i - binders)) i (length (values_at depth ls)) binders) (not_below i binders le)
    ∙ ap (λ v. instantiated_variable v i (length (values_at depth ls)) binders) (value_got depth ls (i - binders) l e)
    ∙ lift_var (depth - 1 - l) binders

pub variable_none : (depth : ℕ) (ls : List ℕ) (i binders : ℕ) → binders ≤ i → slice_get ls (i - binders) ≡ None →
    instantiate_under (values_at depth ls) (Var i) binders ≡ Var (i - length ls)
variable_none depth ls i binders le e =
    ap (λ b. if b then Var i else instantiated_variable (slice_get (values_at depth ls) (i - binders)) i (length (values_at depth ls)) binders) (not_below i binders le)
    ∙ ap (λ v. instantiated_variable v i (length (values_at depth ls)) binders) (value_missed depth ls (i - binders) e)
    ∙ ap (λ n. Var (i - n)) (values_length depth ls)

-- when a term may be placed
values_over : (depth : ℕ) (ls : List ℕ) → AreBefore depth ls → AreOver depth (values_at depth ls)
values_over depth [] h = tt
values_over depth (l ∷ ls) h = let lt = h.0 in (omega (arith, lt), values_over depth ls h.1)

values_shallow : (depth : ℕ) (ls : List ℕ) → AreShallow 1 (values_at depth ls)
values_shallow depth [] = tt
values_shallow depth (l ∷ ls) = (omega arith, values_shallow depth ls)

pub placed_numbered : (s : Site) (t : Tree) → MayPlace s t → IsTerm t → IsNumbered (instantiate_under (values_at s.depth s.levels) t 0)
placed_numbered s t may is =
    let few = may.few in let room = may.site.room in let shallow = is.shallow in let same = values_length s.depth s.levels in
    instantiate_numbered (values_at s.depth s.levels) t 0 s.depth 1 (values_over s.depth s.levels may.site.above) (values_shallow s.depth s.levels)
    (omega (arith, few, same)) (omega (arith, room, shallow))

-- one binder deeper
shift_variable : (depth l : ℕ) → l < depth → shift (variable_at depth l) ≡ variable_at (depth + 1) l
shift_variable depth l lt = let at : depth - 1 - l + 1 ≡ depth + 1 - 1 - l = omega (arith, lt) in shift_var (depth - 1 - l) ∙ ap Var at

pub values_shift : (depth : ℕ) (ls : List ℕ) → AreBefore depth ls → shift_all (values_at depth ls) ≡ values_at (depth + 1) ls
values_shift depth [] h = refl
values_shift depth (l ∷ ls) h =
    ap (λ t. t ∷ shift_all (values_at depth ls)) (shift_variable depth l h.0) ∙ ap (λ ts. variable_at (depth + 1) l ∷ ts) (values_shift depth ls h.1)

pub values_more : (depth : ℕ) (ls : List ℕ) → AreBefore depth ls → values_under (values_at depth ls) ≡ values_at (depth + 1) (depth ∷ ls)
values_more depth ls h =
    let none : 0 ≡ depth + 1 - 1 - depth = omega arith in
    ap (λ ts. Var 0 ∷ ts) (values_shift depth ls h) ∙ ap (λ i. Var i ∷ values_at (depth + 1) ls) none

pub before_more : (depth : ℕ) (ls : List ℕ) → AreBefore depth ls → AreBefore (depth + 1) ls
before_more depth [] h = tt
before_more depth (l ∷ ls) h = let lt = h.0 in (omega (arith, lt), before_more depth ls h.1)

-- applications one binder deeper
shift_applied : (f : Tree) (args : List Tree) → shift (apply_all f args) ≡ apply_all (shift f) (shift_all args)
shift_applied f [] = refl
shift_applied f (a ∷ more) = shift_applied (App f a) more

applied_last : (f a : Tree) (args : List Tree) → App (apply_all f args) a ≡ apply_all f (args ++ (a ∷ []))
applied_last f a [] = refl
applied_last f a (x ∷ xs) = applied_last (App f x) a xs

-- a row of variables with a newer one
row_last : (offset count : ℕ) → params_under (offset + 1) count ++ (Var offset ∷ []) ≡ params_under offset (count + 1)
row_last offset zero = let at : offset ≡ 0 + offset = omega arith in ap (λ i. Var i ∷ []) at
row_last offset (suc count) =
    let at : count + (offset + 1) ≡ count + 1 + offset = omega arith in
    let two : suc (count + 1) ≡ suc count + 1 = omega arith in
    ap (λ i. Var i ∷ (params_under (offset + 1) count ++ (Var offset ∷ []))) at
    ∙ ap (λ ts. Var (count + 1 + offset) ∷ ts) (row_last offset count) ∙ ap (params_under offset) two

pub row_eta : (f : Tree) (count : ℕ) → eta_body (apply_all f (params_under 0 count)) ≡ apply_all (shift f) (params_under 0 (count + 1))
row_eta f count =
    ap (λ t. App t (Var 0)) (shift_applied f (params_under 0 count) ∙ ap (apply_all (shift f)) (params_shift 0 count))
    ∙ applied_last (shift f) (Var 0) (params_under 1 count) ∙ ap (apply_all (shift f)) (row_last 0 count)

pub row_shift : (f : Tree) (count : ℕ) → shift (apply_all f (params_under 0 count)) ≡ apply_all (shift f) (params_under 1 count)
row_shift f count = shift_applied f (params_under 0 count) ∙ ap (apply_all (shift f)) (params_shift 0 count)

-- values in the order of their binders
newest_append : (ts later : List Tree) → newest_first ts later ≡ newest_first ts [] ++ later
newest_append [] later = refl
newest_append (t ∷ ts) later =
    newest_append ts (t ∷ later) ∙ (appended (newest_first ts []) t later ∙ ap (λ xs. xs ++ later) (sym (newest_append ts (t ∷ [])))) where
      appended : (xs : List Tree) (x : Tree) (ys : List Tree) → xs ++ (x ∷ ys) ≡ (xs ++ (x ∷ [])) ++ ys
      appended [] x ys = refl
      appended (z ∷ zs) x ys = ap (λ more. z ∷ more) (appended zs x ys)

newest_shift : (ts later : List Tree) → newest_first (shift_all ts) (shift_all later) ≡ shift_all (newest_first ts later)
newest_shift [] later = refl
newest_shift (t ∷ ts) later = newest_shift ts (t ∷ later)

pub built_shift : (c : ℕ) (vs : List Tree) → shift (apply_all (Constant c) (newest_first vs [])) ≡ apply_all (Constant c) (newest_first (shift_all vs) [])
built_shift c vs = shift_applied (Constant c) (newest_first vs []) ∙ ap (apply_all (Constant c)) (sym (newest_shift vs []))

pub built_more : (c : ℕ) (vs : List Tree) → eta_body (apply_all (Constant c) (newest_first vs [])) ≡ apply_all (Constant c) (newest_first (values_under vs) [])
built_more c vs =
    ap (λ t. App t (Var 0)) (built_shift c vs) ∙ applied_last (Constant c) (Var 0) (newest_first (shift_all vs) [])
    ∙ ap (apply_all (Constant c)) (sym (newest_append (shift_all vs) (Var 0 ∷ [])))

-- .. one at a time, the oldest first
pub newest_next : (vs : List Tree) (at : ℕ) (v : Tree) (later : List Tree) → slice_get vs at ≡ Some v →
    newest_first (take (suc at) vs) later ≡ v ∷ newest_first (take at vs) later
newest_next [] at v later e = cc
newest_next (x ∷ xs) zero v later e = let same : x ≡ v = cc in ap (λ y. y ∷ later) same
newest_next (x ∷ xs) (suc at) v later e = newest_next xs at v (x ∷ later) e

-- at the top
variables_last : (n : ℕ) → variables_of (suc n) ≡ shift_all (variables_of n) ++ (Var 0 ∷ [])
variables_last n =
    params_top (suc n) ∙ ap (params_under 0) one ∙ sym (row_last 0 n) ∙ ap (λ ts. ts ++ (Var 0 ∷ [])) (sym (params_shift 0 n) ∙ ap shift_all (sym (params_top n))) where
      one : suc n ≡ n + 1
      one = omega arith

newest_last : (ts : List Tree) (t : Tree) (later : List Tree) → newest_first (ts ++ (t ∷ [])) later ≡ t ∷ newest_first ts later
newest_last [] t later = refl
newest_last (x ∷ xs) t later = newest_last xs t (x ∷ later)

levels_before : (n : ℕ) → AreBefore n (levels_of n)
levels_before zero = tt
levels_before (suc n) = (omega arith, subst (λ k. AreBefore k (levels_of n)) one (before_more n (levels_of n) (levels_before n))) where
  one : n + 1 ≡ suc n
  one = omega arith

newest_variables : (n : ℕ) → newest_first (variables_of n) [] ≡ values_at n (levels_of n)
newest_variables zero = refl
newest_variables (suc n) =
    ap (λ ts. newest_first ts []) (variables_last n) ∙ newest_last (shift_all (variables_of n)) (Var 0) []
    ∙ ap (λ ts. Var 0 ∷ ts) (newest_shift (variables_of n) [] ∙ ap shift_all (newest_variables n))
    ∙ values_more n (levels_of n) (levels_before n) ∙ ap (λ k. values_at k (n ∷ levels_of n)) one where
      one : n + 1 ≡ suc n
      one = omega arith

-- behind the motive
pub values_top : (n : ℕ) → shift_all (newest_first (variables_of n) []) ≡ values_at (n + 1) (levels_of n)
values_top n = ap shift_all (newest_variables n) ∙ values_shift n (levels_of n) (levels_before n)

pub levels_above : (n : ℕ) → AreBefore (n + 1) (levels_of n)
levels_above n = before_more n (levels_of n) (levels_before n)

-- lists of terms
pub drop_next : (count : ℕ) (args : List Tree) (first : Tree) (rest : List Tree) → args ≡ first ∷ rest → 0 < count → drop count args ≡ drop (count - 1) rest
drop_next zero args first rest e more = absurd (omega (arith, more))
drop_next (suc count) args first rest e more = let one : suc count - 1 ≡ count = omega arith in rw one (ap (drop (suc count)) e)

pub may_first : (s : Site) (args : List Tree) (first : Tree) (rest : List Tree) → args ≡ first ∷ rest → MayPlaceAll s args → MayPlace s first
may_first s args first rest e may = (subst (MayPlaceAll s) e may).0

pub may_rest : (s : Site) (args : List Tree) (first : Tree) (rest : List Tree) → args ≡ first ∷ rest → MayPlaceAll s args → MayPlaceAll s rest
may_rest s args first rest e may = (subst (MayPlaceAll s) e may).1

may_append : (s : Site) (ts us : List Tree) → MayPlaceAll s ts → MayPlaceAll s us → MayPlaceAll s (ts ++ us)
may_append s [] us h k = k
may_append s (t ∷ ts) us h k = (h.0, may_append s ts us h.1 k)

may_arguments : (s : Site) (t : Tree) → MayPlace s t → MayPlaceAll s (arguments_of t)
may_arguments s (App f a) may =
    let few = may.few in
    may_append s (arguments_of f) (a ∷ []) (may_arguments s f (record { site = may.site; few = omega (arith, few) }))
    (record { site = may.site; few = omega (arith, few) }, tt)
may_arguments s (Var _) may = tt
may_arguments s (Sorted _) may = tt
may_arguments s (Constant _) may = tt
may_arguments s (Prod _ _ _) may = tt
may_arguments s (Lam _ _ _) may = tt
may_arguments s (LetIn _ _ _ _) may = tt

may_drop : (s : Site) (n : ℕ) (ts : List Tree) → MayPlaceAll s ts → MayPlaceAll s (drop n ts)
may_drop s zero ts h = h
may_drop s (suc n) [] h = tt
may_drop s (suc n) (t ∷ ts) h = may_drop s n ts h.1

pub may_indices : (s : Site) (params : ℕ) (t : Tree) → MayPlace s t → MayPlaceAll s (indices params t)
may_indices s params t may = may_drop s params (arguments_of t) (may_arguments s t may)

-- a row of variables, and values, one at a time
pub row_next : (f : Tree) (offset count : ℕ) → 0 < count →
    apply_all (App f (Var (count - 1 + offset))) (params_under offset (count - 1)) ≡ apply_all f (params_under offset count)
row_next f offset zero some = absurd (omega (arith, some))
row_next f offset (suc count) some =
    let one : suc count - 1 ≡ count = omega arith in ap (λ n. apply_all (App f (Var (n + offset))) (params_under offset n)) one

pub values_next : (f : Tree) (depth : ℕ) (ls : List ℕ) (at l : ℕ) → 0 < at → slice_get ls (at - 1) ≡ Some l →
    apply_all (App f (variable_at depth l)) (newest_first (take (at - 1) (values_at depth ls)) []) ≡ apply_all f (newest_first (take at (values_at depth ls)) [])
values_next f depth ls zero l some found = absurd (omega (arith, some))
values_next f depth ls (suc at) l some found =
    let one : suc at - 1 ≡ at = omega arith in
    let got : slice_get (values_at depth ls) at ≡ Some (variable_at depth l) = value_got depth ls at l (ap (slice_get ls) (sym one) ∙ found) in
    ap (λ n. apply_all (App f (variable_at depth l)) (newest_first (take n (values_at depth ls)) [])) one
    ∙ ap (apply_all f) (sym (newest_next (values_at depth ls) at (variable_at depth l) [] got))

take_whole : (ts : List Tree) → take (length ts) ts ≡ ts
take_whole [] = refl
take_whole (t ∷ ts) = ap (λ more. t ∷ more) (take_whole ts)

pub values_whole : (f : Tree) (depth : ℕ) (ls : List ℕ) (n : ℕ) → n ≡ length ls →
    apply_all f (newest_first (take n (values_at depth ls)) []) ≡ apply_all f (newest_first (values_at depth ls) [])
values_whole f depth ls n e =
    ap (λ k. apply_all f (newest_first (take k (values_at depth ls)) [])) (e ∙ sym (values_length depth ls))
    ∙ ap (λ vs. apply_all f (newest_first vs [])) (take_whole (values_at depth ls))

-- .. so what is made of the first is made of all
pub applied_gives : (r : Result Tree TermStop) (f v x next whole : Tree) (args : List Tree) → Ok v ≡ within_limits x → Ok next ≡ within_limits (App f v) →
    apply_all (App f x) args ≡ whole → Gives r (within_limits (apply_all next args)) → Gives r (within_limits whole)
applied_gives r f v x next whole args made joined is gives =
    let same : apply_all next args ≡ whole =
    ap (λ t. apply_all t args) (same_term next (App f v) joined) ∙ ap (λ t. apply_all (App f t) args) (same_term v x made) ∙ is in
    subst (λ t. Gives r (within_limits t)) same gives

pub applied_ends : (stop : TermStop) (f v x whole : Tree) (args : List Tree) → Ok v ≡ within_limits x → apply_all (App f x) args ≡ whole →
    Gives {A = Tree} (Err stop) (within_limits (App f v)) → Gives {A = Tree} (Err stop) (within_limits whole)
applied_ends stop f v x whole args made is gives =
    let same : apply_all (App f v) args ≡ whole = ap (λ t. apply_all (App f t) args) (same_term v x made) ∙ is in
    subst (λ t. Gives {A = Tree} (Err stop) (within_limits t)) same (applied_stop stop (App f v) args gives)
