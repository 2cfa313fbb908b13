-- Cases on a constructor's arguments: when values may be put in, and what is too large.
use Rattle.std.specs.Prelude.{◌≡◌, ℕ, zero, suc, ◌+◌, ◌-◌, ◌≤◌, ◌<◌, List, [], ◌∷◌, ◌++◌, length, take, drop, Bool, true, false, Some, None, Result, Ok, Err, slice_get, if◌then◌else◌, refl}
use Rattle.std.proofs.Common.{arith, ap, sym, ◌∙◌, subst}
use Rattle.std.proofs.lemmas.Bool.Decides.{nat_tests}
use Rattle.core_term.specs.Tree.{Tree, Var, Sorted, Constant, Prod, Lam, LetIn, App, IsTerm, IsNumbered, free_bound, depth_of, size_of, is_small}
use Rattle.core_term.specs.Answers.{within_limits, Gives}
use Rattle.core_term.specs.declared.stops.TermStop.{TermStop}
use Rattle.core_term.specs.declared.stops.TermStop.TheVariants.{TooLarge, NoMem}
use Rattle.core_term.proofs.Bounds.{bounded-term, size-lifted, depth-lifted}
use Rattle.core_term.proofs.FreeVariables.{free_bound-lifted}
use Rattle.term_spine.specs.SpineLaws.{AreOver, AreShallow}
use Rattle.term_spine.proofs.Instantiations.{instantiate_numbered}
use Rattle.term_spine.specs.declared.spines.Spine.{Spine}
use Rattle.term_spine.specs.Spines.{IsSpineOf}
use Rattle.term_spine.proofs.SpineFacts.{applied_too_large, arguments_applied, no_arguments}
use Rattle.term_spine.specs.Spine.{arguments_of, apply_all, shift, shift_all, eta_body}
use Rattle.term_spine.specs.Instantiate.{values_under, instantiate}
use Rattle.cic_rules.specs.Families.{indices, recursive_call, case_applied_to}
use Rattle.conversion.specs.Iota.{case_by, MayPutIn, MayPutInAll}

pub term_within : (t : Tree) → IsTerm t → Ok t ≡ within_limits t
term_within t is = sym (bounded-term t is)

pub too_large : (t : Tree) → Gives {A = Tree} (Err TooLarge) (within_limits t) → is_small t ≡ false
too_large t gives =
    elim (is_small t) as (λ b. Gives {A = Tree} (Err TooLarge) (if b then Ok t else Err TooLarge) → b ≡ false) [ true ↦ λ is. absurd (cc) | false ↦ λ _. refl ] gives

-- a part that is too large ends the making of the whole
pub stopped : (stop : TermStop) (part whole : Tree) → (is_small part ≡ false → is_small whole ≡ false) → Gives {A = Tree} (Err stop) (within_limits part) →
    Gives {A = Tree} (Err stop) (within_limits whole)
stopped TooLarge part whole large gives = let big = large (too_large part gives) in rw big refl
stopped NoMem part whole large gives = tt

-- a function that can't be made
pub app_stop : (stop : TermStop) (f : Tree) (args : List Tree) → Gives {A = Tree} (Err stop) (within_limits f) →
    Gives {A = Tree} (Err stop) (within_limits (apply_all f args))
app_stop stop f args gives = stopped stop f (apply_all f args) (applied_too_large f args) gives

function_large : (f a : Tree) → is_small f ≡ false → is_small (App f a) ≡ false
function_large f a large = grind (arith, nat_tests)

argument_large : (f a : Tree) → is_small a ≡ false → is_small (App f a) ≡ false
argument_large f a large = grind (arith, nat_tests)

-- an argument that can't be made
pub argument_stop : (stop : TermStop) (f a : Tree) (args : List Tree) → Gives {A = Tree} (Err stop) (within_limits a) →
    Gives {A = Tree} (Err stop) (within_limits (apply_all (App f a) args))
argument_stop stop f a args gives = stopped stop a (apply_all (App f a) args) (λ large. applied_too_large (App f a) args (argument_large f a large)) gives

pub function_stop : (stop : TermStop) (f a : Tree) → Gives {A = Tree} (Err stop) (within_limits f) → Gives {A = Tree} (Err stop) (within_limits (App f a))
function_stop stop f a gives = stopped stop f (App f a) (function_large f a) gives

pub last_stop : (stop : TermStop) (f a : Tree) → Gives {A = Tree} (Err stop) (within_limits a) → Gives {A = Tree} (Err stop) (within_limits (App f a))
last_stop stop f a gives = stopped stop a (App f a) (argument_large f a) gives

pub domain_stop : (stop : TermStop) (n : List ℕ) (a b : Tree) → Gives {A = Tree} (Err stop) (within_limits a) → Gives {A = Tree} (Err stop) (within_limits (Lam n a b))
domain_stop stop n a b gives = stopped stop a (Lam n a b) (λ large. grind (arith, nat_tests)) gives

body_large : (n : List ℕ) (a b : Tree) → is_small b ≡ false → is_small (Lam n a b) ≡ false
body_large n a b large = grind (arith, nat_tests)

pub body_stop : (stop : TermStop) (n : List ℕ) (a b : Tree) → Gives {A = Tree} (Err stop) (within_limits b) → Gives {A = Tree} (Err stop) (within_limits (Lam n a b))
body_stop stop n a b gives = stopped stop b (Lam n a b) (λ large. grind (arith, nat_tests)) gives

-- lists of values
pub drop_found : {A : Type 0} (values : List A) (at : ℕ) (v : A) → slice_get values at ≡ Some v → drop at values ≡ v ∷ drop (at + 1) values
drop_found [] at v e = cc
drop_found (x ∷ xs) zero v e = cc
drop_found (x ∷ xs) (suc at) v e = let one : suc at + 1 ≡ suc (at + 1) = omega arith in rw one (drop_found xs at v e)

pub drop_none : {A : Type 0} (values : List A) (at : ℕ) → slice_get values at ≡ None → drop at values ≡ []
drop_none [] zero e = refl
drop_none [] (suc at) e = refl
drop_none (x ∷ xs) zero e = cc
drop_none (x ∷ xs) (suc at) e = drop_none xs at e

pub found_over : (n : ℕ) (values : List Tree) (at : ℕ) (v : Tree) → slice_get values at ≡ Some v → AreOver n values → free_bound v ≤ n
found_over n [] at v e over = cc
found_over n (x ∷ xs) zero v e over = let same : x ≡ v = cc in subst (λ t. free_bound t ≤ n) same over.0
found_over n (x ∷ xs) (suc at) v e over = found_over n xs at v e over.1

pub over_more : (n m : ℕ) (values : List Tree) → n ≤ m → AreOver n values → AreOver m values
over_more n m [] le over = tt
over_more n m (v ∷ vs) le over = (omega (arith, le, over.0), over_more n m vs le over.1)

shift_over : (n : ℕ) (values : List Tree) → AreOver n values → AreOver (n + 1) (shift_all values)
shift_over n [] over = tt
shift_over n (v ∷ vs) over = (let free = free_bound-lifted v 1 0 in omega (arith, free, over.0), shift_over n vs over.1)

shift_shallow : (d : ℕ) (values : List Tree) → AreShallow d values → AreShallow d (shift_all values)
shift_shallow d [] shallow = tt
shift_shallow d (v ∷ vs) shallow = (let deep = depth-lifted v 1 0 in omega (arith, deep, shallow.0), shift_shallow d vs shallow.1)

length_shift : (values : List Tree) → length (shift_all values) ≡ length values
length_shift [] = refl
length_shift (v ∷ vs) = ap suc (length_shift vs)

pub drop_beyond : {A : Type 0} (values : List A) (at : ℕ) → length values ≤ at → drop at values ≡ []
drop_beyond [] zero le = refl
drop_beyond [] (suc at) le = refl
drop_beyond (x ∷ xs) zero le = absurd (omega arith)
drop_beyond (x ∷ xs) (suc at) le = drop_beyond xs at (omega (arith, le))

pub drop_next : (count : ℕ) (args : List Tree) (first : Tree) (rest : List Tree) → args ≡ first ∷ rest → 0 < count → drop count args ≡ drop (count - 1) rest
drop_next zero args first rest e more = absurd (omega (arith, more))
drop_next (suc count) args first rest e more = let one : suc count - 1 ≡ count = omega arith in rw one (ap (drop (suc count)) e)

pub take_next : (count : ℕ) (args : List Tree) (first : Tree) (rest : List Tree) → args ≡ first ∷ rest → 0 < count →
    take count args ≡ first ∷ take (count - 1) rest
take_next zero args first rest e more = absurd (omega (arith, more))
take_next (suc count) args first rest e more = let one : suc count - 1 ≡ count = omega arith in rw one (ap (take (suc count)) e)

pub take_empty : (count : ℕ) (args : List Tree) → args ≡ [] → take count args ≡ []
take_empty zero args e = refl
take_empty (suc count) args e = ap (take (suc count)) e

pub may_first : (vars : ℕ) (values args : List Tree) (first : Tree) (rest : List Tree) → args ≡ first ∷ rest → MayPutInAll vars values args → MayPutIn vars values first
may_first vars values args first rest e may = (subst (MayPutInAll vars values) e may).0

pub may_rest : (vars : ℕ) (values args : List Tree) (first : Tree) (rest : List Tree) → args ≡ first ∷ rest → MayPutInAll vars values args → MayPutInAll vars values rest
may_rest vars values args first rest e may = (subst (MayPutInAll vars values) e may).1

pub over_first : (n : ℕ) (args : List Tree) (first : Tree) (rest : List Tree) → args ≡ first ∷ rest → AreOver n args → free_bound first ≤ n
over_first n args first rest e over = (subst (AreOver n) e over).0

pub over_rest : (n : ℕ) (args : List Tree) (first : Tree) (rest : List Tree) → args ≡ first ∷ rest → AreOver n args → AreOver n rest
over_rest n args first rest e over = (subst (AreOver n) e over).1

-- when values may be put in
pub may_number : (vars : ℕ) (values : List Tree) (t : Tree) → MayPutIn vars values t → IsTerm t → IsNumbered (instantiate values t)
may_number vars values t may is =
    let few = may.few in let room = may.room in let shallow = is.shallow in
    instantiate_numbered values t 0 vars 1000 may.over may.shallow (omega (arith, few)) (omega (arith, room, shallow))

pub may_domain : (vars : ℕ) (values : List Tree) (n : List ℕ) (a b : Tree) → MayPutIn vars values (Prod n a b) → MayPutIn vars values a
may_domain vars values n a b may =
    let few = may.few in let room = may.room in
    record { over = may.over; shallow = may.shallow; few = omega (arith, few); room = omega (arith, room) }

-- under a binder
pub may_under : (vars : ℕ) (values : List Tree) (n : List ℕ) (a b : Tree) → MayPutIn vars values (Prod n a b) → MayPutIn (vars + 1) (values_under values) b
may_under vars values n a b may =
    let few = may.few in let room = may.room in let same = length_shift values in
    record {
      over = (omega arith, shift_over vars values may.over);
      shallow = (omega arith, shift_shallow 1000 values may.shallow);
      few = omega (arith, few, same);
      room = omega (arith, room);
    }

-- with one more value
pub may_next : (vars : ℕ) (values : List Tree) (n : List ℕ) (a b v : Tree) → MayPutIn vars values (Prod n a b) → free_bound v ≤ vars → IsTerm v →
    MayPutIn vars (v ∷ values) b
may_next vars values n a b v may free is =
    let few = may.few in let room = may.room in
    record { over = (free, may.over); shallow = (is.shallow, may.shallow); few = omega (arith, few); room = omega (arith, room) }

may_append : (vars : ℕ) (values : List Tree) (ts us : List Tree) → MayPutInAll vars values ts → MayPutInAll vars values us → MayPutInAll vars values (ts ++ us)
may_append vars values [] us h k = k
may_append vars values (t ∷ ts) us h k = (h.0, may_append vars values ts us h.1 k)

may_arguments : (vars : ℕ) (values : List Tree) (t : Tree) → MayPutIn vars values t → MayPutInAll vars values (arguments_of t)
may_arguments vars values (App f a) may =
    let few = may.few in let room = may.room in
    may_append vars values (arguments_of f) (a ∷ [])
    (may_arguments vars values f (record { over = may.over; shallow = may.shallow; few = omega (arith, few); room = omega (arith, room) }))
    (record { over = may.over; shallow = may.shallow; few = omega (arith, few); room = omega (arith, room) }, tt)
may_arguments vars values (Var _) may = tt
may_arguments vars values (Sorted _) may = tt
may_arguments vars values (Constant _) may = tt
may_arguments vars values (Prod _ _ _) may = tt
may_arguments vars values (Lam _ _ _) may = tt
may_arguments vars values (LetIn _ _ _ _) may = tt

may_drop : (vars : ℕ) (values : List Tree) (n : ℕ) (ts : List Tree) → MayPutInAll vars values ts → MayPutInAll vars values (drop n ts)
may_drop vars values zero ts h = h
may_drop vars values (suc n) [] h = tt
may_drop vars values (suc n) (t ∷ ts) h = may_drop vars values n ts h.1

pub indices_may : (vars : ℕ) (values : List Tree) (params : ℕ) (t : Tree) → MayPutIn vars values t → MayPutInAll vars values (indices params t)
indices_may vars values params t may = may_drop vars values params (arguments_of t) (may_arguments vars values t may)

-- a call is larger than its argument
call_size : (params : ℕ) (e x : Tree) (values : List Tree) (t : Tree) → size_of x ≤ size_of (recursive_call params e x values t)
call_size params e x values (Prod n a b) =
    let rest = call_size params (shift e) (eta_body x) (values_under values) b in
    let same = size-lifted x 1 0 in omega (arith, rest, same)
call_size params e x values (Var _) = omega arith
call_size params e x values (Sorted _) = omega arith
call_size params e x values (Constant _) = omega arith
call_size params e x values (Lam _ _ _) = omega arith
call_size params e x values (LetIn _ _ _ _) = omega arith
call_size params e x values (App _ _) = omega arith

call_depth : (params : ℕ) (e x : Tree) (values : List Tree) (t : Tree) → depth_of x ≤ depth_of (recursive_call params e x values t)
call_depth params e x values (Prod n a b) =
    let rest = call_depth params (shift e) (eta_body x) (values_under values) b in
    let same = depth-lifted x 1 0 in omega (arith, rest, same)
call_depth params e x values (Var _) = omega arith
call_depth params e x values (Sorted _) = omega arith
call_depth params e x values (Constant _) = omega arith
call_depth params e x values (Lam _ _ _) = omega arith
call_depth params e x values (LetIn _ _ _ _) = omega arith
call_depth params e x values (App _ _) = omega arith

large_more : (t u : Tree) → size_of t ≤ size_of u → depth_of t ≤ depth_of u → is_small t ≡ false → is_small u ≡ false
large_more t u size depth large = grind (arith, nat_tests)

-- so an argument under a binder that is too large makes the call too large
pub eta_stop : (stop : TermStop) (params : ℕ) (n : List ℕ) (e x : Tree) (values : List Tree) (a b : Tree) → Gives {A = Tree} (Err stop) (within_limits (eta_body x)) →
    Gives {A = Tree} (Err stop) (within_limits (recursive_call params e x values (Prod n a b)))
eta_stop stop params n e x values a b gives =
    stopped stop (eta_body x) (recursive_call params e x values (Prod n a b))
    (λ large. let inner = large_more (eta_body x) (recursive_call params (shift e) (eta_body x) (values_under values) b)
    (call_size params (shift e) (eta_body x) (values_under values) b) (call_depth params (shift e) (eta_body x) (values_under values) b) large in
    body_large n (instantiate values a) (recursive_call params (shift e) (eta_body x) (values_under values) b) inner) gives

-- a case is smaller than what it is applied to
to_size : (params : ℕ) (mark : Bool) (e case v : Tree) (values : List Tree) (a : Tree) → size_of case ≤ size_of (case_applied_to params mark e case v values a)
to_size params false e case v values a = omega arith
to_size params true e case v values a = omega arith

to_depth : (params : ℕ) (mark : Bool) (e case v : Tree) (values : List Tree) (a : Tree) → depth_of case ≤ depth_of (case_applied_to params mark e case v values a)
to_depth params false e case v values a = omega arith
to_depth params true e case v values a = omega arith

case_size : (params : ℕ) (marks : List Bool) (e case : Tree) (values : List Tree) (t : Tree) (vs : List Tree) → size_of case ≤ size_of (case_by params marks e case values t vs)
case_size params (mark ∷ marks) e case values (Prod n a b) (v ∷ vs) =
    let rest = case_size params marks e (case_applied_to params mark e case v values a) (v ∷ values) b vs in
    let one = to_size params mark e case v values a in omega (arith, rest, one)
case_size params marks e case values t vs = omega arith

case_depth : (params : ℕ) (marks : List Bool) (e case : Tree) (values : List Tree) (t : Tree) (vs : List Tree) → depth_of case ≤ depth_of (case_by params marks e case values t vs)
case_depth params (mark ∷ marks) e case values (Prod n a b) (v ∷ vs) =
    let rest = case_depth params marks e (case_applied_to params mark e case v values a) (v ∷ values) b vs in
    let one = to_depth params mark e case v values a in omega (arith, rest, one)
case_depth params marks e case values t vs = omega arith

pub case_large : (params : ℕ) (marks : List Bool) (e case : Tree) (values : List Tree) (t : Tree) (vs : List Tree) → is_small case ≡ false →
    is_small (case_by params marks e case values t vs) ≡ false
case_large params marks e case values t vs large =
    large_more case (case_by params marks e case values t vs) (case_size params marks e case values t vs) (case_depth params marks e case values t vs) large

-- a case that can't be applied to its first argument
pub case_stop : (stop : TermStop) (params : ℕ) (mark : Bool) (marks : List Bool) (e case : Tree) (values : List Tree) (n : List ℕ) (a b v : Tree) (vs : List Tree) →
    Gives {A = Tree} (Err stop) (within_limits (case_applied_to params mark e case v values a)) →
    Gives {A = Tree} (Err stop) (within_limits (case_by params (mark ∷ marks) e case values (Prod n a b) (v ∷ vs)))
case_stop stop params mark marks e case values n a b v vs gives =
    stopped stop (case_applied_to params mark e case v values a) (case_by params marks e (case_applied_to params mark e case v values a) (v ∷ values) b vs)
    (case_large params marks e (case_applied_to params mark e case v values a) (v ∷ values) b vs) gives

same_by : (b : Bool) (x t : Tree) → ◌≡◌ {A = Result Tree TermStop} (Ok x) (if b then Ok t else Err TooLarge) → x ≡ t
same_by true x t e = cc
same_by false x t e = cc

-- what was made is the term
pub same_term : (x t : Tree) → Ok x ≡ within_limits t → x ≡ t
same_term x t e = same_by (is_small t) x t e

pub spine_indices : (s : Spine) (u t : Tree) (params : ℕ) (xs : List Tree) → IsSpineOf s u → u ≡ t → xs ≡ drop params s.args → xs ≡ indices params t
spine_indices s u t params xs of same e =
    let args : arguments_of t ≡ s.args =
    ap arguments_of (sym (of.whole ∙ same)) ∙ arguments_applied s.head s.args ∙ ap (λ first. first ++ s.args) (no_arguments s.head of.head) in
    e ∙ ap (drop params) (sym args)

pub shift_few : (n : ℕ) (t u : Tree) → u ≡ shift t → free_bound t ≤ n → free_bound u ≤ n + 1
shift_few n t u e few = let free = free_bound-lifted t 1 0 in let same = ap free_bound e in omega (arith, free, few, same)

pub eta_few : (n : ℕ) (t u : Tree) → u ≡ eta_body t → free_bound t ≤ n → free_bound u ≤ n + 1
eta_few n t u e few = let free = free_bound-lifted t 1 0 in let same = ap free_bound e in omega (arith, free, few, same)

pub call_is : (params : ℕ) (e x d deeper applied body ty a b : Tree) (values under : List Tree) (n m : List ℕ) → ty ≡ Prod n a b → m ≡ n →
    d ≡ instantiate values a → deeper ≡ shift e → applied ≡ eta_body x → under ≡ values_under values → body ≡ recursive_call params deeper applied under b →
    Lam m d body ≡ recursive_call params e x values ty
call_is params e x d deeper applied body ty a b values under n m is name domain eliminator argument vs made =
    rw (is, name, domain, made, eliminator, argument, vs) refl

pub case_stop_by : (stop : TermStop) (params : ℕ) (mark : Bool) (marks all : List Bool) (e case : Tree) (values : List Tree) (n : List ℕ) (a b ty v : Tree) (vs args : List Tree) →
    all ≡ mark ∷ marks → ty ≡ Prod n a b → args ≡ v ∷ vs →
    Gives {A = Tree} (Err stop) (within_limits (case_applied_to params mark e case v values a)) →
    Gives {A = Tree} (Err stop) (within_limits (case_by params all e case values ty args))
case_stop_by stop params mark marks all e case values n a b ty v vs args is prod split gives =
    rw (is, prod, split) (case_stop stop params mark marks e case values n a b v vs gives)
