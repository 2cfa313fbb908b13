-- Calls and cases: what is too large, and when values may be put in.
use Rattle.std.specs.Prelude.{◌≡◌, ℕ, ◌+◌, ◌≤◌, List, [], ◌∷◌, drop, Bool, true, false, Some, Result, Ok, Err, slice_get, refl}
use Rattle.std.proofs.Common.{arith, ap, sym, ◌∙◌, subst}
use Rattle.std.proofs.lemmas.Bool.Decides.{nat_tests}
use Rattle.core_term.specs.Tree.{Tree, Var, Sorted, Constant, Prod, Lam, LetIn, App, IsTerm, depth_of, size_of, is_small}
use Rattle.core_term.specs.Answers.{within_limits, Gives}
use Rattle.core_term.specs.declared.stops.TermStop.{TermStop}
use Rattle.core_term.proofs.Bounds.{size-lifted, depth-lifted}
use Rattle.core_term.proofs.FreeVariables.{free_bound-lifted}
use Rattle.term_spine.specs.SpineLaws.{AreOver}
use Rattle.term_spine.proofs.SpineFacts.{size_applied, depth_applied}
use Rattle.term_spine.specs.Spine.{apply_all, shift_all, eta_body}
use Rattle.term_spine.specs.Instantiate.{values_under, instantiate, instantiate_all}
use Rattle.cic_rules.specs.Families.{indices}
use Rattle.conversion.specs.Iota.{MayPutIn}
use Rattle.conversion.proofs.CaseLaws.{may_next, over_first, stopped, body_stop, app_stop, function_stop, drop_found, same_term}
use Rattle.move_compute.specs.Cases.{called, call_under, call_on, argument_on, case_on, IsCallOver}
use Rattle.move_compute.specs.declared.cases.Call.{Call}

large_more : (t u : Tree) → size_of t ≤ size_of u → depth_of t ≤ depth_of u → is_small t ≡ false → is_small u ≡ false
large_more t u size depth large = grind (arith, nat_tests)

shift_over : (n : ℕ) (values : List Tree) → AreOver n values → AreOver (n + 1) (shift_all values)
shift_over n [] over = tt
shift_over n (v ∷ vs) over = (let free = free_bound-lifted v 1 0 in omega (arith, free, over.0), shift_over n vs over.1)

-- a call one binder deeper speaks of one more variable
pub under_over : (vars : ℕ) (call deeper : Call) → deeper ≡ call_under call → IsCallOver vars call → IsCallOver (vars + 1) deeper
under_over vars call deeper is over =
    let few = over.front in
    let free = free_bound-lifted call.front 1 0 in
    subst (IsCallOver (vars + 1)) (sym is) (record { front = omega (arith, free, few); behind = shift_over vars call.behind over.behind })

-- the argument is a part of what is called on it
on_size : (f x : Tree) (behind : List Tree) → size_of x ≤ size_of (apply_all (App f x) behind)
on_size f x behind = let same = size_applied (App f x) behind in omega (arith, same)

on_depth : (f x : Tree) (behind : List Tree) → depth_of x ≤ depth_of (apply_all (App f x) behind)
on_depth f x behind = let same = depth_applied (App f x) behind in omega (arith, same)

call_size : (params : ℕ) (call : Call) (x : Tree) (values : List Tree) (t : Tree) → size_of x ≤ size_of (call_on params call x values t)
call_size params call x values (Prod n a b) =
    let rest = call_size params (call_under call) (eta_body x) (values_under values) b in
    let same = size-lifted x 1 0 in omega (arith, rest, same)
call_size params call x values (Var i) = on_size (apply_all call.front (instantiate_all values (indices params (Var i)))) x call.behind
call_size params call x values (Sorted s) = on_size (apply_all call.front (instantiate_all values (indices params (Sorted s)))) x call.behind
call_size params call x values (Constant k) = on_size (apply_all call.front (instantiate_all values (indices params (Constant k)))) x call.behind
call_size params call x values (Lam n a b) = on_size (apply_all call.front (instantiate_all values (indices params (Lam n a b)))) x call.behind
call_size params call x values (LetIn n a u b) = on_size (apply_all call.front (instantiate_all values (indices params (LetIn n a u b)))) x call.behind
call_size params call x values (App f a) = on_size (apply_all call.front (instantiate_all values (indices params (App f a)))) x call.behind

call_depth : (params : ℕ) (call : Call) (x : Tree) (values : List Tree) (t : Tree) → depth_of x ≤ depth_of (call_on params call x values t)
call_depth params call x values (Prod n a b) =
    let rest = call_depth params (call_under call) (eta_body x) (values_under values) b in
    let same = depth-lifted x 1 0 in omega (arith, rest, same)
call_depth params call x values (Var i) = on_depth (apply_all call.front (instantiate_all values (indices params (Var i)))) x call.behind
call_depth params call x values (Sorted s) = on_depth (apply_all call.front (instantiate_all values (indices params (Sorted s)))) x call.behind
call_depth params call x values (Constant k) = on_depth (apply_all call.front (instantiate_all values (indices params (Constant k)))) x call.behind
call_depth params call x values (Lam n a b) = on_depth (apply_all call.front (instantiate_all values (indices params (Lam n a b)))) x call.behind
call_depth params call x values (LetIn n a u b) = on_depth (apply_all call.front (instantiate_all values (indices params (LetIn n a u b)))) x call.behind
call_depth params call x values (App f a) = on_depth (apply_all call.front (instantiate_all values (indices params (App f a)))) x call.behind

-- so an argument under a binder that is too large makes the call too large
pub eta_stop : (stop : TermStop) (params : ℕ) (n : List ℕ) (call : Call) (x : Tree) (values : List Tree) (a b : Tree) →
    Gives {A = Tree} (Err stop) (within_limits (eta_body x)) → Gives {A = Tree} (Err stop) (within_limits (call_on params call x values (Prod n a b)))
eta_stop stop params n call x values a b gives =
    body_stop stop n (instantiate values a) (call_on params (call_under call) (eta_body x) (values_under values) b)
    (stopped stop (eta_body x) (call_on params (call_under call) (eta_body x) (values_under values) b)
    (λ large. large_more (eta_body x) (call_on params (call_under call) (eta_body x) (values_under values) b)
    (call_size params (call_under call) (eta_body x) (values_under values) b) (call_depth params (call_under call) (eta_body x) (values_under values) b) large) gives)

pub call_is : (params : ℕ) (call deeper : Call) (x d applied body ty a b : Tree) (values under : List Tree) (n m : List ℕ) → ty ≡ Prod n a b → m ≡ n →
    d ≡ instantiate values a → deeper ≡ call_under call → applied ≡ eta_body x → under ≡ values_under values → body ≡ call_on params deeper applied under b →
    Lam m d body ≡ call_on params call x values ty
call_is params call deeper x d applied body ty a b values under n m is name domain front argument vs made =
    rw (is, name, domain, made, front, argument, vs) refl

-- a case is smaller than what it is applied to
to_size : (params : ℕ) (mark : Bool) (call : Call) (case v : Tree) (values : List Tree) (a : Tree) → size_of case ≤ size_of (argument_on params mark call case v values a)
to_size params false call case v values a = omega arith
to_size params true call case v values a = omega arith

to_depth : (params : ℕ) (mark : Bool) (call : Call) (case v : Tree) (values : List Tree) (a : Tree) → depth_of case ≤ depth_of (argument_on params mark call case v values a)
to_depth params false call case v values a = omega arith
to_depth params true call case v values a = omega arith

case_size : (params : ℕ) (marks : List Bool) (call : Call) (case : Tree) (values : List Tree) (t : Tree) (vs : List Tree) →
    size_of case ≤ size_of (case_on params marks call case values t vs)
case_size params (mark ∷ marks) call case values (Prod n a b) (v ∷ vs) =
    let rest = case_size params marks call (argument_on params mark call case v values a) (v ∷ values) b vs in
    let one = to_size params mark call case v values a in omega (arith, rest, one)
case_size params marks call case values t vs = omega arith

case_depth : (params : ℕ) (marks : List Bool) (call : Call) (case : Tree) (values : List Tree) (t : Tree) (vs : List Tree) →
    depth_of case ≤ depth_of (case_on params marks call case values t vs)
case_depth params (mark ∷ marks) call case values (Prod n a b) (v ∷ vs) =
    let rest = case_depth params marks call (argument_on params mark call case v values a) (v ∷ values) b vs in
    let one = to_depth params mark call case v values a in omega (arith, rest, one)
case_depth params marks call case values t vs = omega arith

pub case_large : (params : ℕ) (marks : List Bool) (call : Call) (case : Tree) (values : List Tree) (t : Tree) (vs : List Tree) → is_small case ≡ false →
    is_small (case_on params marks call case values t vs) ≡ false
case_large params marks call case values t vs large =
    large_more case (case_on params marks call case values t vs) (case_size params marks call case values t vs) (case_depth params marks call case values t vs) large

-- a case that can't be applied to its first argument
pub case_stop : (stop : TermStop) (params : ℕ) (mark : Bool) (marks all : List Bool) (call : Call) (case : Tree) (values : List Tree) (n : List ℕ) (a b ty v : Tree) (vs args : List Tree) →
    all ≡ mark ∷ marks → ty ≡ Prod n a b → args ≡ v ∷ vs →
    Gives {A = Tree} (Err stop) (within_limits (argument_on params mark call case v values a)) →
    Gives {A = Tree} (Err stop) (within_limits (case_on params all call case values ty args))
case_stop stop params mark marks all call case values n a b ty v vs args is prod split gives =
    rw (is, prod, split) (stopped stop (argument_on params mark call case v values a) (case_on params marks call (argument_on params mark call case v values a) (v ∷ values) b vs)
    (case_large params marks call (argument_on params mark call case v values a) (v ∷ values) b vs) gives)

-- a term applied to values one after the other
pub from_next : (function next value item : Tree) (values : List Tree) (at : ℕ) (r : Result Tree TermStop) → Some item ≡ slice_get values at → value ≡ item →
    Ok next ≡ within_limits (App function value) → Gives r (within_limits (apply_all next (drop (at + 1) values))) →
    Gives r (within_limits (apply_all function (drop at values)))
from_next function next value item values at r found same made gives =
    let cut = drop_found values at item (sym found) in
    let is : next ≡ App function item = same_term next (App function value) made ∙ ap (App function) same in
    let whole : apply_all next (drop (at + 1) values) ≡ apply_all function (drop at values) =
    ap (λ f. apply_all f (drop (at + 1) values)) is ∙ sym (ap (apply_all function) cut) in
    subst (λ t. Gives r (within_limits t)) whole gives

pub from_stop : (function value item : Tree) (values : List Tree) (at : ℕ) (stop : TermStop) → Some item ≡ slice_get values at → value ≡ item →
    Gives {A = Tree} (Err stop) (within_limits (App function value)) → Gives {A = Tree} (Err stop) (within_limits (apply_all function (drop at values)))
from_stop function value item values at stop found same gives =
    let cut = drop_found values at item (sym found) in
    let part = app_stop stop (App function value) (drop (at + 1) values) gives in
    let whole : apply_all (App function value) (drop (at + 1) values) ≡ apply_all function (drop at values) =
    ap (λ v. apply_all (App function v) (drop (at + 1) values)) same ∙ sym (ap (apply_all function) cut) in
    subst (λ t. Gives {A = Tree} (Err stop) (within_limits t)) whole part

-- a call that can't be made, by its function, or by what is called on the argument
pub front_stop : (params : ℕ) (call : Call) (x : Tree) (values : List Tree) (t front ty : Tree) (stop : TermStop) → front ≡ call.front → ty ≡ t →
    Gives {A = Tree} (Err stop) (within_limits (apply_all front (instantiate_all values (indices params ty)))) →
    Gives {A = Tree} (Err stop) (within_limits (called params call x values t))
front_stop params call x values t front ty stop one two gives =
    let whole : apply_all front (instantiate_all values (indices params ty)) ≡ apply_all call.front (instantiate_all values (indices params t)) =
    rw (one, two) refl in
    let told = subst (λ u. Gives {A = Tree} (Err stop) (within_limits u)) whole gives in
    app_stop stop (App (apply_all call.front (instantiate_all values (indices params t))) x) call.behind
    (function_stop stop (apply_all call.front (instantiate_all values (indices params t))) x told)

function_is : (params : ℕ) (call : Call) (values : List Tree) (t front ty function : Tree) → front ≡ call.front → ty ≡ t →
    Ok function ≡ within_limits (apply_all front (instantiate_all values (indices params ty))) → function ≡ apply_all call.front (instantiate_all values (indices params t))
function_is params call values t front ty function one two made =
    let whole : apply_all front (instantiate_all values (indices params ty)) ≡ apply_all call.front (instantiate_all values (indices params t)) =
    rw (one, two) refl in
    same_term function (apply_all front (instantiate_all values (indices params ty))) made ∙ whole

pub called_stop : (params : ℕ) (call : Call) (x : Tree) (values : List Tree) (t front ty function y : Tree) (stop : TermStop) → front ≡ call.front → ty ≡ t → y ≡ x →
    Ok function ≡ within_limits (apply_all front (instantiate_all values (indices params ty))) → Gives {A = Tree} (Err stop) (within_limits (App function y)) →
    Gives {A = Tree} (Err stop) (within_limits (called params call x values t))
called_stop params call x values t front ty function y stop one two three made gives =
    let is = function_is params call values t front ty function one two made in
    let whole : App function y ≡ App (apply_all call.front (instantiate_all values (indices params t))) x = rw (is, three) refl in
    app_stop stop (App (apply_all call.front (instantiate_all values (indices params t))) x) call.behind
    (subst (λ u. Gives {A = Tree} (Err stop) (within_limits u)) whole gives)

pub called_is : (params : ℕ) (call : Call) (x : Tree) (values : List Tree) (t front ty function y called_term : Tree) (r : Result Tree TermStop) → front ≡ call.front → ty ≡ t → y ≡ x →
    Ok function ≡ within_limits (apply_all front (instantiate_all values (indices params ty))) → Ok called_term ≡ within_limits (App function y) →
    Gives r (within_limits (apply_all called_term (drop 0 call.behind))) → Gives r (within_limits (called params call x values t))
called_is params call x values t front ty function y called_term r one two three made applied gives =
    let is = function_is params call values t front ty function one two made in
    let whole : called_term ≡ App (apply_all call.front (instantiate_all values (indices params t))) x =
    same_term called_term (App function y) applied ∙ rw (is, three) refl in
    subst (λ u. Gives r (within_limits (apply_all u call.behind))) whole gives

-- a call whose body can't be made
pub inner_stop : (params : ℕ) (call deeper : Call) (x applied ty a b : Tree) (values under : List Tree) (n : List ℕ) (stop : TermStop) → ty ≡ Prod n a b →
    deeper ≡ call_under call → Ok applied ≡ within_limits (eta_body x) → under ≡ values_under values →
    Gives {A = Tree} (Err stop) (within_limits (call_on params deeper applied under b)) → Gives {A = Tree} (Err stop) (within_limits (call_on params call x values ty))
inner_stop params call deeper x applied ty a b values under n stop is one two three gives =
    let app = same_term applied (eta_body x) two in
    let whole : call_on params deeper applied under b ≡ call_on params (call_under call) (eta_body x) (values_under values) b = rw (one, app, three) refl in
    let told = subst (λ u. Gives {A = Tree} (Err stop) (within_limits u)) whole gives in
    rw is (body_stop stop n (instantiate values a) (call_on params (call_under call) (eta_body x) (values_under values) b) told)

pub next_values : (vars : ℕ) (values made : List Tree) (ty : Tree) (n : List ℕ) (a b v : Tree) (args rest : List Tree) → ty ≡ Prod n a b → args ≡ v ∷ rest →
    made ≡ v ∷ values → MayPutIn vars values ty → AreOver vars args → IsTerm v → MayPutIn vars made b
next_values vars values made ty n a b v args rest prod split same may over is =
    subst (λ vs. MayPutIn vars vs b) (sym same)
    (may_next vars values n a b v (subst (MayPutIn vars values) prod may) (over_first vars args v rest split over) is)
