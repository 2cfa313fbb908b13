-- The first arguments of a term, and the last of them taken off.
use Rattle.std.specs.Prelude.{Result, Bool, true, false, Ok, Err, if◌then◌else◌, ◌≡◌, ℕ, zero, suc, ◌-◌, ◌≤◌, ◌<◌, List, [], ◌∷◌, length, take, refl}
use Rattle.std.proofs.Common.{ap, sym, subst, ◌∙◌, arith, length-append}
use Rattle.std.proofs.lemmas.List.{take-append-le}
use Rattle.core_term.specs.Answers.{within_limits, Gives}
use Rattle.core_term.specs.Tree.{Tree, Constant, App, is_small}
use Rattle.core_term.specs.declared.stops.TermStop.{TermStop}
use Rattle.core_term.specs.declared.stops.TermStop.TheVariants.{TooLarge, NoMem}
use Rattle.term_spine.specs.Spine.{arguments_of, apply_all}
use Rattle.term_spine.proofs.SpineFacts.{applied_twice, applied_too_large}
use Rattle.move_basic.specs.Constructors.{at_params}

take_all : {A : Type 0} (xs : List A) (k : ℕ) → length xs ≤ k → take k xs ≡ xs
take_all [] zero le = refl
take_all [] (suc k) le = refl
take_all (x ∷ xs) zero le = absurd (omega (arith, le))
take_all (x ∷ xs) (suc k) le = ap (λ ys. x ∷ ys) (take_all xs k (omega (arith, le)))

-- how many are left
pub all_kept : (params place : ℕ) (t : Tree) → length (arguments_of t) ≤ params →
    at_params (length (arguments_of t) - 0) place t ≡ at_params params place t
all_kept params place t le =
    ap (apply_all (Constant place))
    (take_all (arguments_of t) (length (arguments_of t) - 0) (omega arith) ∙ sym (take_all (arguments_of t) params le))

pub last_dropped : (params place count : ℕ) (t : Tree) → count ≡ length (arguments_of t) → params < count →
    at_params (length (arguments_of t) - (count - params)) place t ≡ at_params params place t
last_dropped params place count t e lt =
    let k : length (arguments_of t) - (count - params) ≡ params = omega (arith, e, lt) in ap (λ n. at_params n place t) k

-- an application without its last argument, and with all of them

pub without_last : (last place : ℕ) (f a : Tree) → 0 < last →
    at_params (length (arguments_of f) - (last - 1)) place f ≡ at_params (length (arguments_of (App f a)) - last) place (App f a)
without_last last place f a some =
    let count = length-append (arguments_of f) (a ∷ []) in
    let k : length (arguments_of (App f a)) - last ≡ length (arguments_of f) - (last - 1) = omega (arith, count, some) in
    ap (apply_all (Constant place)) (sym (take-append-le (length (arguments_of f) - (last - 1)) (arguments_of f) (a ∷ []) (omega arith)))
    ∙ ap (λ n. at_params n place (App f a)) (sym k)

with_last : (place : ℕ) (f a : Tree) →
    App (at_params (length (arguments_of f) - 0) place f) a ≡ at_params (length (arguments_of (App f a)) - 0) place (App f a)
with_last place f a =
    ap (λ xs. App (apply_all (Constant place) xs) a) (take_all (arguments_of f) (length (arguments_of f) - 0) (omega arith))
    ∙ sym (applied_twice (Constant place) (arguments_of f) (a ∷ []))
    ∙ ap (apply_all (Constant place)) (sym (take_all (arguments_of (App f a)) (length (arguments_of (App f a)) - 0) (omega arith)))

none_dropped : (last place : ℕ) (t f a : Tree) → App f a ≡ t → last ≡ 0 →
    App (at_params (length (arguments_of f) - 0) place f) a ≡ at_params (length (arguments_of t) - last) place t
none_dropped last place t f a is none =
    with_last place f a ∙ ap (λ u. at_params (length (arguments_of u) - 0) place u) is
    ∙ ap (λ n. at_params (length (arguments_of t) - n) place t) (sym none)

made_is : (b : Bool) (u v : Tree) → Gives {A = Tree} (Ok u) (if b then Ok v else Err TooLarge) → u ≡ v
made_is true u v made = cc
made_is false u v made = absurd (cc)

pub with_last_made : (last place : ℕ) (t f a u x : Tree) (made r : Result Tree TermStop) → App f a ≡ t → last ≡ 0 → x ≡ a →
    made ≡ Ok u → Gives made (within_limits (at_params (length (arguments_of f) - 0) place f)) → Gives r (within_limits (App u x)) →
    Gives r (within_limits (at_params (length (arguments_of t) - last) place t))
with_last_made last place t f a u x made r is none same found kept gives =
    let v = at_params (length (arguments_of f) - 0) place f in
    let u_is : u ≡ v = made_is (is_small v) u v (subst (λ (m : Result Tree TermStop). Gives m (within_limits v)) found kept) in
    let x_is : App u x ≡ App v a = ap (App u) same ∙ ap (λ w. App w a) u_is in
    subst (λ (w : Tree). Gives r (within_limits w)) (x_is ∙ none_dropped last place t f a is none) gives

-- an application whose function can't be made

large_by : (u v : Tree) (stop : TermStop) (b c : Bool) → (b ≡ false → c ≡ false) → Gives {A = Tree} (Err stop) (if b then Ok u else Err TooLarge) →
    Gives {A = Tree} (Err stop) (if c then Ok v else Err TooLarge)
large_by u v NoMem b c large gives = tt
large_by u v TooLarge true c large gives = cc
large_by u v TooLarge false c large gives = let e = large refl in rw e refl

pub with_last_stopped : (last place : ℕ) (t f a : Tree) (stop : TermStop) (made : Result Tree TermStop) → App f a ≡ t → last ≡ 0 →
    made ≡ Err stop → Gives made (within_limits (at_params (length (arguments_of f) - 0) place f)) →
    Gives {A = Tree} (Err stop) (within_limits (at_params (length (arguments_of t) - last) place t))
with_last_stopped last place t f a stop made is none found gives =
    let u = at_params (length (arguments_of f) - 0) place f in
    subst (λ (v : Tree). Gives {A = Tree} (Err stop) (within_limits v)) (none_dropped last place t f a is none)
    (large_by u (App u a) stop (is_small u) (is_small (App u a)) (λ large. applied_too_large u (a ∷ []) large)
    (subst (λ (m : Result Tree TermStop). Gives m (within_limits u)) found gives))
