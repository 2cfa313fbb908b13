-- The whole term of a proof.
use Rattle.std.proofs.Common.{◌≡◌, ◌≢◌, ℕ, ◌+◌, ◌-◌, ◌<◌, ◌≤◌, zero, suc, List, [], ◌∷◌, length, take, drop, get_or, slice_get, Option, Result, Some, None, Ok, Err, Bool, true, false, if◌then◌else◌, map, refl, sym, ◌∙◌, ap, subst, arith, length-drop}
use Rattle.std.proofs.lemmas.Bool.Decides.{nat_tests}
use Rattle.core_term.specs.Tree.{Tree, Lam, LetIn, App, is_small, size_of, depth_of, IsTerm}
use Rattle.cic_rules.specs.declared.context.Hyp.{Hyp}
use Rattle.proof_state.specs.declared.parts.Part.{Part}
use Rattle.proof_state.specs.declared.parts.Part.TheVariants.{Open, GivenUp, Filled}
use Rattle.proof_state.specs.declared.state.Table.{Table}
use Rattle.proof_state.specs.Partial.{Partial, Ready, Hole, Abstracts, Defines, Applies, holes, plugged, whole}
use Rattle.proof_state.specs.Steps.{abstracted, bounded, closed}
use Rattle.base_core.specs.Answers.{Gives}
use Rattle.base_core.specs.declared.refusals.Stop.{Stop}
use Rattle.base_core.specs.declared.refusals.Stop.TheVariants.{Refused, Out, NoMem}
use Rattle.base_core.specs.declared.refusals.Limit.TheVariants.{SizeLimit}
use Rattle.proof_state.specs.Table.{status_of, stands_for, AreWithin, IsPart, IsTable, held, IsKept}
use Rattle.proof_state.specs.Closing.{if_small, around, applied, plugged_if_small, term_of, terms_from, IsSolved, AreSolved}
use Rattle.proof_state.specs.IsProof.{times, holes_of}
use Rattle.proof_state.proofs.Numbers.{Compared, Same, Other, compare}
use Rattle.proof_state.proofs.HoleLaws.{plugged_replaced}
use Rattle.proof_state.proofs.Keeps.{empty_by}

-- a term that another one is in is too large only where that is
small_inside : (t u : Tree) → size_of t ≤ size_of u → depth_of t ≤ depth_of u → is_small t ≡ false → is_small u ≡ false
small_inside t u size depth large = grind (arith, nat_tests, large)

if_small_is : (t : Tree) → is_small t ≡ true → if_small t ≡ Some t
if_small_is t small = rw small refl

if_large_is : (t : Tree) → is_small t ≡ false → if_small t ≡ None
if_large_is t large = rw large refl

-- a small term is itself
pub term_itself : (t : Tree) → IsTerm t → Some t ≡ if_small t
term_itself t is = let small : is_small t ≡ true = grind (arith, nat_tests, is.small, is.shallow) in sym (if_small_is t small)

around_by : (b : Bool) (f : Tree → Tree) (t : Tree) → is_small t ≡ b → (is_small t ≡ false → is_small (f t) ≡ false) → around f (if_small t) ≡ if_small (f t)
around_by true f t small grows = ap (around f) (if_small_is t small)
around_by false f t large grows = ap (around f) (if_large_is t large) ∙ sym (if_large_is (f t) (grows large))

around_small : (f : Tree → Tree) (t : Tree) → (is_small t ≡ false → is_small (f t) ≡ false) → around f (if_small t) ≡ if_small (f t)
around_small f t grows = around_by (is_small t) f t refl grows

lam_grows : (n : List ℕ) (a t : Tree) → is_small t ≡ false → is_small (Lam n a t) ≡ false
lam_grows n a t large = small_inside t (Lam n a t) (omega arith) (omega arith) large

let_grows : (n : List ℕ) (a v t : Tree) → is_small t ≡ false → is_small (LetIn n a v t) ≡ false
let_grows n a v t large = small_inside t (LetIn n a v t) (omega arith) (omega arith) large

applied_by : (b : Bool) (f a : Tree) → is_small f ≡ b → applied (if_small f) (if_small a) ≡ if_small (App f a)
applied_by true f a small =
    ap (λ (x : Option Tree). applied x (if_small a)) (if_small_is f small) ∙ around_small (App f) a (λ large. small_inside a (App f a) (omega arith) (omega arith) large)
applied_by false f a large =
    ap (λ (x : Option Tree). applied x (if_small a)) (if_large_is f large)
    ∙ sym (if_large_is (App f a) (small_inside f (App f a) (omega arith) (omega arith) large))

-- a sketch with small terms at its holes is small, or it is none
plugged_small : (s : Partial ℕ) (from to : ℕ) (at : ℕ → Option Tree) (v : ℕ → Tree) → AreWithin from to s →
    ((m : ℕ) → from ≤ m → m < to → at m ≡ if_small (v m)) → plugged_if_small at s ≡ if_small (plugged v s)
plugged_small (Ready t) from to at v within same = refl
plugged_small (Hole m) from to at v within same = same m within.0 within.1
plugged_small (Abstracts n a p) from to at v within same =
    ap (around (Lam n a)) (plugged_small p from to at v within same) ∙ around_small (Lam n a) (plugged v p) (lam_grows n a (plugged v p))
plugged_small (Defines n a t p) from to at v within same =
    ap (around (LetIn n a t)) (plugged_small p from to at v within same) ∙ around_small (LetIn n a t) (plugged v p) (let_grows n a t (plugged v p))
plugged_small (Applies f a) from to at v within same =
    let left : plugged_if_small at f ≡ if_small (plugged v f) = plugged_small f from to at v within.0 same in
    let right : plugged_if_small at a ≡ if_small (plugged v a) = plugged_small a from to at v within.1 same in
    ap (λ (x : Option Tree). applied x (plugged_if_small at a)) left ∙ ap (λ (x : Option Tree). applied (if_small (plugged v f)) x) right ∙ applied_by (is_small (plugged v f)) (plugged v f) (plugged v a) refl

term_first : (first m : ℕ) (x : Option Tree) (xs : List (Option Tree)) → m ≡ first → term_of first (x ∷ xs) m ≡ x
term_first first m x xs same = let e : m - first ≡ 0 = omega arith in rw e refl

term_later : (first m : ℕ) (x : Option Tree) (xs : List (Option Tree)) → first ≤ m → m ≢ first → term_of first (x ∷ xs) m ≡ term_of (suc first) xs m
term_later first m x xs from other = let e : m - first ≡ suc (m - suc first) = omega arith in rw e refl

terms_by : (s : Partial ℕ) (ps : List Part) (first m to : ℕ) → Compared m first → first ≤ m → m < to → AreWithin (suc first) to s →
    ((k : ℕ) → suc first ≤ k → k < to → term_of (suc first) (terms_from (suc first) ps) k ≡ if_small (whole (stands_for (suc first) ps k))) →
    term_of first (terms_from first (Filled s ∷ ps)) m ≡ if_small (whole (stands_for first (Filled s ∷ ps) m))
terms_by s ps first m to (Same e is) from before within later =
    rw is (term_first first m _ _ e ∙ plugged_small s (suc first) to _ (λ k. whole (stands_for (suc first) ps k)) within later
    ∙ ap if_small (sym (plugged_replaced s (stands_for (suc first) ps) _)))
terms_by s ps first m to (Other o is) from before within later =
    rw is (term_later first m _ _ from o ∙ later m (omega arith) before)

-- the terms of a solved table are those of what stands for its numbers
pub terms_stand : (ps : List Part) (first m to : ℕ) → first ≤ m → m < to → to ≡ first + length ps → IsTable first to ps → AreSolved ps →
    term_of first (terms_from first ps) m ≡ if_small (whole (stands_for first ps m))
terms_stand [] first m to from before ends table solved = absurd (omega arith)
terms_stand (Open g ∷ ps) first m to from before ends table solved = absurd solved.0
terms_stand (GivenUp g ∷ ps) first m to from before ends table solved = absurd solved.0
terms_stand (Filled s ∷ ps) first m to from before ends table solved =
    let later : (k : ℕ) → suc first ≤ k → k < to → term_of (suc first) (terms_from (suc first) ps) k ≡ if_small (whole (stands_for (suc first) ps k)) =
    λ k low high. terms_stand ps (suc first) k to low high (omega arith) table.1 solved.1 in
    terms_by s ps first m to (compare m first) from before table.0 later

-- from the place of an item on, the list is that item and what is behind it
drop_at : {X : Type 0} (xs : List X) (i : ℕ) (x : X) → slice_get xs i ≡ Some x → drop i xs ≡ x ∷ drop (i + 1) xs
drop_at [] i x there = cc
drop_at (y ∷ ys) zero x there = cc
drop_at (y ∷ ys) (suc i) x there = let e : suc i + 1 ≡ suc (i + 1) = omega arith in rw e (drop_at ys i x there)

-- the next sketch in front of the terms of those behind it
pub next_term : (ps : List Part) (n : ℕ) (p : Part) (s : Partial ℕ) (terms : List (Option Tree)) (t : Option Tree) → slice_get ps n ≡ Some p → p ≡ Filled s →
    terms ≡ terms_from (n + 1) (drop (n + 1) ps) → t ≡ plugged_if_small (term_of (n + 1) terms) s → t ∷ terms ≡ terms_from n (drop n ps)
next_term ps n p s terms t there same before is =
    let front = drop_at ps n (Filled s) (there ∙ ap (λ (x : Part). Some x) same) in
    let e : n + 1 ≡ suc n = omega arith in
    rw (front, ← e) (rw (is, before) refl)

terms_length : (ps : List Part) (first : ℕ) → length (terms_from first ps) ≡ length ps
terms_length [] first = refl
terms_length (p ∷ ps) first = ap suc (terms_length ps (suc first))

part_kept : (ps : List Part) (first k to : ℕ) (s : Partial ℕ) → IsTable first to ps → slice_get ps k ≡ Some (Filled s) → AreWithin (suc (first + k)) to s
part_kept [] first k to s table there = cc
part_kept (p ∷ ps) first zero to s table there =
    let same : p ≡ Filled s = cc in
    let e : first + 0 ≡ first = omega arith in
    let mine : IsPart (suc first) to (Filled s) = subst (λ (x : Part). IsPart (suc first) to x) same table.0 in
    rw e mine
part_kept (p ∷ ps) first (suc k) to s table there = let e : first + suc k ≡ suc first + k = omega arith in rw e (part_kept ps (suc first) k to s table.1 there)

pub next_within : (ps : List Part) (n : ℕ) (p : Part) (s : Partial ℕ) (terms : List (Option Tree)) → IsTable 0 (length ps) ps → slice_get ps n ≡ Some p → p ≡ Filled s →
    n < length ps → terms ≡ terms_from (n + 1) (drop (n + 1) ps) → AreWithin (n + 1) (n + 1 + length terms) s
next_within ps n p s terms table there same before is =
    let count : length terms ≡ length ps - (n + 1) = ap length is ∙ terms_length (drop (n + 1) ps) (n + 1) ∙ length-drop (n + 1) ps in
    let kept = part_kept ps 0 n (length ps) s table (there ∙ ap (λ (x : Part). Some x) same) in
    let e : suc (0 + n) ≡ n + 1 = omega arith in
    let f : n + 1 + length terms ≡ length ps = omega arith in
    rw f (rw e at kept)

pub part_solved : (ps : List Part) (n : ℕ) (p : Part) → AreSolved ps → slice_get ps n ≡ Some p → IsSolved p
part_solved [] n p solved there = cc
part_solved (q ∷ ps) zero p solved there = let same : q ≡ p = cc in subst IsSolved same solved.0
part_solved (q ∷ ps) (suc n) p solved there = part_solved ps n p solved.1 there

-- where no hole is left, all is solved
parts_solved : (ps : List Part) → ((n : ℕ) → 0 ≡ holes_of (slice_get (map status_of ps) n)) → AreSolved ps
parts_solved [] none = tt
parts_solved (Open g ∷ ps) none = absurd (omega (arith, none 0))
parts_solved (GivenUp g ∷ ps) none = absurd (omega (arith, none 0))
parts_solved (Filled s ∷ ps) none = (tt, parts_solved ps (λ n. none (suc n)))

pub all_solved : (t : Table) → IsKept t → holes (held t).term ≡ [] → AreSolved t.parts
all_solved t kept none = parts_solved t.parts (λ n. ap (λ (l : List ℕ). times n l) (sym none) ∙ kept.proof.holes n)

first_there : (ps : List Part) → holes (stands_for 0 ps 0) ≡ [] → 0 < length ps
first_there [] none = cc
first_there (p ∷ ps) none = omega arith

-- the term of a proof without holes, if it is small
pub whole_term : (t : Table) (found : Option Tree) → IsKept t → holes (held t).term ≡ [] → found ≡ term_of 0 (terms_from 0 t.parts) 0 → found ≡ if_small (whole (held t).term)
whole_term t found kept none is =
    is ∙ terms_stand t.parts 0 0 (length t.parts) (omega arith) (first_there t.parts none) (omega arith) kept.table (all_solved t kept none)

-- functions over hypotheses only grow
abstracted_grows : (hs : List Hyp) (t : Tree) → is_small t ≡ false → is_small (abstracted hs t) ≡ false
abstracted_grows [] t large = large
abstracted_grows (h ∷ hs) t large = abstracted_grows hs (Lam h.name h.ty t) (lam_grows h.name h.ty t large)

-- no term past the end
pub term_none : (terms : List (Option Tree)) (n : ℕ) → None ≡ slice_get terms n → None ≡ get_or terms n None
term_none [] n none = refl
term_none (t ∷ terms) zero none = cc
term_none (t ∷ terms) (suc n) none = term_none terms n none

-- the functions over the hypotheses that are left
pub abstracted_next : (hs : List Hyp) (i : ℕ) (h : Hyp) (t u all : Tree) → slice_get hs i ≡ Some h → u ≡ Lam h.name h.ty t → abstracted (drop i hs) t ≡ all →
    abstracted (drop (i + 1) hs) u ≡ all
abstracted_next hs i h t u all there is before =
    let front : abstracted (drop i hs) t ≡ abstracted (drop (i + 1) hs) (Lam h.name h.ty t) = rw (drop_at hs i h there) refl in
    rw is (sym front ∙ before)

abbrev bounded_by : Bool → Tree → Result Tree Stop
bounded_by b t = if b then Ok t else Err (Out SizeLimit)

made_by : (b : Bool) (t u : Tree) → Ok t ≡ bounded_by b u → t ≡ u
made_by true t u is = cc
made_by false t u is = cc

pub made_is : (t u : Tree) → Ok t ≡ bounded u → t ≡ u
made_is t u is = made_by (is_small u) t u is

large_by : (b : Bool) (u : Tree) (stop : Stop) → is_small u ≡ b → Err stop ≡ bounded_by b u → (is_small u ≡ false) × (stop ≡ Out SizeLimit)
large_by true u stop test is = cc
large_by false u stop test is = (test, cc)

-- where the term is too large, so is every function over it
large_over : (hs : List Hyp) (u : Tree) (stop : Stop) → Err stop ≡ bounded u → Err stop ≡ bounded (abstracted hs u)
large_over hs u stop is =
    let large = large_by (is_small u) u stop refl is in
    let more : is_small (abstracted hs u) ≡ false = abstracted_grows hs u large.0 in
    rw (more, large.1) refl

large_gives : (hs : List Hyp) (u : Tree) (stop : Stop) → Gives (Err stop) (bounded u) → Gives (Err stop) (bounded (abstracted hs u))
large_gives hs u (Refused r) is = large_over hs u (Refused r) is
large_gives hs u (Out l) is = large_over hs u (Out l) is
large_gives hs u NoMem is = tt

-- a function over a hypothesis that is too large, with hypotheses left
pub abstracted_ends : (hs : List Hyp) (i : ℕ) (h : Hyp) (t all : Tree) (stop : Stop) → slice_get hs i ≡ Some h → Gives (Err stop) (bounded (Lam h.name h.ty t)) →
    abstracted (drop i hs) t ≡ all → Gives (Err stop) (bounded all)
abstracted_ends hs i h t all stop there is before =
    let front : abstracted (drop i hs) t ≡ abstracted (drop (i + 1) hs) (Lam h.name h.ty t) = rw (drop_at hs i h there) refl in
    subst (λ (x : Tree). Gives (Err stop) (bounded x)) (sym front ∙ before) (large_gives (drop (i + 1) hs) (Lam h.name h.ty t) stop is)

small_by : (b : Bool) (t w : Tree) → is_small w ≡ b → Some t ≡ if_small w → t ≡ w
small_by true t w small is = let itself = if_small_is w small in cc
small_by false t w large is = let none = if_large_is w large in cc

none_by : (b : Bool) (w : Tree) → is_small w ≡ b → None ≡ if_small w → is_small w ≡ false
none_by true w small is = let itself = if_small_is w small in cc
none_by false w large is = large

-- the functions over the hypotheses around the whole term
pub close_some : (t : Table) (body : Tree) (result : Result Tree Stop) → IsKept t → holes (held t).term ≡ [] →
    Some body ≡ term_of 0 (terms_from 0 t.parts) 0 → Gives result (bounded (abstracted t.hyps body)) → Gives result (bounded (closed (held t)))
close_some t body result kept none is gives =
    let same = small_by (is_small (whole (held t).term)) body (whole (held t).term) refl (whole_term t (Some body) kept none is) in
    subst (λ (x : Tree). Gives result (bounded (abstracted t.hyps x))) same gives

-- or nothing, where that is too large
pub close_none : (t : Table) → IsKept t → holes (held t).term ≡ [] → None ≡ term_of 0 (terms_from 0 t.parts) 0 →
    Err (Out SizeLimit) ≡ bounded (closed (held t))
close_none t kept none is =
    let large = none_by (is_small (whole (held t).term)) (whole (held t).term) refl (whole_term t None kept none is) in
    let more : is_small (closed (held t)) ≡ false = abstracted_grows t.hyps (whole (held t).term) large in
    rw more refl

-- one solved part more
pub solved_next : (ps : List Part) (n : ℕ) (p : Part) → slice_get ps n ≡ Some p → IsSolved p → AreSolved (take n ps) → AreSolved (take (n + 1) ps)
solved_next [] n p there here before = cc
solved_next (q ∷ ps) zero p there here before =
    let same : q ≡ p = cc in
    rw same (here, tt)
solved_next (q ∷ ps) (suc n) p there here before =
    let e : suc n + 1 ≡ suc (n + 1) = omega arith in
    rw e (before.0, solved_next ps n p there here before.1)

solved_holes : (ps : List Part) (n : ℕ) → AreSolved ps → holes_of (slice_get (map status_of ps) n) ≡ 0
solved_holes [] n solved = refl
solved_holes (Open g ∷ ps) n solved = absurd solved.0
solved_holes (GivenUp g ∷ ps) n solved = absurd solved.0
solved_holes (Filled s ∷ ps) zero solved = refl
solved_holes (Filled s ∷ ps) (suc n) solved = solved_holes ps n solved.1

-- where all is solved, no hole is left
pub solved_whole : (t : Table) → IsKept t → AreSolved t.parts → holes (held t).term ≡ []
solved_whole t kept solved = empty_by (holes (held t).term) (λ n. kept.proof.holes n ∙ solved_holes t.parts n solved)
