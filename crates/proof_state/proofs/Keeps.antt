-- Steps keep what is true of a proof.
use Rattle.std.proofs.Common.{◌≡◌, ◌≢◌, ℕ, ◌+◌, ◌-◌, ◌*◌, ◌<◌, ◌≤◌, zero, suc, List, [], ◌∷◌, ◌++◌, map, length, slice_get, slice_set, Option, Some, None, Ok, Err, Bool, true, false, if◌then◌else◌, nat_le, nat_lt, refl, sym, ◌∙◌, ap, subst, arith, length-append, length-set}
use Rattle.std.proofs.lemmas.Bool.Decides.{nat_tests}
use Rattle.std.specs.List.{range_with_len}
use Rattle.std.proofs.lemmas.Option.{slice_get_past, slice_get_within}
use Rattle.base_core.specs.declared.refusals.Stop.TheVariants.{Out}
use Rattle.base_core.specs.declared.refusals.Limit.TheVariants.{SizeLimit}
use Rattle.core_term.specs.Tree.{Tree}
use Rattle.cic_rules.specs.declared.context.Hyp.{Hyp}
use Rattle.cic_rules.specs.Contexts.{IsIn, AreParams, plain_hyp, defined_hyp}
use Rattle.proof_state.specs.declared.goals.Goal.{Goal}
use Rattle.proof_state.specs.declared.goals.TheConstants.{GOAL_LIMIT}
use Rattle.proof_state.specs.declared.state.Filling.{Filling}
use Rattle.proof_state.specs.declared.state.Filling.TheVariants.{Give, Admit}
use Rattle.proof_state.specs.declared.state.Refined.{Refined}
use Rattle.proof_state.specs.Partial.{Partial, Ready, Hole, Abstracts, Defines, Applies, holes, numbered, filling, fill}
use Rattle.proof_state.specs.Proof.{GoalStatus, Unsolved, GivenUp, Solved, Proof}
use Rattle.proof_state.specs.Steps.{started, only_unsolved, unsolved_at, goal_if_any, goal_at, unnamed, unnamed_hyp, StandsIn, Fits, MayFill, abandoned_at, abandoned, filled, refined, refined_by}
use Rattle.proof_state.specs.IsProof.{times, holes_of, told_of, IsThere, Stand, HaveGoals, IsProof}
use Rattle.proof_state.specs.Laws.{StepsKeepProofs, StepsKeepGoals, StepsCloseGoals, WholeWhereSolved, UnsolvedMayBeFilled}
use Rattle.proof_state.proofs.Numbers.{Compared, Same, Other, compare}
use Rattle.proof_state.proofs.HoleLaws.{filling_here, filling_other}
use Rattle.proof_state.proofs.Counts.{one_if, one_same, one_other, times_append, times_filled, holes_numbered, times_before, times_past, times_within}

-- look-ups after a change

pub get_here : {X : Type 0} (xs ys : List X) (n : ℕ) (x old : X) → slice_get xs n ≡ Some old → slice_get (slice_set xs n x ++ ys) n ≡ Some x
get_here [] ys n x old there = cc
get_here (y ∷ xs) ys zero x old there = refl
get_here (y ∷ xs) ys (suc n) x old there = get_here xs ys n x old there

get_front : {X : Type 0} (xs ys : List X) (m : ℕ) → m < length xs → slice_get (xs ++ ys) m ≡ slice_get xs m
get_front [] ys m before = absurd (omega arith)
get_front (x ∷ xs) ys zero before = refl
get_front (x ∷ xs) ys (suc m) before = get_front xs ys m (omega arith)

get_back : {X : Type 0} (xs ys : List X) (k : ℕ) → slice_get (xs ++ ys) (length xs + k) ≡ slice_get ys k
get_back [] ys k = let e : 0 + k ≡ k = omega arith in rw e refl
get_back (x ∷ xs) ys k = let e : suc (length xs) + k ≡ suc (length xs + k) = omega arith in rw e (get_back xs ys k)

pub get_other : {X : Type 0} (xs ys : List X) (n m : ℕ) (x : X) → m < length xs → m ≢ n → slice_get (slice_set xs n x ++ ys) m ≡ slice_get xs m
get_other [] ys n m x before other = absurd (omega arith)
get_other (y ∷ xs) ys zero zero x before other = absurd (other refl)
get_other (y ∷ xs) ys zero (suc m) x before other = get_front xs ys m (omega arith)
get_other (y ∷ xs) ys (suc n) zero x before other = refl
get_other (y ∷ xs) ys (suc n) (suc m) x before other = get_other xs ys n m x (omega arith) (λ s. other (ap suc s))

pub get_new : {X : Type 0} (xs ys : List X) (n k : ℕ) (x : X) → slice_get (slice_set xs n x ++ ys) (length xs + k) ≡ slice_get ys k
get_new [] ys n k x = let e : 0 + k ≡ k = omega arith in rw e refl
get_new (y ∷ xs) ys zero k x = let e : suc (length xs) + k ≡ suc (length xs + k) = omega arith in rw e (get_back xs ys k)
get_new (y ∷ xs) ys (suc n) k x = let e : suc (length xs) + k ≡ suc (length xs + k) = omega arith in rw e (get_new xs ys n k x)

pub get_given_up : (goals : List GoalStatus) (n : ℕ) (g : Goal) → slice_get goals n ≡ Some (Unsolved g) → slice_get (abandoned_at goals n) n ≡ Some (GivenUp g)
get_given_up [] n g there = cc
get_given_up (x ∷ goals) zero g there = let e : x ≡ Unsolved g = cc in rw e refl
get_given_up (x ∷ goals) (suc n) g there = get_given_up goals n g there

pub get_beside : (goals : List GoalStatus) (n m : ℕ) → m ≢ n → slice_get (abandoned_at goals n) m ≡ slice_get goals m
get_beside [] n m other = refl
get_beside (x ∷ goals) zero zero other = absurd (other refl)
get_beside (x ∷ goals) zero (suc m) other = refl
get_beside (x ∷ goals) (suc n) zero other = refl
get_beside (x ∷ goals) (suc n) (suc m) other = get_beside goals n m (λ s. other (ap suc s))

get_unsolved : (gs : List Goal) (k : ℕ) (g : Goal) → slice_get gs k ≡ Some g → slice_get (map Unsolved gs) k ≡ Some (Unsolved g)
get_unsolved [] k g there = cc
get_unsolved (x ∷ gs) zero g there = let e : x ≡ g = cc in rw e refl
get_unsolved (x ∷ gs) (suc k) g there = get_unsolved gs k g there

-- the new goals count as open, and not as given up
new_open : (gs : List Goal) (k : ℕ) → k < length gs → holes_of (slice_get (map Unsolved gs) k) ≡ 1
new_open [] k before = absurd (omega arith)
new_open (g ∷ gs) zero before = refl
new_open (g ∷ gs) (suc k) before = new_open gs k (omega arith)

new_past : (gs : List Goal) (k : ℕ) → length gs ≤ k → holes_of (slice_get (map Unsolved gs) k) ≡ 0
new_past [] k past = refl
new_past (g ∷ gs) zero past = absurd (omega arith)
new_past (g ∷ gs) (suc k) past = new_past gs k (omega arith)

new_not_told : (gs : List Goal) (k : ℕ) → told_of (slice_get (map Unsolved gs) k) ≡ 0
new_not_told [] k = refl
new_not_told (g ∷ gs) zero = refl
new_not_told (g ∷ gs) (suc k) = new_not_told gs k

-- where a number is, after a goal was solved
data Where (goals : List GoalStatus) (gs : List Goal) (n m : ℕ) : Type 0 where
  Here : m ≡ n → Where goals gs n m
  Old : m < length goals → m ≢ n → Where goals gs n m
  New : (k : ℕ) → m ≡ length goals + k → k < length gs → Where goals gs n m
  Past : (k : ℕ) → m ≡ length goals + k → length gs ≤ k → Where goals gs n m

where_new : (goals : List GoalStatus) (gs : List Goal) (n m k : ℕ) (b : Bool) → nat_lt k (length gs) ≡ b → m ≡ length goals + k → Where goals gs n m
where_new goals gs n m k true test place = New k place (grind (arith, nat_tests, test))
where_new goals gs n m k false test place = Past k place (grind (arith, nat_tests, test))

where_old : (goals : List GoalStatus) (gs : List Goal) (n m : ℕ) → Compared m n → m < length goals → Where goals gs n m
where_old goals gs n m (Same s e) before = Here s
where_old goals gs n m (Other o e) before = Old before o

where_by : (goals : List GoalStatus) (gs : List Goal) (n m : ℕ) (b : Bool) → nat_lt m (length goals) ≡ b → Where goals gs n m
where_by goals gs n m true test = where_old goals gs n m (compare m n) (grind (arith, nat_tests, test))
where_by goals gs n m false test =
    let past : length goals ≤ m = grind (arith, nat_tests, test) in
    where_new goals gs n m (m - length goals) (nat_lt (m - length goals) (length gs)) refl (omega arith)

where_is : (goals : List GoalStatus) (gs : List Goal) (n m : ℕ) → Where goals gs n m
where_is goals gs n m = where_by goals gs n m (nat_lt m (length goals)) refl

-- a hole more or less
holes_by : (goals : List GoalStatus) (gs : List Goal) (n m : ℕ) (g : Goal) (before : ℕ) → Where goals gs n m → slice_get goals n ≡ Some (Unsolved g) →
    before ≡ holes_of (slice_get goals m) →
    before + times m (range_with_len (length goals) (length gs)) ≡ holes_of (slice_get (slice_set goals n Solved ++ map Unsolved gs) m) + one_if m n
holes_by goals gs n m g before (Here s) there counted =
    let now : slice_get (slice_set goals n Solved ++ map Unsolved gs) m ≡ Some Solved = rw s (get_here goals (map Unsolved gs) n Solved (Unsolved g) there) in
    let one = one_same m n s in
    let was : slice_get goals m ≡ Some (Unsolved g) = rw s there in
    let within = slice_get_within goals n (Unsolved g) there in
    let none = times_before m (length goals) (length gs) (omega arith) in
    let mine : before ≡ 1 = counted ∙ ap holes_of was in
    rw (now, one, none) (omega arith)
holes_by goals gs n m g before (Old low o) there counted =
    let now = get_other goals (map Unsolved gs) n m Solved low o in
    let none = one_other m n o in
    let less = times_before m (length goals) (length gs) low in
    rw (now, none, less) (omega arith)
holes_by goals gs n m g before (New k place low) there counted =
    let within = slice_get_within goals n (Unsolved g) there in
    let now : slice_get (slice_set goals n Solved ++ map Unsolved gs) m ≡ slice_get (map Unsolved gs) k = rw place (get_new goals (map Unsolved gs) n k Solved) in
    let one = new_open gs k low in
    let none = one_other m n (λ s. omega arith) in
    let inside = times_within m (length goals) (length gs) (omega arith) (omega arith) in
    let was : slice_get goals m ≡ None = slice_get_past goals m (omega arith) in
    let mine : before ≡ 0 = counted ∙ ap holes_of was in
    rw (now, none, inside, one) (omega arith)
holes_by goals gs n m g before (Past k place low) there counted =
    let within = slice_get_within goals n (Unsolved g) there in
    let now : slice_get (slice_set goals n Solved ++ map Unsolved gs) m ≡ slice_get (map Unsolved gs) k = rw place (get_new goals (map Unsolved gs) n k Solved) in
    let none = new_past gs k low in
    let other = one_other m n (λ s. omega arith) in
    let behind = times_past m (length goals) (length gs) (omega arith) in
    let was : slice_get goals m ≡ None = slice_get_past goals m (omega arith) in
    let mine : before ≡ 0 = counted ∙ ap holes_of was in
    rw (now, other, behind, none) (omega arith)

balance : (one filled taken was new now fresh : ℕ) → one ≡ 1 → filled + taken * one ≡ was + one * new → new ≡ fresh → was + fresh ≡ now + taken →
    filled ≡ now
balance one filled taken was new now fresh single filling same counted =
    let P : ℕ → Type 0 = λ o. filled + taken * o ≡ was + o * new in
    let f : filled + taken * 1 ≡ was + 1 * new = subst P single filling in
    omega arith

holes_kept : (p : Proof) (n m : ℕ) (s : Partial Goal) (g : Goal) → IsProof p → slice_get p.goals n ≡ Some (Unsolved g) →
    times m (holes (filled n s p).term) ≡ holes_of (slice_get (filled n s p).goals m)
holes_kept p n m s g is there =
    let one : times n (holes p.term) ≡ 1 = is.holes n ∙ ap holes_of there in
    let filling = times_filled p.term n m (numbered (length p.goals) s) in
    let numbers : times m (holes (numbered (length p.goals) s)) ≡ times m (range_with_len (length p.goals) (length (holes s))) =
    ap (λ (l : List ℕ). times m l) (holes_numbered s (length p.goals)) in
    let counted = holes_by p.goals (holes s) n m g (times m (holes p.term)) (where_is p.goals (holes s) n m) there (is.holes m) in
    balance _ _ _ _ _ _ _ one filling numbers counted

told_by : (goals : List GoalStatus) (gs : List Goal) (n m : ℕ) (g : Goal) → Where goals gs n m → slice_get goals n ≡ Some (Unsolved g) →
    told_of (slice_get goals m) ≡ told_of (slice_get (slice_set goals n Solved ++ map Unsolved gs) m)
told_by goals gs n m g (Here s) there =
    let now : slice_get (slice_set goals n Solved ++ map Unsolved gs) m ≡ Some Solved = rw s (get_here goals (map Unsolved gs) n Solved (Unsolved g) there) in
    let was : slice_get goals m ≡ Some (Unsolved g) = rw s there in
    rw (now, was) refl
told_by goals gs n m g (Old low o) there = rw (get_other goals (map Unsolved gs) n m Solved low o) refl
told_by goals gs n m g (New k place low) there =
    let now : slice_get (slice_set goals n Solved ++ map Unsolved gs) m ≡ slice_get (map Unsolved gs) k = rw place (get_new goals (map Unsolved gs) n k Solved) in
    let was : slice_get goals m ≡ None = slice_get_past goals m (omega arith) in
    rw (now, was) (sym (new_not_told gs k))
told_by goals gs n m g (Past k place low) there =
    let now : slice_get (slice_set goals n Solved ++ map Unsolved gs) m ≡ slice_get (map Unsolved gs) k = rw place (get_new goals (map Unsolved gs) n k Solved) in
    let was : slice_get goals m ≡ None = slice_get_past goals m (omega arith) in
    rw (now, was) (sym (new_not_told gs k))

-- goals have their types in their contexts

goals_both : (old new : List GoalStatus) → HaveGoals old → HaveGoals new → HaveGoals (old ++ new)
goals_both [] new before after = after
goals_both (x ∷ old) new before after = (before.0, goals_both old new before.1 after)

unsolved_both : (gs hs : List Goal) → HaveGoals (map Unsolved gs) → HaveGoals (map Unsolved hs) → HaveGoals (map Unsolved (gs ++ hs))
unsolved_both [] hs before after = after
unsolved_both (g ∷ gs) hs before after = (before.0, unsolved_both gs hs before.1 after)

fits_goals : (ctx : List Hyp) (s : Partial Goal) → Fits ctx s → HaveGoals (map Unsolved (holes s))
fits_goals ctx (Ready t) fits = tt
fits_goals ctx (Hole g) fits = (fits.scope, tt)
fits_goals ctx (Abstracts n a p) fits = fits_goals (plain_hyp n a ∷ ctx) p fits
fits_goals ctx (Defines n a t p) fits = fits_goals (defined_hyp n a t ∷ ctx) p fits
fits_goals ctx (Applies f a) fits =
    unsolved_both (holes f) (holes a) (fits_goals ctx f fits.0) (fits_goals ctx a fits.1)

goals_kept : (goals : List GoalStatus) (n : ℕ) (gs : List GoalStatus) → HaveGoals goals → HaveGoals gs → HaveGoals (slice_set goals n Solved ++ gs)
goals_kept [] n gs old new = new
goals_kept (x ∷ goals) zero gs old new = (tt, goals_both goals gs old.1 new)
goals_kept (x ∷ goals) (suc n) gs old new = (old.0, goals_kept goals n gs old.1 new)

abandoned_goals : (goals : List GoalStatus) (n : ℕ) → HaveGoals goals → HaveGoals (abandoned_at goals n)
abandoned_goals [] n old = tt
abandoned_goals (Unsolved g ∷ goals) zero old = old
abandoned_goals (GivenUp g ∷ goals) zero old = old
abandoned_goals (Solved ∷ goals) zero old = old
abandoned_goals (x ∷ goals) (suc n) old = (old.0, abandoned_goals goals n old.1)

abandoned_length : (goals : List GoalStatus) (n : ℕ) → length (abandoned_at goals n) ≡ length goals
abandoned_length [] n = refl
abandoned_length (x ∷ goals) zero = refl
abandoned_length (x ∷ goals) (suc n) = ap suc (abandoned_length goals n)

-- a goal stands in a context that is another one but for names
stands_in : (ctx other : List Hyp) (g : Goal) → unnamed ctx ≡ unnamed other → StandsIn other g → StandsIn ctx g
stands_in ctx other g same stands = record { same = stands.same ∙ sym same; scope = stands.scope }

-- the goals of a sketch stand at their numbers
stand_numbered : (goals : List GoalStatus) (s : Partial Goal) (ctx other : List Hyp) (next : ℕ) → unnamed ctx ≡ unnamed other → Fits other s →
    ((k : ℕ) (g : Goal) → slice_get (holes s) k ≡ Some g → slice_get goals (next + k) ≡ Some (Unsolved g)) → Stand goals ctx (numbered next s)
stand_numbered goals (Ready t) ctx other next same fits there = tt
stand_numbered goals (Hole g) ctx other next same fits there =
    let e : next + 0 ≡ next = omega arith in
    let found : slice_get goals next ≡ Some (Unsolved g) = rw e at (there 0 g refl) in
    rw found (stands_in ctx other g same fits)
stand_numbered goals (Abstracts n a p) ctx other next same fits there =
    stand_numbered goals p (plain_hyp n a ∷ ctx) (plain_hyp n a ∷ other) next (ap (λ (l : List Hyp). unnamed_hyp (plain_hyp n a) ∷ l) same) fits there
stand_numbered goals (Defines n a t p) ctx other next same fits there =
    stand_numbered goals p (defined_hyp n a t ∷ ctx) (defined_hyp n a t ∷ other) next (ap (λ (l : List Hyp). unnamed_hyp (defined_hyp n a t) ∷ l) same) fits there
stand_numbered goals (Applies f a) ctx other next same fits there = (
  stand_numbered goals f ctx other next same fits.0 (λ k g found. there k g (get_front (holes f) (holes a) k (slice_get_within (holes f) k g found) ∙ found)),
  stand_numbered goals a ctx other (next + length (holes f)) same fits.1
      (λ k g found. let e : next + length (holes f) + k ≡ next + (length (holes f) + k) = omega arith in rw e (there (length (holes f) + k) g (get_back (holes f) (holes a) k ∙ found))),
)

-- the hole of a goal that is there
goal_there : (goals : List GoalStatus) (ctx : List Hyp) (m : ℕ) (found : Option GoalStatus) → slice_get goals m ≡ found → IsThere ctx (goal_if_any found) → m < length goals
goal_there goals ctx m None looked stands = absurd stands
goal_there goals ctx m (Some x) looked stands = slice_get_within goals m x looked

-- one hole after its goal was solved, and any other
stand_hole : (goals after : List GoalStatus) (ctx : List Hyp) (n m : ℕ) (g : Goal) (by : Partial ℕ) → Compared m n → slice_get goals n ≡ Some (Unsolved g) →
    ((k : ℕ) → k < length goals → k ≢ n → slice_get after k ≡ slice_get goals k) →
    ((inner : List Hyp) → unnamed inner ≡ unnamed g.ctx → Stand after inner by) → IsThere ctx (goal_at goals m) → Stand after ctx (filling n by m)
stand_hole goals after ctx n m g by (Same s e) there others new stands =
    let here = filling_here n m by s in
    let found : slice_get goals m ≡ Some (Unsolved g) = rw s there in
    let mine : StandsIn ctx g = rw found at stands in
    rw here (new ctx (sym mine.same))
stand_hole goals after ctx n m g by (Other o e) there others new stands =
    let here = filling_other n m by o in
    let same = others m (goal_there goals ctx m (slice_get goals m) refl stands) o in
    rw (here, same) stands

stand_filled : (goals after : List GoalStatus) (p : Partial ℕ) (ctx : List Hyp) (n : ℕ) (g : Goal) (by : Partial ℕ) → slice_get goals n ≡ Some (Unsolved g) →
    ((k : ℕ) → k < length goals → k ≢ n → slice_get after k ≡ slice_get goals k) →
    ((inner : List Hyp) → unnamed inner ≡ unnamed g.ctx → Stand after inner by) → Stand goals ctx p → Stand after ctx (fill n by p)
stand_filled goals after (Ready t) ctx n g by there others new stands = tt
stand_filled goals after (Hole m) ctx n g by there others new stands = stand_hole goals after ctx n m g by (compare m n) there others new stands
stand_filled goals after (Abstracts x a p) ctx n g by there others new stands = stand_filled goals after p (plain_hyp x a ∷ ctx) n g by there others new stands
stand_filled goals after (Defines x a t p) ctx n g by there others new stands = stand_filled goals after p (defined_hyp x a t ∷ ctx) n g by there others new stands
stand_filled goals after (Applies p q) ctx n g by there others new stands =
    (stand_filled goals after p ctx n g by there others new stands.0, stand_filled goals after q ctx n g by there others new stands.1)

-- the same goals stand
stand_same : (goals after : List GoalStatus) (p : Partial ℕ) (ctx : List Hyp) → ((k : ℕ) → goal_at after k ≡ goal_at goals k) → Stand goals ctx p → Stand after ctx p
stand_same goals after (Ready t) ctx same stands = tt
stand_same goals after (Hole m) ctx same stands = rw (same m) stands
stand_same goals after (Abstracts x a p) ctx same stands = stand_same goals after p (plain_hyp x a ∷ ctx) same stands
stand_same goals after (Defines x a t p) ctx same stands = stand_same goals after p (defined_hyp x a t ∷ ctx) same stands
stand_same goals after (Applies p q) ctx same stands = (stand_same goals after p ctx same stands.0, stand_same goals after q ctx same stands.1)

unsolved_length : (gs : List Goal) → length (map Unsolved gs) ≡ length gs
unsolved_length [] = refl
unsolved_length (g ∷ gs) = ap suc (unsolved_length gs)

filled_length : (goals : List GoalStatus) (n : ℕ) (gs : List Goal) → length (slice_set goals n Solved ++ map Unsolved gs) ≡ length goals + length gs
filled_length goals n gs =
    omega (arith, length-append (slice_set goals n Solved) (map Unsolved gs), length-set goals n Solved, unsolved_length gs)

-- a goal that is solved
pub filled_kept : (p : Proof) (n : ℕ) (s : Partial Goal) (g : Goal) → IsProof p → slice_get p.goals n ≡ Some (Unsolved g) → Fits g.ctx s →
    length p.goals + length (holes s) ≤ GOAL_LIMIT → IsProof (filled n s p)
filled_kept p n s g is there fits room = record {
  params = is.params;
  statement = is.statement;
  holes = λ m. holes_kept p n m s g is there;
  given_up = λ m. is.given_up m ∙ told_by p.goals (holes s) n m g (where_is p.goals (holes s) n m) there;
  goals = goals_kept p.goals n (map Unsolved (holes s)) is.goals (fits_goals g.ctx s fits);
  stand = stand_filled p.goals (filled n s p).goals p.term p.hyps n g (numbered (length p.goals) s) there
      (λ k before other. get_other p.goals (map Unsolved (holes s)) n k Solved before other)
      (λ inner same. stand_numbered (filled n s p).goals s inner g.ctx (length p.goals) same fits
      (λ k h found. get_new p.goals (map Unsolved (holes s)) n k Solved ∙ get_unsolved (holes s) k h found))
      is.stand;
  few = rw (filled_length p.goals n (holes s)) room;
}

abandoned_holes : (goals : List GoalStatus) (n m : ℕ) (g : Goal) → Compared m n → slice_get goals n ≡ Some (Unsolved g) →
    holes_of (slice_get (abandoned_at goals n) m) ≡ holes_of (slice_get goals m)
abandoned_holes goals n m g (Same s e) there = rw (s, there, get_given_up goals n g there) refl
abandoned_holes goals n m g (Other o e) there = rw (get_beside goals n m o) refl

abandoned_goal : (goals : List GoalStatus) (n m : ℕ) (g : Goal) → Compared m n → slice_get goals n ≡ Some (Unsolved g) →
    goal_at (abandoned_at goals n) m ≡ goal_at goals m
abandoned_goal goals n m g (Same s e) there = rw (s, there, get_given_up goals n g there) refl
abandoned_goal goals n m g (Other o e) there = rw (get_beside goals n m o) refl

abandoned_told : (goals : List GoalStatus) (n m : ℕ) (g : Goal) → Compared m n → slice_get goals n ≡ Some (Unsolved g) →
    told_of (slice_get goals m) + one_if m n ≡ told_of (slice_get (abandoned_at goals n) m)
abandoned_told goals n m g (Same s e) there = rw (s, there, get_given_up goals n g there, one_same n n refl) refl
abandoned_told goals n m g (Other o e) there = rw (get_beside goals n m o, one_other m n o) (omega arith)

-- a goal that is given up
pub abandoned_kept : (p : Proof) (n : ℕ) (g : Goal) → IsProof p → slice_get p.goals n ≡ Some (Unsolved g) → IsProof (abandoned n p)
abandoned_kept p n g is there = record {
  params = is.params;
  statement = is.statement;
  holes = λ m. is.holes m ∙ sym (abandoned_holes p.goals n m g (compare m n) there);
  given_up = λ m.
      let more = times_append m p.given_up (n ∷ []) in
      let was = is.given_up m in
      let told = abandoned_told p.goals n m g (compare m n) there in
      omega (arith, more, was, told);
  goals = abandoned_goals p.goals n is.goals;
  stand = stand_same p.goals (abandoned_at p.goals n) p.term p.hyps (λ k. abandoned_goal p.goals n k g (compare k n) there) is.stand;
  few = rw (abandoned_length p.goals n) is.few;
}

start_holes : (m : ℕ) (g : Goal) → times m (0 ∷ []) ≡ holes_of (slice_get (Unsolved g ∷ []) m)
start_holes zero g = refl
start_holes (suc m) g = let none = one_other (suc m) 0 (λ s. omega arith) in omega (arith, none)

start_told : (m : ℕ) (g : Goal) → 0 ≡ told_of (slice_get (Unsolved g ∷ []) m)
start_told zero g = refl
start_told (suc m) g = refl

pub start_kept : (ctx : List Hyp) (statement : Tree) → AreParams ctx → IsIn (length ctx) statement → IsProof (started ctx statement)
start_kept ctx statement params scope = record {
  params = params;
  statement = scope;
  holes = λ m. start_holes m (record { ctx = ctx; ty = statement });
  given_up = λ m. start_told m (record { ctx = ctx; ty = statement });
  goals = (scope, tt);
  stand = record { same = refl; scope = scope };
  few = omega arith;
}

given_kept : (p : Proof) (n : ℕ) (s : Partial Goal) (g : Goal) (b : Bool) (r : Refined) → IsProof p → slice_get p.goals n ≡ Some (Unsolved g) → Fits g.ctx s →
    nat_le (length p.goals + length (holes s)) GOAL_LIMIT ≡ b → (if b then Ok (refined n s p) else Err (Out SizeLimit)) ≡ Ok r → IsProof r.proof
given_kept p n s g true r is there fits test done =
    let e : refined n s p ≡ r = cc in
    subst (λ (x : Refined). IsProof x.proof) e (filled_kept p n s g is there fits (grind (arith, nat_tests, test)))
given_kept p n s g false r is there fits test done = cc

others_given : (p : Proof) (n m : ℕ) (s : Partial Goal) (b : Bool) (r : Refined) → nat_le (length p.goals + length (holes s)) GOAL_LIMIT ≡ b →
    (if b then Ok (refined n s p) else Err (Out SizeLimit)) ≡ Ok r → m < length p.goals → m ≢ n → slice_get r.proof.goals m ≡ slice_get p.goals m
others_given p n m s true r test done before other =
    let e : refined n s p ≡ r = cc in
    subst (λ (x : Refined). slice_get x.proof.goals m ≡ slice_get p.goals m) e (get_other p.goals (map Unsolved (holes s)) n m Solved before other)
others_given p n m s false r test done before other = cc

-- every state is a proof under way
step_kept : (p : Proof) (n : ℕ) (by : Filling) (status : Option GoalStatus) (r : Refined) → IsProof p → slice_get p.goals n ≡ status → MayFill status by →
    refined_by p n by ≡ Ok r → IsProof r.proof
step_kept p n (Give s) (Some (Unsolved g)) r is there may done = given_kept p n s g (nat_le (length p.goals + length (holes s)) GOAL_LIMIT) r is there may refl done
step_kept p n Admit (Some (Unsolved g)) r is there may done = let e : record { proof = abandoned n p; goals = [] } ≡ r = cc in subst (λ (x : Refined). IsProof x.proof) e (abandoned_kept p n g is there)
step_kept p n by (Some (GivenUp g)) r is there may done = absurd may
step_kept p n by (Some Solved) r is there may done = absurd may
step_kept p n by None r is there may done = absurd may

pub steps_keep : StepsKeepProofs
steps_keep = record {
  start = start_kept;
  step = λ p n by r is may done. step_kept p n by (slice_get p.goals n) r is refl may done;
}

-- the other goals
others_by : (p : Proof) (n m : ℕ) (by : Filling) (r : Refined) → refined_by p n by ≡ Ok r → m < length p.goals → m ≢ n → slice_get r.proof.goals m ≡ slice_get p.goals m
others_by p n m (Give s) r done before other = others_given p n m s (nat_le (length p.goals + length (holes s)) GOAL_LIMIT) r refl done before other
others_by p n m Admit r done before other =
    let e : record { proof = abandoned n p; goals = [] } ≡ r = cc in
    subst (λ (x : Refined). slice_get x.proof.goals m ≡ slice_get p.goals m) e (get_beside p.goals n m other)

pub steps_keep_goals : StepsKeepGoals
steps_keep_goals = record {
  others = others_by;
  new = λ p n k s g found. get_new p.goals (map Unsolved (holes s)) n k Solved ∙ get_unsolved (holes s) k g found;
}

-- what a step does with its goal

set_gone : (goals gs : List GoalStatus) (n : ℕ) → n < length goals → slice_get (slice_set goals n Solved ++ gs) n ≡ Some Solved
set_gone [] gs n before = absurd (omega arith)
set_gone (x ∷ goals) gs zero before = refl
set_gone (x ∷ goals) gs (suc n) before = set_gone goals gs n (omega arith)

given_gone : (p : Proof) (n : ℕ) (s : Partial Goal) (b : Bool) (r : Refined) → (if b then Ok (refined n s p) else Err (Out SizeLimit)) ≡ Ok r →
    n < length p.goals → slice_get r.proof.goals n ≡ Some Solved
given_gone p n s true r done before =
    let e : refined n s p ≡ r = cc in
    subst (λ (x : Refined). slice_get x.proof.goals n ≡ Some Solved) e (set_gone p.goals (map Unsolved (holes s)) n before)
given_gone p n s false r done before = cc

same_goal : (goals : List GoalStatus) (n : ℕ) → goal_at (abandoned_at goals n) n ≡ goal_at goals n
same_goal [] n = refl
same_goal (Unsolved g ∷ goals) zero = refl
same_goal (GivenUp g ∷ goals) zero = refl
same_goal (Solved ∷ goals) zero = refl
same_goal (x ∷ goals) (suc n) = same_goal goals n

no_unsolved : (goals : List GoalStatus) (n : ℕ) → unsolved_at (abandoned_at goals n) n ≡ None
no_unsolved [] n = refl
no_unsolved (Unsolved g ∷ goals) zero = refl
no_unsolved (GivenUp g ∷ goals) zero = refl
no_unsolved (Solved ∷ goals) zero = refl
no_unsolved (x ∷ goals) (suc n) = no_unsolved goals n

given_up_same : (p : Proof) (n : ℕ) (r : Refined) → refined_by p n Admit ≡ Ok r → goal_at r.proof.goals n ≡ goal_at p.goals n
given_up_same p n r done =
    let e : record { proof = abandoned n p; goals = [] } ≡ r = cc in
    subst (λ (x : Refined). goal_at x.proof.goals n ≡ goal_at p.goals n) e (same_goal p.goals n)

closed_by : (p : Proof) (n : ℕ) (by : Filling) (r : Refined) → n < length p.goals → refined_by p n by ≡ Ok r → unsolved_at r.proof.goals n ≡ None
closed_by p n (Give s) r before done =
    ap only_unsolved (given_gone p n s (nat_le (length p.goals + length (holes s)) GOAL_LIMIT) r done before)
closed_by p n Admit r before done =
    let e : record { proof = abandoned n p; goals = [] } ≡ r = cc in
    subst (λ (x : Refined). unsolved_at x.proof.goals n ≡ None) e (no_unsolved p.goals n)

pub steps_close_goals : StepsCloseGoals
steps_close_goals = record {
  solved = λ p n s r before done. ap goal_if_any (given_gone p n s (nat_le (length p.goals + length (holes s)) GOAL_LIMIT) r done before);
  given_up = given_up_same;
  closed = closed_by;
}

-- a proof without open goals has no hole
none_left : (status : Option GoalStatus) → ((g : Goal) → status ≢ Some (Unsolved g)) → told_of status ≡ 0 → holes_of status ≡ 0
none_left None unsolved told = refl
none_left (Some (Unsolved g)) unsolved told = absurd (unsolved g refl)
none_left (Some (GivenUp g)) unsolved told = absurd (omega arith)
none_left (Some Solved) unsolved told = refl

pub empty_by : (all : List ℕ) → ((n : ℕ) → times n all ≡ 0) → all ≡ []
empty_by [] none = refl
empty_by (n ∷ all) none = let one = one_same n n refl in let zero_of = none n in absurd (omega (arith, one, zero_of))

pub whole_where_solved : WholeWhereSolved
whole_where_solved = record {
  whole = λ p is unsolved given. empty_by (holes p.term) (λ n. is.holes n ∙ none_left (slice_get p.goals n) (unsolved n) (sym (is.given_up n) ∙ ap (λ (l : List ℕ). times n l) given));
}

-- an unsolved goal that was found may be filled

found_by : (status : Option GoalStatus) (g : Goal) (by : Filling) → Some g ≡ only_unsolved status → MayFill (Some (Unsolved g)) by → MayFill status by
found_by (Some (Unsolved h)) g by is may = let same : g ≡ h = cc in subst (λ (x : Goal). MayFill (Some (Unsolved x)) by) same may
found_by (Some (GivenUp h)) g by is may = cc
found_by (Some Solved) g by is may = cc
found_by None g by is may = cc

pub may_be_filled : UnsolvedMayBeFilled
may_be_filled goals n g by is may = found_by (slice_get goals n) g by is may
