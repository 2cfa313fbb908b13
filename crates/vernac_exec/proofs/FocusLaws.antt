-- The goals in focus are the unsolved ones, before and after a step.
use Rattle.std.proofs.Common.{◌≡◌, ℕ, zero, suc, ◌+◌, nat_le, List, [], ◌∷◌, ◌++◌, length, map, drop, Bool, true, false, Option, Some, None, Ok, Err, refl, sym, ◌∙◌, ap, subst, arith, append_assoc, slice_get}
use Rattle.std.specs.Prelude.{if◌then◌else◌, slice_set}
use Rattle.std.specs.List.{range_with_len}
use Rattle.base_core.specs.declared.refusals.Stop.TheVariants.{Out}
use Rattle.base_core.specs.declared.refusals.Limit.TheVariants.{SizeLimit}
use Rattle.bullet_focus.specs.declared.focus.Focused.{Focused}
use Rattle.bullet_focus.specs.FocusState.{FocusState}
use Rattle.bullet_focus.specs.Laws.{all_goals}
use Rattle.bullet_focus.specs.Levels.{waiting_in}
use Rattle.bullet_focus.specs.Steps.{replaced, begun}
use Rattle.proof_state.specs.declared.goals.Goal.{Goal}
use Rattle.proof_state.specs.declared.goals.TheConstants.{GOAL_LIMIT}
use Rattle.proof_state.specs.declared.state.Filling.{Filling}
use Rattle.proof_state.specs.declared.state.Filling.TheVariants as fill
use Rattle.proof_state.specs.declared.state.Refined.{Refined}
use Rattle.proof_state.specs.IsProof.{times}
use Rattle.proof_state.specs.Partial.{holes}
use Rattle.proof_state.specs.Proof.{GoalStatus, Unsolved, GivenUp, Solved, Proof}
use Rattle.proof_state.specs.Steps.{only_unsolved, unsolved_at, abandoned_at, abandoned, refined, refined_by}
use Rattle.proof_state.proofs.Counts.{one_if, one_same, one_other, times_append, times_before}
use Rattle.proof_state.proofs.Numbers.{Compared, Same, Other, compare}
use Rattle.vernac_exec.specs.Laws.{unsolved_count, Agrees}
use Rattle.vernac_exec.specs.Proofs.{abandoned_if, all_abandoned}

-- numbers are those of the unsolved goals, each once
abbrev pub AreUnsolved : List GoalStatus → List ℕ → Type 0
AreUnsolved goals ns = (m : ℕ) → times m ns ≡ unsolved_count (slice_get goals m)

one_suc_by : (m n : ℕ) → Compared m n → one_if (suc m) (suc n) ≡ one_if m n
one_suc_by m n (Same s e) = one_same (suc m) (suc n) (ap suc s) ∙ sym (one_same m n s)
one_suc_by m n (Other o e) = one_other (suc m) (suc n) (λ s. o (omega (arith, s))) ∙ sym (one_other m n o)

one_suc : (m n : ℕ) → one_if (suc m) (suc n) ≡ one_if m n
one_suc m n = one_suc_by m n (compare m n)

times_suc : (m from k : ℕ) → times (suc m) (range_with_len (suc from) k) ≡ times m (range_with_len from k)
times_suc m from zero = refl
times_suc m from (suc k) =
    let e : suc from + 1 ≡ suc (from + 1) = omega arith in
    rw e (let one = one_suc m from in let more = times_suc m (from + 1) k in omega (arith, one, more))

-- new goals behind others
new_counted : (gs : List Goal) (m : ℕ) → unsolved_count (slice_get (map Unsolved gs) m) ≡ times m (range_with_len 0 (length gs))
new_counted [] m = refl
new_counted (g ∷ gs) zero =
    let one = one_same 0 0 refl in let none = times_before 0 1 (length gs) (omega arith) in omega (arith, one, none)
new_counted (g ∷ gs) (suc m) =
    let none = one_other (suc m) 0 (λ s. omega (arith, s)) in
    let more = times_suc m 0 (length gs) in
    let rest = new_counted gs m in
    omega (arith, none, more, rest)

more_counted : (xs : List GoalStatus) (gs : List Goal) (m : ℕ) →
    unsolved_count (slice_get (xs ++ map Unsolved gs) m) ≡ unsolved_count (slice_get xs m) + times m (range_with_len (length xs) (length gs))
more_counted [] gs m = let new = new_counted gs m in omega (arith, new)
more_counted (x ∷ xs) gs zero = let none = times_before 0 (suc (length xs)) (length gs) (omega arith) in omega (arith, none)
more_counted (x ∷ xs) gs (suc m) = let more = times_suc m (length xs) (length gs) in let rest = more_counted xs gs m in omega (arith, more, rest)

-- a goal that is solved, or given up
solved_counted : (xs : List GoalStatus) (n m : ℕ) (g : Goal) → slice_get xs n ≡ Some (Unsolved g) →
    unsolved_count (slice_get (slice_set xs n Solved) m) + one_if m n ≡ unsolved_count (slice_get xs m)
solved_counted [] n m g there = cc
solved_counted (x ∷ xs) zero zero g there =
    let e : x ≡ Unsolved g = cc in let one = one_same 0 0 refl in rw e (omega (arith, one))
solved_counted (x ∷ xs) zero (suc m) g there = let none = one_other (suc m) 0 (λ s. omega (arith, s)) in omega (arith, none)
solved_counted (x ∷ xs) (suc n) zero g there = let none = one_other 0 (suc n) (λ s. omega (arith, s)) in omega (arith, none)
solved_counted (x ∷ xs) (suc n) (suc m) g there =
    let one = one_suc m n in let rest = solved_counted xs n m g there in omega (arith, one, rest)

abandoned_counted : (xs : List GoalStatus) (n m : ℕ) (g : Goal) → slice_get xs n ≡ Some (Unsolved g) →
    unsolved_count (slice_get (abandoned_at xs n) m) + one_if m n ≡ unsolved_count (slice_get xs m)
abandoned_counted [] n m g there = cc
abandoned_counted (x ∷ xs) zero zero g there =
    let e : x ≡ Unsolved g = cc in let one = one_same 0 0 refl in rw e (omega (arith, one))
abandoned_counted (x ∷ xs) zero (suc m) g there = let none = one_other (suc m) 0 (λ s. omega (arith, s)) in omega (arith, none)
abandoned_counted (x ∷ xs) (suc n) zero g there = let none = one_other 0 (suc n) (λ s. omega (arith, s)) in omega (arith, none)
abandoned_counted (x ∷ xs) (suc n) (suc m) g there =
    let one = one_suc m n in let rest = abandoned_counted xs n m g there in omega (arith, one, rest)

set_length : (xs : List GoalStatus) (n : ℕ) → length (slice_set xs n Solved) ≡ length xs
set_length [] n = refl
set_length (x ∷ xs) zero = refl
set_length (x ∷ xs) (suc n) = ap suc (set_length xs n)

abbrev Counts : List GoalStatus → List Goal → ℕ → ℕ → ℕ → Type 0
Counts xs gs n m from =
    unsolved_count (slice_get (slice_set xs n Solved ++ map Unsolved gs) m) ≡
    unsolved_count (slice_get (slice_set xs n Solved) m) + times m (range_with_len from (length gs))

-- the new goals stand in the place of the first
solved_first : (xs : List GoalStatus) (gs : List Goal) (n : ℕ) (rest : List ℕ) (g : Goal) → slice_get xs n ≡ Some (Unsolved g) →
    AreUnsolved xs (n ∷ rest) → AreUnsolved (slice_set xs n Solved ++ map Unsolved gs) (range_with_len (length xs) (length gs) ++ rest)
solved_first xs gs n rest g there are m =
    let parts = times_append m (range_with_len (length xs) (length gs)) rest in
    let before = are m in
    let set = solved_counted xs n m g there in
    let more : unsolved_count (slice_get (slice_set xs n Solved ++ map Unsolved gs) m) ≡
    unsolved_count (slice_get (slice_set xs n Solved) m) + times m (range_with_len (length xs) (length gs)) =
    subst (Counts xs gs n m) (set_length xs n) (more_counted (slice_set xs n Solved) gs m) in
    omega (arith, parts, before, set, more)

abandoned_first : (xs : List GoalStatus) (n : ℕ) (rest : List ℕ) (g : Goal) → slice_get xs n ≡ Some (Unsolved g) →
    AreUnsolved xs (n ∷ rest) → AreUnsolved (abandoned_at xs n) rest
abandoned_first xs n rest g there are m =
    let before = are m in let set = abandoned_counted xs n m g there in omega (arith, before, set)

-- the first of some numbers is given up
none_first : (n : ℕ) (rest : List ℕ) → times n (n ∷ rest) ≡ 0 → ⊥
none_first n rest e = let one = one_same n n refl in omega (arith, one, e)

first_abandoned : (p : Proof) (n : ℕ) (rest : List ℕ) (x : Option GoalStatus) → slice_get p.goals n ≡ x → AreUnsolved p.goals (n ∷ rest) →
    AreUnsolved (abandoned_if (only_unsolved x) n p).goals rest
first_abandoned p n rest None is are = absurd (none_first n rest (are n ∙ ap unsolved_count is))
first_abandoned p n rest (Some (Unsolved g)) is are = abandoned_first p.goals n rest g is are
first_abandoned p n rest (Some (GivenUp g)) is are = absurd (none_first n rest (are n ∙ ap unsolved_count is))
first_abandoned p n rest (Some Solved) is are = absurd (none_first n rest (are n ∙ ap unsolved_count is))

pub abandoned_agree : (ns rest : List ℕ) (p : Proof) → AreUnsolved p.goals (ns ++ rest) → AreUnsolved (all_abandoned ns p).goals rest
abandoned_agree [] rest p are = are
abandoned_agree (n ∷ ns) rest p are =
    abandoned_agree ns rest (abandoned_if (unsolved_at p.goals n) n p) (first_abandoned p n (ns ++ rest) (slice_get p.goals n) refl are)

-- a step of focus gives goals up, and loses none
pub refocused_agree : (p : Proof) (f : FocusState) (step : Focused) → step.admitted ++ all_goals step.focus ≡ all_goals f → Agrees p.goals f →
    Agrees (all_abandoned step.admitted p).goals step.focus
refocused_agree p f step keeps agree = abandoned_agree step.admitted (all_goals step.focus) p (subst (AreUnsolved p.goals) (sym keeps) agree)

pub unsolved_is : (x : Option GoalStatus) (g : Goal) → only_unsolved x ≡ Some g → x ≡ Some (Unsolved g)
unsolved_is None g e = cc
unsolved_is (Some (Unsolved h)) g e = let same : h ≡ g = cc in rw same refl
unsolved_is (Some (GivenUp h)) g e = cc
unsolved_is (Some Solved) g e = cc

filled_focus : (xs : List GoalStatus) (gs : List Goal) (fs ws : List ℕ) (n : ℕ) (g : Goal) → slice_get fs 0 ≡ Some n →
    slice_get xs n ≡ Some (Unsolved g) →
    AreUnsolved xs (fs ++ ws) → AreUnsolved (slice_set xs n Solved ++ map Unsolved gs) ((range_with_len (length xs) (length gs) ++ drop 1 fs) ++ ws)
filled_focus xs gs [] ws n g first there are = cc
filled_focus xs gs (k ∷ fs) ws n g first there are =
    let same : k ≡ n = cc in
    subst (AreUnsolved (slice_set xs n Solved ++ map Unsolved gs)) (sym (append_assoc (range_with_len (length xs) (length gs)) fs ws))
    (solved_first xs gs n (fs ++ ws) g there (subst (λ j. AreUnsolved xs (j ∷ fs ++ ws)) same are))

abandoned_focus : (xs : List GoalStatus) (fs ws : List ℕ) (n : ℕ) (g : Goal) → slice_get fs 0 ≡ Some n → slice_get xs n ≡ Some (Unsolved g) →
    AreUnsolved xs (fs ++ ws) → AreUnsolved (abandoned_at xs n) (drop 1 fs ++ ws)
abandoned_focus xs [] ws n g first there are = cc
abandoned_focus xs (k ∷ fs) ws n g first there are =
    let same : k ≡ n = cc in abandoned_first xs n (fs ++ ws) g there (subst (λ j. AreUnsolved xs (j ∷ fs ++ ws)) same are)

refined_if : (b : Bool) (x r : Refined) → (if b then Ok x else Err (Out SizeLimit)) ≡ Ok r → x ≡ r
refined_if true x r e = cc
refined_if false x r e = cc

-- a proof move at the first goal in focus
pub refined_agree : (p : Proof) (f : FocusState) (n : ℕ) (g : Goal) (by : Filling) (r : Refined) → slice_get f.goals 0 ≡ Some n →
    unsolved_at p.goals n ≡ Some g →
    refined_by p n by ≡ Ok r → Agrees p.goals f → Agrees r.proof.goals (replaced r.goals f)
refined_agree p f n g (fill.Give s) r first there made agree =
    subst (λ x. Agrees x.proof.goals (replaced x.goals f)) (refined_if (nat_le (length p.goals + length (holes s)) GOAL_LIMIT) (refined n s p) r made)
    (filled_focus p.goals (holes s) f.goals (waiting_in f.levels) n g first (unsolved_is (slice_get p.goals n) g there) agree)
refined_agree p f n g fill.Admit r first there made agree =
    let same : record { proof = abandoned n p; goals = [] } ≡ r = cc in
    subst (λ x. Agrees x.proof.goals (replaced x.goals f)) same
    (abandoned_focus p.goals f.goals (waiting_in f.levels) n g first (unsolved_is (slice_get p.goals n) g there) agree)

-- at the beginning
pub begun_agrees : (g : Goal) → Agrees (Unsolved g ∷ []) (begun 0)
begun_agrees g zero = let one = one_same 0 0 refl in omega (arith, one)
begun_agrees g (suc m) = let none = one_other (suc m) 0 (λ s. omega (arith, s)) in omega (arith, none)
