-- What the calls that run a sentence in a proof need of the definitions.
use Rattle.std.specs.Prelude.{◌≡◌, ℕ, zero, suc, ◌+◌, ◌<◌, ◌^◌, ◌==◌, nat_lt, List, [], ◌∷◌, length, drop, Bool, true, false, Option, Some, None, Ok, All, slice_get, if◌then◌else◌}
use Rattle.std.proofs.Common.{refl, sym, arith}
use Rattle.std.proofs.lemmas.Bool.Decides.{nat_tests}
use Rattle.std.proofs.lemmas.List.Elements.{All-nil, All-cons, All-append}
use Rattle.base_core.specs.declared.refusal_codes.TheConstants as code
use Rattle.bullet_focus.specs.declared.focus.Focused.{Focused}
use Rattle.bullet_focus.specs.declared.levels.Opener.{Opener}
use Rattle.bullet_focus.specs.declared.levels.Opener.TheVariants.{Bullet, Brace}
use Rattle.bullet_focus.specs.FocusState.{FocusState}
use Rattle.bullet_focus.specs.Levels.{place_of, waiting_at}
use Rattle.bullet_focus.specs.Steps.{kept, level_entered, level_begun, given_up, unsolved, none_left, bullet_at, after_bullet, after_brace_open, brace_at, after_brace_close}
use Rattle.cic_rules.specs.declared.context.Hyp.{Hyp}
use Rattle.cic_rules.specs.declared.env.Slot.{Slot}
use Rattle.cic_rules.specs.Judges.{MayJudge}
use Rattle.proof_state.specs.declared.goals.Goal.{Goal}
use Rattle.proof_state.specs.Partial.{holes}
use Rattle.proof_state.specs.Proof.{Proof, GoalStatus, Unsolved, GivenUp, Solved}
use Rattle.proof_state.specs.declared.state.Filling.{Filling}
use Rattle.proof_state.specs.declared.state.Filling.TheVariants.{Admit}
use Rattle.proof_state.specs.declared.state.Refined.{Refined}
use Rattle.proof_state.specs.Scopes.{IsGoalIn, IsFillingIn, HaveGoalsIn}
use Rattle.proof_state.specs.Steps.{unsolved_at, MayFill, refined_by}
use Rattle.proof_state.specs.IsProof.{IsProof}
use Rattle.proof_state.proofs.GoalScopes.{steps_keep_scopes, fillings_fit}
use Rattle.proof_state.proofs.Keeps.{whole_where_solved}
use Rattle.vernac_exec.specs.Proofs.{has_unsolved}

-- goals in scope

pub goal_in : (env : List Slot) (goals : List GoalStatus) (n : ℕ) (g : Goal) → HaveGoalsIn env goals → Some g ≡ unsolved_at goals n → IsGoalIn env g
goal_in = steps_keep_scopes.unsolved

pub focus_in : (env : List Slot) (goals : List GoalStatus) (n : ℕ) (g : Goal) → HaveGoalsIn env goals → Some g ≡ unsolved_at goals n →
    MayJudge env g.ctx
focus_in env goals n g all found = (goal_in env goals n g all found).judged

pub may_fill : (env : List Slot) (goals : List GoalStatus) (n : ℕ) (g : Goal) (by : Filling) → unsolved_at goals n ≡ Some g → IsFillingIn env g.ctx by →
    MayFill (slice_get goals n) by
may_fill env goals n g by found filling = fillings_fit env goals n g by (sym found) filling

pub may_admit : (goals : List GoalStatus) (n : ℕ) (g : Goal) → Some g ≡ unsolved_at goals n → MayFill (slice_get goals n) Admit
may_admit goals n g found = fillings_fit [] goals n g Admit found tt

pub step_in : (env : List Slot) (ctx : List Hyp) (p : Proof) (n : ℕ) (by : Filling) (r : Refined) → HaveGoalsIn env p.goals →
    IsFillingIn env ctx by → Ok r ≡ refined_by p n by → HaveGoalsIn env r.proof.goals
step_in env ctx p n by r all filling done = steps_keep_scopes.step env ctx p n by r filling (sym done) all

pub given_up_in : (env : List Slot) (p : Proof) (n : ℕ) (r : Refined) → HaveGoalsIn env p.goals → Ok r ≡ refined_by p n Admit →
    HaveGoalsIn env r.proof.goals
given_up_in env p n r all done = step_in env [] p n Admit r all tt done

pub has_first : (numbers : List ℕ) (n : ℕ) → slice_get numbers 0 ≡ Some n → 0 < length numbers
has_first [] n found = cc
has_first (m ∷ numbers) n found = omega arith

pub none_given_up : (numbers : List ℕ) → nat_lt 0 (length numbers) ≡ false → numbers ≡ []
none_given_up [] none = refl
none_given_up (m ∷ numbers) none = absurd (grind (arith, nat_tests, none))

-- whether a goal is unsolved, one goal after another

pub unsolved_found : (goals : List GoalStatus) (n : ℕ) (g : Goal) → Some g ≡ unsolved_at goals n → has_unsolved (drop n goals) ≡ true
unsolved_found [] n g found = cc
unsolved_found (Unsolved h ∷ goals) zero g found = refl
unsolved_found (GivenUp h ∷ goals) zero g found = cc
unsolved_found (Solved ∷ goals) zero g found = cc
unsolved_found (x ∷ goals) (suc n) g found = unsolved_found goals n g found

pub none_unsolved_here : (goals : List GoalStatus) (n : ℕ) → n < length goals → None ≡ unsolved_at goals n →
    has_unsolved (drop (n + 1) goals) ≡ has_unsolved (drop n goals)
none_unsolved_here [] n within none = absurd (omega (arith, within))
none_unsolved_here (Unsolved h ∷ goals) zero within none = cc
none_unsolved_here (GivenUp h ∷ goals) zero within none = refl
none_unsolved_here (Solved ∷ goals) zero within none = refl
none_unsolved_here (x ∷ goals) (suc n) within none =
    let k : suc n + 1 ≡ suc (n + 1) = omega arith in rw k (none_unsolved_here goals n (omega (arith, within)) none)

-- where no goal is unsolved or given up, the term is whole

none_unsolved : (goals : List GoalStatus) (n : ℕ) (g : Goal) → has_unsolved goals ≡ false → slice_get goals n ≡ Some (Unsolved g) → ⊥
none_unsolved [] n g none found = cc
none_unsolved (Unsolved h ∷ goals) n g none found = cc
none_unsolved (GivenUp h ∷ goals) zero g none found = cc
none_unsolved (GivenUp h ∷ goals) (suc n) g none found = none_unsolved goals n g none found
none_unsolved (Solved ∷ goals) zero g none found = cc
none_unsolved (Solved ∷ goals) (suc n) g none found = none_unsolved goals n g none found

pub whole_where_none : (p : Proof) → IsProof p → has_unsolved p.goals ≡ false → p.given_up ≡ [] → holes p.term ≡ []
whole_where_none p proof none given = whole_where_solved.whole p proof (λ n g found. none_unsolved p.goals n g none found) given

-- the refusals of bullets and braces are small numbers

abbrev pub AreSmall : List ℕ → Type 0
AreSmall ns = All (λ n. n < 2 ^ 16) ns

none_small : AreSmall []
none_small = All-nil (λ n. n < 2 ^ 16)

one_small : (n : ℕ) → n < 2 ^ 16 → AreSmall (n ∷ [])
one_small n small = All-cons (λ k. k < 2 ^ 16) n [] small none_small

small_if : (b : Bool) (xs ys : List ℕ) → AreSmall xs → AreSmall ys → AreSmall (if b then xs else ys)
small_if true xs ys first second = first
small_if false xs ys first second = second

focused_if : (b : Bool) (x y : Focused) → AreSmall x.refusals → AreSmall y.refusals → AreSmall (if b then x else y).refusals
focused_if true x y first second = first
focused_if false x y first second = second

begun_small : (n : ℕ) (opener : Opener) (f : FocusState) → n < 2 ^ 16 → AreSmall (level_begun n opener f).refusals
begun_small n opener f small =
    focused_if (length f.goals == 0) (kept n f) (record { focus = level_entered opener f; admitted = []; refusals = [] }) (one_small n small) none_small

unsolved_small : (goals : List ℕ) → AreSmall (unsolved goals)
unsolved_small goals = small_if (length goals == 0) [] (code.GOAL_UNSOLVED ∷ []) none_small (one_small code.GOAL_UNSOLVED (omega arith))

none_left_small : (waiting : List ℕ) → AreSmall (none_left waiting)
none_left_small waiting =
    small_if (length waiting == 0) (code.NO_GOAL_FOR_BULLET ∷ []) [] (one_small code.NO_GOAL_FOR_BULLET (omega arith)) none_small

bullet_small : (opener : Opener) (f : FocusState) (place : Option ℕ) → AreSmall (bullet_at opener f place).refusals
bullet_small opener f None = begun_small code.WRONG_BULLET opener f (omega arith)
bullet_small opener f (Some place) =
    All-append (λ n. n < 2 ^ 16) (unsolved (given_up f.goals f.levels place)) (none_left (waiting_at f.levels place))
    (unsolved_small (given_up f.goals f.levels place)) (none_left_small (waiting_at f.levels place))

brace_small : (f : FocusState) (place : Option ℕ) → AreSmall (brace_at f place).refusals
brace_small f None = one_small code.NO_BRACE (omega arith)
brace_small f (Some place) = unsolved_small (given_up f.goals f.levels place)

pub after_bullet_small : (mark count : ℕ) (f : FocusState) → AreSmall (after_bullet mark count f).refusals
after_bullet_small mark count f = bullet_small (Bullet mark count) f (place_of (Bullet mark count) f.levels)

pub after_open_small : (f : FocusState) → AreSmall (after_brace_open f).refusals
after_open_small f = begun_small code.NO_GOAL Brace f (omega arith)

pub after_close_small : (f : FocusState) → AreSmall (after_brace_close f).refusals
after_close_small f = brace_small f (place_of Brace f.levels)
