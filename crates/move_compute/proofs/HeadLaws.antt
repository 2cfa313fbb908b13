-- The loop of turns of a head: turns of spines are turns of their terms, which stay in scope and end.
use Rattle.std.specs.Prelude.{◌≡◌, ℕ, suc, ◌+◌, ◌<◌, List, ◌++◌, length, true, Option, Some, None, Result, Ok, Err, IfOk, slice_get, refl}
use Rattle.std.proofs.Common.{arith, ap, sym, ◌∙◌, subst}
use Rattle.base_core.specs.declared.refusals.Stop.{Stop}
use Rattle.base_core.specs.declared.refusals.Stop.TheVariants.{Refused, Out, NoMem}
use Rattle.base_core.specs.declared.refusals.Limit.TheVariants.{DepthLimit}
use Rattle.core_term.specs.Tree.{Tree, Constant, is_small}
use Rattle.term_spine.specs.Spine.{IsHead, head_of, arguments_of, apply_all}
use Rattle.term_spine.specs.declared.spines.Spine.{Spine}
use Rattle.term_spine.specs.Spines.{tree_of_spine, IsSpineOf}
use Rattle.term_spine.proofs.SpineFacts.{head_applied, head_is, arguments_applied, no_arguments}
use Rattle.cic_rules.specs.declared.decls.InductiveDecl.{InductiveDecl}
use Rattle.cic_rules.specs.declared.env.Slot.{Slot}
use Rattle.cic_rules.specs.declared.shapes.FamilyShape.{FamilyShape}
use Rattle.cic_rules.specs.Environments.{IsEnvironment, decl_at}
use Rattle.cic_rules.specs.Families.{eliminator_of, major_index}
use Rattle.cic_rules.specs.Fuel.{FuelState, nested, left, calls_left}
use Rattle.cic_rules.specs.Judges.{Meets}
use Rattle.cic_rules.specs.Runs.{Run, Turn, Final, GoOn}
use Rattle.cic_rules.specs.Scopes.{IsScoped}
use Rattle.cic_rules.specs.Shapes.{shape_of, shape_if_any, shape_at}
use Rattle.cic_rules.proofs.FuelLaws.{IsTurn}
use Rattle.cic_rules.proofs.RunsLaws.{runs_go_on, runs_final, runs_stop}
use Rattle.conversion.specs.Lookups.{family_if_any}
use Rattle.conversion.specs.Turns.{Turns, IsSpine, IsOkAs, EndsAs}
use Rattle.conversion.proofs.ReduceLaws.{argument_scoped}
use Rattle.move_compute.specs.Scopes.{IsTermOver, IsSpineOver}
use Rattle.move_compute.specs.Simpl.{head_step, simpl_head_at}
use Rattle.move_compute.specs.Turns.{spine_step, plain_step, major_step, loop_from}
use Rattle.move_compute.proofs.FuelOfRows.{turn_head, law_head}
use Rattle.move_compute.proofs.SimplScopes.{head_tells, simpl_head_scoped}

module _ (env : List Slot) (calls : ℕ) where
  abbrev step : Tree → Run (Turn Tree Tree)
  step t = head_step env (simpl_head_at env calls) t

  turns : (t : Tree) → IsTurn (step t)
  turns t = turn_head env (simpl_head_at env calls) (λ v. law_head env calls v) t

  -- a turn of a spine is the turn of its term
  step_is : (s : Spine) → IsHead s.head → spine_step env calls s.head s.args ≡ step (tree_of_spine s)
  step_is s is =
      let head : head_of (tree_of_spine s) ≡ s.head = head_applied s.head s.args ∙ head_is s.head is in
      let args : arguments_of (tree_of_spine s) ≡ s.args = arguments_applied s.head s.args ∙ ap (λ first. first ++ s.args) (no_arguments s.head is) in
      rw (head, args) refl

  -- what holds of a loop under way: its answer is the whole loop's, and its term is in scope
  pub record IsUnderWay (vars : ℕ) (s : Spine) (k : ℕ) (t : Tree) (l : ℕ) : Type 0 where
    pub same : loop_from env calls (tree_of_spine s) k ≡ loop_from env calls t l
    pub over : IsSpineOver env vars s

  go_on : (s : Spine) (k j : ℕ) (next : Spine) → IsHead s.head → Turns (Ok (Some next)) j (tree_of_spine s) (spine_step env calls s.head s.args k) →
      ((step (tree_of_spine s) k).answer ≡ Ok (GoOn (tree_of_spine next))) × (j ≡ (step (tree_of_spine s) k).left)
  go_on s k j next is told =
      let e = ap (λ r. r k) (step_is s is) in
      (sym (told.0 ∙ ap (λ r. r.answer) e), told.1 ∙ ap (λ r. r.left) e)

  -- the loop begins with the spine of its term
  pub begun : (vars : ℕ) (s : Spine) (t : Tree) (l : ℕ) → IsSpineOf s t → IsTermOver env vars t → IsUnderWay vars s l t l
  begun vars s t l of over =
      let spine : IsSpine s = record { head = of.head; small = ap is_small of.whole ∙ of.small } in
      record {
        same = ap (λ u. loop_from env calls u l) of.whole;
        over = record { room = over.room; spine = spine; term = subst (IsScoped vars (length env)) (sym of.whole) over.term };
      }

  pub meets_step : (now : ℕ) → now ≡ calls → IsEnvironment env → (vars : ℕ) (s : Spine) (k : ℕ) (t : Tree) (l : ℕ) (next : Spine) (j : ℕ) →
      IsUnderWay vars s k t l → Turns (Ok (Some next)) j (tree_of_spine s) (spine_step env now s.head s.args k) → IsUnderWay vars next j t l
  meets_step now one is vars s k t l next j way said =
      let told = subst (λ n. Turns (Ok (Some next)) j (tree_of_spine s) (spine_step env n s.head s.args k)) one said in
      let on = go_on s k j next way.over.spine.head told in
      let tells = head_tells env is vars (simpl_head_at env calls) (λ v h. simpl_head_scoped env is vars calls v h) (tree_of_spine s) way.over.term in
      record {
        same = ap (λ n. loop_from env calls (tree_of_spine next) n) on.1 ∙ sym (runs_go_on step turns (tree_of_spine s) (tree_of_spine next) k on.0) ∙ way.same;
        over = record { room = way.over.room; spine = told.2; term = tells.tells k (GoOn (tree_of_spine next)) on.0 };
      }

  -- a turn that goes on takes a unit
  pub step_takes : (now : ℕ) → now ≡ calls → (s : Spine) (k j : ℕ) (next : Spine) → IsHead s.head →
      Turns (Ok (Some next)) j (tree_of_spine s) (spine_step env now s.head s.args k) → j < k
  step_takes now one s k j next is said =
      let told = subst (λ n. Turns (Ok (Some next)) j (tree_of_spine s) (spine_step env n s.head s.args k)) one said in
      let on = go_on s k j next is told in
      let less = (turns (tree_of_spine s)).takes k (tree_of_spine next) on.0 in
      omega (arith, less, on.1)

  -- a turn that ends the loop
  pub spine_last : (now : ℕ) → now ≡ calls → (vars : ℕ) (s : Spine) (k : ℕ) (t : Tree) (l j : ℕ) → IsUnderWay vars s k t l →
      Turns (Ok None) j (tree_of_spine s) (spine_step env now s.head s.args k) → EndsAs IsSpineOf (Ok s) j (loop_from env calls t l)
  spine_last now one vars s k t l j way said =
      let told = subst (λ n. Turns (Ok None) j (tree_of_spine s) (spine_step env n s.head s.args k)) one said in
      let e = ap (λ r. r k) (step_is s way.over.spine.head) in
      let final : (step (tree_of_spine s) k).answer ≡ Ok (Final (tree_of_spine s)) = sym (told.0 ∙ ap (λ r. r.answer) e) in
      let whole = sym way.same ∙ runs_final step turns (tree_of_spine s) (tree_of_spine s) k final in
      subst (λ r. EndsAs IsSpineOf (Ok s) j r) (sym whole)
      (record { whole = refl; small = way.over.spine.small; head = way.over.spine.head }, told.1 ∙ ap (λ r. r.left) e)

  pub spine_stop : (now : ℕ) → now ≡ calls → (vars : ℕ) (s : Spine) (k : ℕ) (t : Tree) (l : ℕ) (stop : Stop) (j : ℕ) → IsUnderWay vars s k t l →
      Turns (Err stop) j (tree_of_spine s) (spine_step env now s.head s.args k) → EndsAs {A = Spine} IsSpineOf (Err stop) j (loop_from env calls t l)
  spine_stop now one vars s k t l (Refused r) j way told = absurd told
  spine_stop now one vars s k t l NoMem j way told = tt
  spine_stop now one vars s k t l (Out limit) j way said =
      let told = subst (λ n. Turns (Err (Out limit)) j (tree_of_spine s) (spine_step env n s.head s.args k)) one said in
      let e = ap (λ r. r k) (step_is s way.over.spine.head) in
      let stopped : (step (tree_of_spine s) k).answer ≡ Err (Out limit) = sym (told.0 ∙ ap (λ r. r.answer) e) in
      let whole = sym way.same ∙ runs_stop step turns (tree_of_spine s) (Out limit) k stopped in
      (sym (ap (λ r. r.answer) whole), (told.1 ∙ ap (λ r. r.left) e) ∙ sym (ap (λ r. r.left) whole))

  reached_by : (s : Spine) (answer : Result Tree Stop) → IsOkAs IsSpineOf s answer → Ok (tree_of_spine s) ≡ answer
  reached_by s (Ok u) is = ap Ok is.whole
  reached_by s (Err stop) is = absurd is

  -- what a spine of the answer tells of the answer
  pub ended : (s : Spine) (u : Tree) (j : ℕ) (t : Tree) (l : ℕ) → u ≡ tree_of_spine s → EndsAs IsSpineOf (Ok s) j (loop_from env calls t l) →
      Meets (Ok u) j (loop_from env calls t l)
  ended s u j t l same ends = (ap Ok same ∙ reached_by s (loop_from env calls t l).answer ends.0, ends.1)

  pub ended_stop : (stop : Stop) (j : ℕ) (t : Tree) (l : ℕ) → EndsAs {A = Spine} IsSpineOf (Err stop) j (loop_from env calls t l) →
      Meets {A = Tree} (Err stop) j (loop_from env calls t l)
  ended_stop (Refused r) j t l ends = absurd ends
  ended_stop NoMem j t l ends = tt
  ended_stop (Out limit) j t l ends = ends

  -- what is left of a loop is the rest of it
  pub rest_ends : (now : ℕ) → now ≡ calls → (vars : ℕ) (result : Result Spine Stop) (j : ℕ) (s : Spine) (k : ℕ) (t : Tree) (l : ℕ) → IsUnderWay vars s k t l →
      EndsAs IsSpineOf result j (loop_from env now (tree_of_spine s) k) → EndsAs IsSpineOf result j (loop_from env calls t l)
  rest_ends now one vars result j s k t l way said =
      let told = subst (λ n. EndsAs IsSpineOf result j (loop_from env n (tree_of_spine s) k)) one said in
      subst (λ r. EndsAs IsSpineOf result j r) way.same told

  entered : (result : Result Tree Stop) (k : ℕ) (t : Tree) (l : ℕ) (all : ℕ) → all ≡ suc calls → Meets result k (loop_from env calls t l) →
      Meets result k (simpl_head_at env all t l)
  unfolding simpl_head_at
  entered result k t l all e meets = rw e meets

  pub no_calls : (k : ℕ) (t : Tree) (l : ℕ) (all : ℕ) → all ≡ 0 → k ≡ l → Meets {A = Tree} (Err (Out DepthLimit)) k (simpl_head_at env all t l)
  unfolding simpl_head_at
  no_calls k t l all e same = rw e (refl, same)

  -- a value is in scope
  pub head_scoped : IsEnvironment env → (vars : ℕ) (result : Result Tree Stop) (t : Tree) (k l : ℕ) → IsTermOver env vars t →
      Meets result k (simpl_head_at env calls t l) → IfOk result (IsTermOver env vars)
  head_scoped is vars (Ok u) t k l over meets = record { room = over.room; term = (simpl_head_scoped env is vars calls t over.term).tells l u (sym meets.0) }
  head_scoped is vars (Err stop) t k l over meets = tt

  -- the turn of an eliminator with all its arguments is told by its major premise
  eliminator_turn : (result : Result (Option Spine) Stop) (j : ℕ) (s : Spine) (place of : ℕ) (d : InductiveDecl) (major : Tree) (k : ℕ) →
      s.head ≡ Constant place → eliminator_of env (Constant place) ≡ family_if_any env (Some of) →
      decl_at env of ≡ Some d → slice_get s.args (major_index d) ≡ Some major →
      Turns result j (tree_of_spine s) (major_step env calls s.head s.args major k) →
      Turns result j (tree_of_spine s) (plain_step env calls (Constant place) s.args k)
  eliminator_turn result j s place of d major k head family decl found told =
      let moved = subst (λ h. Turns result j (tree_of_spine s) (major_step env calls h s.args major k)) head told in
      let first : head_of (apply_all (Constant place) s.args) ≡ Constant place = head_applied (Constant place) s.args in
      let args : arguments_of (apply_all (Constant place) s.args) ≡ s.args = arguments_applied (Constant place) s.args in
      rw (family, decl, found, first, args) moved

  shaped_by : (found : Option InductiveDecl) (result : Result (Option Spine) Stop) (j : ℕ) (s : Spine) (place of : ℕ) (shape : FamilyShape) (major : Tree) (k : ℕ) →
      decl_at env of ≡ found → s.head ≡ Constant place → eliminator_of env (Constant place) ≡ family_if_any env (Some of) →
      shape_if_any of found ≡ Some shape → slice_get s.args shape.major ≡ Some major →
      Turns result j (tree_of_spine s) (major_step env calls s.head s.args major k) →
      Turns result j (tree_of_spine s) (plain_step env calls (Constant place) s.args k)
  shaped_by None result j s place of shape major k decl head family e found told = cc
  shaped_by (Some d) result j s place of shape major k decl head family e found told =
      let is : shape_of of d ≡ shape = cc in
      let there : slice_get s.args (major_index d) ≡ Some major = ap (λ x. slice_get s.args x.major) is ∙ found in
      eliminator_turn result j s place of d major k head family decl there told

  -- the same by the shape of the type
  pub shaped_turn : (result : Result (Option Spine) Stop) (j : ℕ) (s : Spine) (place of : ℕ) (shape : FamilyShape) (major : Tree) (k : ℕ) →
      s.head ≡ Constant place → eliminator_of env (Constant place) ≡ family_if_any env (Some of) → shape_at env of ≡ Some shape →
      slice_get s.args shape.major ≡ Some major → Turns result j (tree_of_spine s) (major_step env calls s.head s.args major k) →
      Turns result j (tree_of_spine s) (plain_step env calls (Constant place) s.args k)
  shaped_turn result j s place of shape major k head family e found told =
      shaped_by (decl_at env of) result j s place of shape major k refl head family e found told

pub none_is : {A : Type 0} (found : Option A) → ((x : A) → found ≡ Some x → ⊥) → found ≡ None
none_is None none = refl
none_is (Some x) none = absurd (none x refl)

-- an argument of a spine is in scope
pub argument_over : (env : List Slot) (vars : ℕ) (s : Spine) (i : ℕ) (t : Tree) → slice_get s.args i ≡ Some t → IsSpineOver env vars s → IsTermOver env vars t
argument_over env vars s i t found over =
    record { room = over.room; term = argument_scoped vars (length env) s.head s.args i t found over.term }

pub entered_meets : (env : List Slot) (old entered_fuel after ended_fuel : FuelState) (result : Result Tree Stop) (t : Tree) → entered_fuel ≡ nested true old →
    old.nesting < 2000 → left ended_fuel ≡ left after → Meets result (left after) (loop_from env (calls_left entered_fuel) t (left entered_fuel)) →
    Meets result (left ended_fuel) (simpl_head_at env (calls_left old) t (left old))
entered_meets env old entered_fuel after ended_fuel result t into room same meets =
    let nest : entered_fuel.nesting ≡ old.nesting + 1 = ap (λ f. f.nesting) into in
    let calls : calls_left old ≡ suc (calls_left entered_fuel) = omega (arith, nest, room) in
    let units : left entered_fuel ≡ left old = ap left into in
    let one = entered env (calls_left entered_fuel) result (left after) t (left entered_fuel) (calls_left old) calls meets in
    let two = subst (λ l. Meets result (left after) (simpl_head_at env (calls_left old) t l)) units one in
    subst (λ k. Meets result k (simpl_head_at env (calls_left old) t (left old))) (sym same) two
