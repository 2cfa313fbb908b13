-- The loop of reduction: turns of spines are turns of their terms, which stay in scope and end.
use Rattle.std.specs.Prelude.{◌≡◌, ℕ, suc, ◌+◌, ◌^◌, ◌≤◌, ◌<◌, List, [], ◌∷◌, ◌++◌, length, Bool, true, Option, Some, None, Result, Ok, Err, IfOk, slice_get, if◌then◌else◌, refl}
use Rattle.std.proofs.Common.{arith, ap, sym, ◌∙◌, subst}
use Rattle.base_core.specs.declared.refusals.Stop.{Stop}
use Rattle.base_core.specs.declared.refusals.Stop.TheVariants.{Refused, Out, NoMem}
use Rattle.base_core.specs.declared.refusals.Limit.TheVariants.{DepthLimit}
use Rattle.core_term.specs.Tree.{Tree, Constant, Lam, LetIn, App, is_small, free_bound}
use Rattle.term_spine.specs.Spine.{IsHead, head_of, arguments_of, apply_all}
use Rattle.term_spine.specs.declared.spines.Spine.{Spine}
use Rattle.term_spine.specs.Spines.{tree_of_spine, IsSpineOf}
use Rattle.term_spine.proofs.SpineFacts.{head_applied, head_is, arguments_applied, no_arguments}
use Rattle.cic_rules.specs.declared.context.Hyp.{Hyp}
use Rattle.cic_rules.specs.declared.env.Slot.{Slot}
use Rattle.cic_rules.specs.declared.decls.InductiveDecl.{InductiveDecl}
use Rattle.cic_rules.specs.Environments.{IsEnvironment, body_of_global, decl_at}
use Rattle.cic_rules.specs.Families.{eliminator_of, major_index}
use Rattle.cic_rules.specs.declared.shapes.FamilyShape.{FamilyShape}
use Rattle.cic_rules.specs.Shapes.{shape_of, shape_if_any, shape_at}
use Rattle.cic_rules.specs.Fuel.{FuelState, nested, left, calls_left, IsSpentOf}
use Rattle.cic_rules.specs.Scopes.{IsScoped, AreScoped, IsScopedContext}
use Rattle.cic_rules.specs.Runs.{Run, Turn, Final, GoOn}
use Rattle.cic_rules.specs.Reduce.{reduce_step, whnf_at}
use Rattle.cic_rules.specs.Judges.{Meets, IsNeverRefused, IsTermIn}
use Rattle.cic_rules.proofs.FuelLaws.{IsTurn}
use Rattle.cic_rules.proofs.ScopeLaws.{scoped_get, scoped_free}
use Rattle.cic_rules.proofs.JudgeFuelLaws.{turn_reduce, fuel_of_reduction}
use Rattle.cic_rules.proofs.JudgeScopes.{step_tells, scope_of_reduction}
use Rattle.conversion.specs.Turns.{Turns, IsSpine, IsOkAs, EndsAs, spine_step, major_step, loop_from}
use Rattle.conversion.specs.Lookups.{family_if_any}
use Rattle.cic_rules.proofs.RunsLaws.{runs_go_on, runs_final, runs_stop}

module _ (env : List Slot) (delta : Bool) (calls : ℕ) (ctx : List Hyp) where
  abbrev step : Tree → Run (Turn Tree Tree)
  step t = reduce_step env delta (whnf_at env delta calls ctx) ctx t

  pub turns : (t : Tree) → IsTurn (step t)
  turns t = turn_reduce env delta (whnf_at env delta calls ctx) (λ v. fuel_of_reduction env delta calls ctx v) ctx t

  -- a turn of a spine is the turn of its term
  pub step_is : (s : Spine) → IsHead s.head → spine_step env delta calls ctx s.head s.args ≡ step (tree_of_spine s)
  step_is s is =
      let head : head_of (tree_of_spine s) ≡ s.head = head_applied s.head s.args ∙ head_is s.head is in
      let args : arguments_of (tree_of_spine s) ≡ s.args = arguments_applied s.head s.args ∙ ap (λ first. first ++ s.args) (no_arguments s.head is) in
      rw (head, args) refl

  -- what holds of a loop under way: its answer is the whole loop's, and its term is in scope
  pub record IsUnderWay (s : Spine) (k : ℕ) (t : Tree) (l : ℕ) : Type 0 where
    pub same : loop_from env delta calls ctx (tree_of_spine s) k ≡ loop_from env delta calls ctx t l
    pub spine : IsSpine s
    pub term : IsTermIn env ctx (tree_of_spine s)

  go_on : (s : Spine) (k j : ℕ) (next : Spine) → IsHead s.head → Turns (Ok (Some next)) j (tree_of_spine s) (spine_step env delta calls ctx s.head s.args k) →
      ((step (tree_of_spine s) k).answer ≡ Ok (GoOn (tree_of_spine next))) × (j ≡ (step (tree_of_spine s) k).left)
  go_on s k j next is told =
      let e = ap (λ r. r k) (step_is s is) in
      (sym (told.0 ∙ ap (λ r. r.answer) e), told.1 ∙ ap (λ r. r.left) e)

  pub meets_step : (now : ℕ) → now ≡ calls → IsEnvironment env → IsScopedContext (length env) ctx → (s : Spine) (k : ℕ) (t : Tree) (l : ℕ) (next : Spine) (j : ℕ) →
      IsUnderWay s k t l → Turns (Ok (Some next)) j (tree_of_spine s) (spine_step env delta now ctx s.head s.args k) → IsUnderWay next j t l
  meets_step now one is hyps s k t l next j way said =
      let told = subst (λ n. Turns (Ok (Some next)) j (tree_of_spine s) (spine_step env delta n ctx s.head s.args k)) one said in
      let on = go_on s k j next way.spine.head told in
      let tells = step_tells env is delta ctx hyps (whnf_at env delta calls ctx) (λ v h. scope_of_reduction env is delta calls ctx hyps v h) (tree_of_spine s) way.term in
      record {
        same = ap (λ n. loop_from env delta calls ctx (tree_of_spine next) n) on.1 ∙ sym (runs_go_on step turns (tree_of_spine s) (tree_of_spine next) k on.0) ∙ way.same;
        spine = told.2;
        term = tells.tells k (GoOn (tree_of_spine next)) on.0;
      }

  -- a turn that goes on takes a unit
  pub step_takes : (now : ℕ) → now ≡ calls → (s : Spine) (k j : ℕ) (next : Spine) → IsHead s.head →
      Turns (Ok (Some next)) j (tree_of_spine s) (spine_step env delta now ctx s.head s.args k) → j < k
  step_takes now one s k j next is said =
      let told = subst (λ n. Turns (Ok (Some next)) j (tree_of_spine s) (spine_step env delta n ctx s.head s.args k)) one said in
      let on = go_on s k j next is told in
      let less = (turns (tree_of_spine s)).takes k (tree_of_spine next) on.0 in
      omega (arith, less, on.1)

  pub meets_last : (now : ℕ) → now ≡ calls → (s : Spine) (k : ℕ) (t : Tree) (l : ℕ) (u : Tree) (j : ℕ) → IsUnderWay s k t l → u ≡ tree_of_spine s →
      Turns (Ok None) j (tree_of_spine s) (spine_step env delta now ctx s.head s.args k) → Meets (Ok u) j (loop_from env delta calls ctx t l)
  meets_last now one s k t l u j way same said =
      let told = subst (λ n. Turns (Ok None) j (tree_of_spine s) (spine_step env delta n ctx s.head s.args k)) one said in
      let e = ap (λ r. r k) (step_is s way.spine.head) in
      let final : (step (tree_of_spine s) k).answer ≡ Ok (Final (tree_of_spine s)) = sym (told.0 ∙ ap (λ r. r.answer) e) in
      let whole = sym way.same ∙ runs_final step turns (tree_of_spine s) (tree_of_spine s) k final in
      (ap Ok same ∙ sym (ap (λ r. r.answer) whole), (told.1 ∙ ap (λ r. r.left) e) ∙ sym (ap (λ r. r.left) whole))

  pub meets_stop : (now : ℕ) → now ≡ calls → (s : Spine) (k : ℕ) (t : Tree) (l : ℕ) (stop : Stop) (j : ℕ) → IsUnderWay s k t l →
      Turns (Err stop) j (tree_of_spine s) (spine_step env delta now ctx s.head s.args k) → Meets {A = Tree} (Err stop) j (loop_from env delta calls ctx t l)
  meets_stop now one s k t l (Refused r) j way told = absurd told
  meets_stop now one s k t l NoMem j way told = tt
  meets_stop now one s k t l (Out limit) j way said =
      let told = subst (λ n. Turns (Err (Out limit)) j (tree_of_spine s) (spine_step env delta n ctx s.head s.args k)) one said in
      let e = ap (λ r. r k) (step_is s way.spine.head) in
      let stopped : (step (tree_of_spine s) k).answer ≡ Err (Out limit) = sym (told.0 ∙ ap (λ r. r.answer) e) in
      let whole = sym way.same ∙ runs_stop step turns (tree_of_spine s) (Out limit) k stopped in
      (sym (ap (λ r. r.answer) whole), (told.1 ∙ ap (λ r. r.left) e) ∙ sym (ap (λ r. r.left) whole))

  -- the same with the spine of what is reached
  pub spine_last : (now : ℕ) → now ≡ calls → (s : Spine) (k : ℕ) (t : Tree) (l j : ℕ) → IsUnderWay s k t l →
      Turns (Ok None) j (tree_of_spine s) (spine_step env delta now ctx s.head s.args k) → EndsAs IsSpineOf (Ok s) j (loop_from env delta calls ctx t l)
  spine_last now one s k t l j way said =
      let told = subst (λ n. Turns (Ok None) j (tree_of_spine s) (spine_step env delta n ctx s.head s.args k)) one said in
      let e = ap (λ r. r k) (step_is s way.spine.head) in
      let final : (step (tree_of_spine s) k).answer ≡ Ok (Final (tree_of_spine s)) = sym (told.0 ∙ ap (λ r. r.answer) e) in
      let whole = sym way.same ∙ runs_final step turns (tree_of_spine s) (tree_of_spine s) k final in
      subst (λ r. EndsAs IsSpineOf (Ok s) j r) (sym whole)
      (record { whole = refl; small = way.spine.small; head = way.spine.head }, told.1 ∙ ap (λ r. r.left) e)

  pub spine_stop : (now : ℕ) → now ≡ calls → (s : Spine) (k : ℕ) (t : Tree) (l : ℕ) (stop : Stop) (j : ℕ) → IsUnderWay s k t l →
      Turns (Err stop) j (tree_of_spine s) (spine_step env delta now ctx s.head s.args k) → EndsAs {A = Spine} IsSpineOf (Err stop) j (loop_from env delta calls ctx t l)
  spine_stop now one s k t l (Refused r) j way told = absurd told
  spine_stop now one s k t l NoMem j way told = tt
  spine_stop now one s k t l (Out limit) j way said = meets_stop now one s k t l (Out limit) j way said

  reached_by : (s : Spine) (answer : Result Tree Stop) → IsOkAs IsSpineOf s answer → Ok (tree_of_spine s) ≡ answer
  reached_by s (Ok u) is = ap Ok is.whole
  reached_by s (Err stop) is = absurd is

  -- what is left of a loop, by the spine that it reaches
  pub meets_spine : (now : ℕ) → now ≡ calls → (s first : Spine) (u : Tree) (j k : ℕ) (t : Tree) (l : ℕ) → IsUnderWay first k t l → u ≡ tree_of_spine s →
      EndsAs IsSpineOf (Ok s) j (loop_from env delta now ctx (tree_of_spine first) k) → Meets (Ok u) j (loop_from env delta calls ctx t l)
  meets_spine now one s first u j k t l way same said =
      let told = subst (λ n. EndsAs IsSpineOf (Ok s) j (loop_from env delta n ctx (tree_of_spine first) k)) one said in
      let answer = reached_by s (loop_from env delta calls ctx (tree_of_spine first) k).answer told.0 in
      ((ap Ok same ∙ answer) ∙ ap (λ r. r.answer) way.same, told.1 ∙ ap (λ r. r.left) way.same)

  pub meets_spine_stop : (now : ℕ) → now ≡ calls → (first : Spine) (stop : Stop) (j k : ℕ) (t : Tree) (l : ℕ) → IsUnderWay first k t l →
      EndsAs {A = Spine} IsSpineOf (Err stop) j (loop_from env delta now ctx (tree_of_spine first) k) → Meets {A = Tree} (Err stop) j (loop_from env delta calls ctx t l)
  meets_spine_stop now one first (Refused r) j k t l way said = absurd said
  meets_spine_stop now one first NoMem j k t l way said = tt
  meets_spine_stop now one first (Out limit) j k t l way said =
      let told = subst (λ n. EndsAs {A = Spine} IsSpineOf (Err (Out limit)) j (loop_from env delta n ctx (tree_of_spine first) k)) one said in
      (told.0 ∙ ap (λ r. r.answer) way.same, told.1 ∙ ap (λ r. r.left) way.same)

  pub never_spine_stop : (now : ℕ) (first : Spine) (stop : Stop) (j k : ℕ) →
      EndsAs {A = Spine} IsSpineOf (Err stop) j (loop_from env delta now ctx (tree_of_spine first) k) → IsNeverRefused {A = Tree} (Err stop)
  never_spine_stop now first (Refused r) j k said = said
  never_spine_stop now first NoMem j k said = tt
  never_spine_stop now first (Out limit) j k said = tt

  pub spine_entered : (result : Result Spine Stop) (k : ℕ) (t : Tree) (l : ℕ) (all : ℕ) → all ≡ suc calls → EndsAs IsSpineOf result k (loop_from env delta calls ctx t l) →
      EndsAs IsSpineOf result k (whnf_at env delta all ctx t l)
  unfolding whnf_at
  spine_entered result k t l all e ends = rw e ends

  pub no_spine_calls : (k : ℕ) (t : Tree) (l : ℕ) (all : ℕ) → all ≡ 0 → k ≡ l → EndsAs {A = Spine} IsSpineOf (Err (Out DepthLimit)) k (whnf_at env delta all ctx t l)
  unfolding whnf_at
  no_spine_calls k t l all e same = rw e (refl, same)

  pub spine_scoped : IsEnvironment env → IsScopedContext (length env) ctx → (result : Result Spine Stop) (t : Tree) (k l : ℕ) → IsTermIn env ctx t →
      EndsAs IsSpineOf result k (whnf_at env delta calls ctx t l) → IfOk result (λ s. IsTermIn env ctx (tree_of_spine s))
  spine_scoped is hyps (Ok s) t k l term ends =
      (scope_of_reduction env is delta calls ctx hyps t term).tells l (tree_of_spine s) (sym (reached_by s (whnf_at env delta calls ctx t l).answer ends.0))
  spine_scoped is hyps (Err stop) t k l term ends = tt

  pub never_stop : (now : ℕ) → now ≡ calls → (s : Spine) (k j : ℕ) (stop : Stop) → Turns (Err stop) j (tree_of_spine s) (spine_step env delta now ctx s.head s.args k) →
      IsNeverRefused {A = Tree} (Err stop)
  never_stop now one s k j (Refused r) told = told
  never_stop now one s k j NoMem told = tt
  never_stop now one s k j (Out limit) told = tt

  -- what is left of a loop is the rest of it
  pub meets_rest : (now : ℕ) → now ≡ calls → (result : Result Tree Stop) (j : ℕ) (s : Spine) (k : ℕ) (t : Tree) (l : ℕ) → IsUnderWay s k t l →
      Meets result j (loop_from env delta now ctx (tree_of_spine s) k) → Meets result j (loop_from env delta calls ctx t l)
  meets_rest now one result j s k t l way said =
      let told = subst (λ n. Meets result j (loop_from env delta n ctx (tree_of_spine s) k)) one said in
      subst (λ r. Meets result j r) way.same told

  -- the loop begins with the spine of its term
  pub begun : (s : Spine) (t : Tree) (l : ℕ) → tree_of_spine s ≡ t → IsSpine s → IsTermIn env ctx t → IsUnderWay s l t l
  begun s t l whole is term =
      record {
        same = ap (λ u. loop_from env delta calls ctx u l) whole;
        spine = is;
        term = subst (IsTermIn env ctx) (sym whole) term;
      }

  pub meets_entered : (result : Result Tree Stop) (k : ℕ) (t : Tree) (l : ℕ) (all : ℕ) → all ≡ suc calls → Meets result k (loop_from env delta calls ctx t l) →
      Meets result k (whnf_at env delta all ctx t l)
  unfolding whnf_at
  meets_entered result k t l all e meets = rw e meets

  pub no_calls : (k : ℕ) (t : Tree) (l : ℕ) (all : ℕ) → all ≡ 0 → k ≡ l → Meets {A = Tree} (Err (Out DepthLimit)) k (whnf_at env delta all ctx t l)
  unfolding whnf_at
  no_calls k t l all e same = rw e (refl, same)

  -- a value of reduction is in scope
  pub reduced_scoped : IsEnvironment env → IsScopedContext (length env) ctx → (result : Result Tree Stop) (t : Tree) (k l : ℕ) → IsTermIn env ctx t →
      Meets result k (whnf_at env delta calls ctx t l) → IfOk result (λ u. IsTermIn env ctx u)
  reduced_scoped is hyps (Ok u) t k l term meets = (scope_of_reduction env is delta calls ctx hyps t term).tells l u (sym meets.0)
  reduced_scoped is hyps (Err stop) t k l term meets = tt

  -- the turn of an eliminator with all its arguments is told by its major premise
  pub eliminator_turn : (result : Result (Option Spine) Stop) (j : ℕ) (s : Spine) (place of : ℕ) (d : InductiveDecl) (major : Tree) (k : ℕ) →
      s.head ≡ Constant place → (if delta then body_of_global env place else None) ≡ None → eliminator_of env (Constant place) ≡ family_if_any env (Some of) →
      decl_at env of ≡ Some d → slice_get s.args (major_index d) ≡ Some major →
      Turns result j (tree_of_spine s) (major_step env delta calls ctx s.head s.args major k) →
      Turns result j (tree_of_spine s) (spine_step env delta calls ctx (Constant place) s.args k)
  eliminator_turn result j s place of d major k head body family decl found told =
      let moved = subst (λ h. Turns result j (tree_of_spine s) (major_step env delta calls ctx h s.args major k)) head told in
      let first : head_of (apply_all (Constant place) s.args) ≡ Constant place = head_applied (Constant place) s.args in
      let args : arguments_of (apply_all (Constant place) s.args) ≡ s.args = arguments_applied (Constant place) s.args in
      rw (body, family, decl, found, first, args) moved

  -- the same by the shape of the type
  shaped_by : (found : Option InductiveDecl) (result : Result (Option Spine) Stop) (j : ℕ) (s : Spine) (place of : ℕ) (shape : FamilyShape) (major : Tree) (k : ℕ) →
      decl_at env of ≡ found → s.head ≡ Constant place → (if delta then body_of_global env place else None) ≡ None →
      eliminator_of env (Constant place) ≡ family_if_any env (Some of) → shape_if_any of found ≡ Some shape → slice_get s.args shape.major ≡ Some major →
      Turns result j (tree_of_spine s) (major_step env delta calls ctx s.head s.args major k) →
      Turns result j (tree_of_spine s) (spine_step env delta calls ctx (Constant place) s.args k)
  shaped_by None result j s place of shape major k decl head body family e found told = cc
  shaped_by (Some d) result j s place of shape major k decl head body family e found told =
      let is : shape_of of d ≡ shape = cc in
      let there : slice_get s.args (major_index d) ≡ Some major = ap (λ x. slice_get s.args x.major) is ∙ found in
      eliminator_turn result j s place of d major k head body family decl there told

  pub shaped_turn : (result : Result (Option Spine) Stop) (j : ℕ) (s : Spine) (place of : ℕ) (shape : FamilyShape) (major : Tree) (k : ℕ) →
      s.head ≡ Constant place → (if delta then body_of_global env place else None) ≡ None →
      eliminator_of env (Constant place) ≡ family_if_any env (Some of) → shape_at env of ≡ Some shape → slice_get s.args shape.major ≡ Some major →
      Turns result j (tree_of_spine s) (major_step env delta calls ctx s.head s.args major k) →
      Turns result j (tree_of_spine s) (spine_step env delta calls ctx (Constant place) s.args k)
  shaped_turn result j s place of shape major k head body family e found told =
      shaped_by (decl_at env of) result j s place of shape major k refl head body family e found told

-- what an argument is
pub scoped_apart : (n m : ℕ) (h : Tree) (args : List Tree) → IsScoped n m (apply_all h args) → IsScoped n m h × AreScoped n m args
scoped_apart n m h [] is = (is, tt)
scoped_apart n m h (a ∷ more) is = let rest = scoped_apart n m (App h a) more is in (rest.0.0, (rest.0.1, rest.1))

pub argument_scoped : (n m : ℕ) (h : Tree) (args : List Tree) (i : ℕ) (t : Tree) → slice_get args i ≡ Some t → IsScoped n m (apply_all h args) → IsScoped n m t
argument_scoped n m h args i t found is = scoped_get n m i args t found (scoped_apart n m h args is).1

-- the parts of a head that applies to arguments
pub lam_body : (n m : ℕ) (h : Tree) (args : List Tree) (k : List ℕ) (a b : Tree) → h ≡ Lam k a b → n ≤ 2 ^ 31 + 2000 → IsScoped n m (apply_all h args) →
    free_bound b ≤ 2 ^ 31 + 2001
lam_body n m h args k a b e few is =
    let parts : IsScoped n m (Lam k a b) = subst (IsScoped n m) e (scoped_apart n m h args is).0 in
    let free = scoped_free (suc n) m b parts.1 in omega (arith, free, few)

pub first_bound : (n m : ℕ) (h : Tree) (args : List Tree) (v : Tree) (rest : List Tree) → args ≡ v ∷ rest → n ≤ 2 ^ 31 + 2000 → IsScoped n m (apply_all h args) →
    free_bound v ≤ 2 ^ 31 + 2000
first_bound n m h args v rest e few is =
    let parts : AreScoped n m (v ∷ rest) = subst (AreScoped n m) e (scoped_apart n m h args is).1 in
    let free = scoped_free n m v parts.0 in omega (arith, free, few)

pub let_body : (n m : ℕ) (h : Tree) (args : List Tree) (k : List ℕ) (a t b : Tree) → h ≡ LetIn k a t b → n ≤ 2 ^ 31 + 2000 → IsScoped n m (apply_all h args) →
    free_bound b ≤ 2 ^ 31 + 2001
let_body n m h args k a t b e few is =
    let parts : IsScoped n m (LetIn k a t b) = subst (IsScoped n m) e (scoped_apart n m h args is).0 in
    let free = scoped_free (suc n) m b parts.2 in omega (arith, free, few)

pub let_value : (n m : ℕ) (h : Tree) (args : List Tree) (k : List ℕ) (a t b : Tree) → h ≡ LetIn k a t b → n ≤ 2 ^ 31 + 2000 → IsScoped n m (apply_all h args) →
    free_bound t ≤ 2 ^ 31 + 2000
let_value n m h args k a t b e few is =
    let parts : IsScoped n m (LetIn k a t b) = subst (IsScoped n m) e (scoped_apart n m h args is).0 in
    let free = scoped_free n m t parts.1 in omega (arith, free, few)

-- fuel
pub same_calls : (old new : FuelState) → IsSpentOf old new → calls_left new ≡ calls_left old
same_calls old new is = let same = is.nesting in omega (arith, same)

pub spent_more : (a b c : FuelState) → IsSpentOf a b → IsSpentOf b c → IsSpentOf a c
spent_more a b c one two =
    let less = one.spent in let more = two.spent in
    record { limit = two.limit ∙ one.limit; nesting = two.nesting ∙ one.nesting; spent = omega (arith, less, more) }

pub is_spine : (s : Spine) (t : Tree) → IsSpineOf s t → IsSpine s
is_spine s t of = record { head = of.head; small = ap is_small of.whole ∙ of.small }

pub none_is : (found : Option Spine) → ((x : Spine) → found ≡ Some x → ⊥) → found ≡ None
none_is None none = refl
none_is (Some x) none = absurd (none x refl)

pub entered_meets : (env : List Slot) (delta : Bool) (ctx : List Hyp) (old entered after ended : FuelState) (result : Result Tree Stop) (t : Tree) →
    entered ≡ nested true old → old.nesting < 2000 → left ended ≡ left after →
    Meets result (left after) (loop_from env delta (calls_left entered) ctx t (left entered)) →
    Meets result (left ended) (whnf_at env delta (calls_left old) ctx t (left old))
entered_meets env delta ctx old entered after ended result t into room same meets =
    let nest : entered.nesting ≡ old.nesting + 1 = ap (λ f. f.nesting) into in
    let calls : calls_left old ≡ suc (calls_left entered) = omega (arith, nest, room) in
    let units : left entered ≡ left old = ap left into in
    let one = meets_entered env delta (calls_left entered) ctx result (left after) t (left entered) (calls_left old) calls meets in
    let two = subst (λ l. Meets result (left after) (whnf_at env delta (calls_left old) ctx t l)) units one in
    subst (λ k. Meets result k (whnf_at env delta (calls_left old) ctx t (left old))) (sym same) two

pub entered_spine : (env : List Slot) (delta : Bool) (ctx : List Hyp) (old entered after ended : FuelState) (result : Result Spine Stop) (t : Tree) →
    entered ≡ nested true old → old.nesting < 2000 → left ended ≡ left after →
    EndsAs IsSpineOf result (left after) (loop_from env delta (calls_left entered) ctx t (left entered)) →
    EndsAs IsSpineOf result (left ended) (whnf_at env delta (calls_left old) ctx t (left old))
entered_spine env delta ctx old entered after ended result t into room same ends =
    let nest : entered.nesting ≡ old.nesting + 1 = ap (λ f. f.nesting) into in
    let calls : calls_left old ≡ suc (calls_left entered) = omega (arith, nest, room) in
    let units : left entered ≡ left old = ap left into in
    let one = spine_entered env delta (calls_left entered) ctx result (left after) t (left entered) (calls_left old) calls ends in
    let two = subst (λ l. EndsAs IsSpineOf result (left after) (whnf_at env delta (calls_left old) ctx t l)) units one in
    subst (λ k. EndsAs IsSpineOf result k (whnf_at env delta (calls_left old) ctx t (left old))) (sym same) two
