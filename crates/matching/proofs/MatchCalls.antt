-- How the calls of a match meet its definition.
use Rattle.std.specs.Prelude.{if◌then◌else◌, ◌^◌, ◌||◌, nat_lt, slice_get, slice_set, IfOk}
use Rattle.std.proofs.Common.{◌≡◌, ℕ, zero, suc, ◌+◌, ◌-◌, ◌<◌, ◌≤◌, max, List, [], ◌∷◌, length, Bool, true, false, Option, Some, None, Result, Ok, Err, refl, sym, ap, subst, ◌∙◌, arith}
use Rattle.std.proofs.lemmas.Bool.Decides.{nat_tests}
use Rattle.base_core.specs.Answers.{Gives}
use Rattle.base_core.specs.declared.refusals.Stop.{Stop}
use Rattle.base_core.specs.declared.refusals.Stop.TheVariants.{Refused, Out, NoMem}
use Rattle.base_core.specs.declared.refusals.Limit.TheVariants.{DepthLimit, SizeLimit}
use Rattle.core_term.specs.Tree.{Tree, Var, Sorted, Constant, Prod, Lam, LetIn, App, depth_of, free_bound, is_small, IsTerm, IsNumbered}
use Rattle.core_term.specs.Places.{lift_of}
use Rattle.core_term.proofs.Bounds.{depth-lifted}
use Rattle.core_term.proofs.FreeVariables.{numbered}
use Rattle.cic_rules.specs.declared.context.Hyp.{Hyp}
use Rattle.cic_rules.specs.declared.env.Slot.{Slot}
use Rattle.cic_rules.specs.declared.judge.Mode.TheVariants.{Same}
use Rattle.cic_rules.specs.Contexts.{IsContext, IsHypAt, IsInIfAny}
use Rattle.cic_rules.specs.Convert.{conv_at}
use Rattle.cic_rules.specs.Fuel.{FuelState, left, calls_left, nested}
use Rattle.cic_rules.specs.Judges.{Meets, IsTermIn}
use Rattle.cic_rules.specs.Runs.{Ran, Run, ◌>>=◌, ◌>>◌, pure, out_of, spend, check_size}
use Rattle.cic_rules.specs.Scopes.{IsScoped, IsScopedIfAny, IsScopedHyp}
use Rattle.cic_rules.proofs.ScopeLaws.{scoped_free}
use Rattle.matching.specs.Lowering.{has_bound, lower_of, without_binders}
use Rattle.matching.specs.Match.{set_value, match_filled, match_inside, match_at}
use Rattle.matching.specs.Patterns.{Values, value_at, has_unset, filled_variable, fill, AreShallow}
use Rattle.matching.specs.Scopes.{AreValues, IsPatternIn, IsFoundIn, Finds, match_with, begun_with, sized}
use Rattle.matching.proofs.Fillings.{fill_scoped}
use Rattle.matching.proofs.Lowerings.{lower_scoped}
use Rattle.matching.proofs.ValuesKept.{set_count}

-- a run whose first part answered
after_value : {A B : Type 0} (f : Run A) (g : A → Run B) (l k : ℕ) (x : A) → Meets (Ok x) k (f l) → (f >>= g) l ≡ g x k
after_value f g l k x meets = rw (sym meets.0, sym meets.1) refl

stopped : {A B : Type 0} (f : Run A) (g : A → Run B) (l k : ℕ) (stop : Stop) → Meets {A = A} (Err stop) k (f l) → Meets {A = B} (Err stop) k ((f >>= g) l)
stopped f g l k (Refused r) meets = rw (sym meets.0, sym meets.1) (refl, refl)
stopped f g l k (Out limit) meets = rw (sym meets.0, sym meets.1) (refl, refl)
stopped f g l k NoMem meets = tt

passes : {A : Type 0} (b : Bool) (rest : Run A) (l : ℕ) → b ≡ true → ((if b then pure tt else out_of SizeLimit) >> rest) l ≡ rest l
passes true rest l e = refl
passes false rest l e = cc

small_is : (t : Tree) → IsTerm t → is_small t ≡ true
small_is t is = let small = is.small in let shallow = is.shallow in grind (arith, nat_tests, small, shallow)

-- a pattern with its values is compared
compared : (env : List Slot) (calls : ℕ) (ctx : List Hyp) (p t : Tree) (values : Values) (k l : ℕ) (same : Bool) → IsTerm p →
    Meets (Ok same) k (conv_at env calls ctx Same p t l) → Meets (Ok (if same then Some values else None)) k (match_filled env calls ctx p t values l)
compared env calls ctx p t values k l same is meets =
    let f = conv_at env calls ctx Same p t in
    let g : Bool → Run (Option Values) = λ b. pure (if b then Some values else None) in
    let whole : match_filled env calls ctx p t values l ≡ g same k = passes (is_small p) (f >>= g) l (small_is p is) ∙ after_value f g l k same meets in
    subst (λ ran. Meets (Ok (if same then Some values else None)) k ran) (sym whole) (refl, refl)

pub compared_yes : (env : List Slot) (calls : ℕ) (ctx : List Hyp) (p t : Tree) (values : Values) (k l : ℕ) (same : Bool) → IsTerm p → same ≡ true →
    Meets (Ok same) k (conv_at env calls ctx Same p t l) → Meets (Ok (Some values)) k (match_filled env calls ctx p t values l)
compared_yes env calls ctx p t values k l true is e meets = compared env calls ctx p t values k l true is meets
compared_yes env calls ctx p t values k l false is e meets = cc

pub compared_no : (env : List Slot) (calls : ℕ) (ctx : List Hyp) (p t : Tree) (values : Values) (k l : ℕ) (same : Bool) → IsTerm p → same ≡ false →
    Meets (Ok same) k (conv_at env calls ctx Same p t l) → Meets {A = Option Values} (Ok None) k (match_filled env calls ctx p t values l)
compared_no env calls ctx p t values k l true is e meets = cc
compared_no env calls ctx p t values k l false is e meets = compared env calls ctx p t values k l false is meets

pub not_compared : (env : List Slot) (calls : ℕ) (ctx : List Hyp) (p t : Tree) (values : Values) (k l : ℕ) (stop : Stop) → IsTerm p →
    Meets {A = Bool} (Err stop) k (conv_at env calls ctx Same p t l) → Meets {A = Option Values} (Err stop) k (match_filled env calls ctx p t values l)
not_compared env calls ctx p t values k l stop is meets =
    let f = conv_at env calls ctx Same p t in
    let g : Bool → Run (Option Values) = λ b. pure (if b then Some values else None) in
    subst (λ ran. Meets {A = Option Values} (Err stop) k ran) (sym (passes (is_small p) (f >>= g) l (small_is p is))) (stopped f g l k stop meets)

-- no judgement may be begun
pub no_calls : (env : List Slot) (ctx : List Hyp) (binders : ℕ) (p t : Tree) (values : Values) (f : FuelState) (units : ℕ) → 2000 ≤ f.nesting → units ≡ left f →
    Meets {A = Option Values} (Err (Out DepthLimit)) units (match_with env ctx binders p t values f)
unfolding match_at
no_calls env ctx binders p t values f units full is =
    let none : calls_left f ≡ zero = omega (arith, full) in
    rw none (refl, is)

step_begun : (env : List Slot) (calls : ℕ) (ctx : List Hyp) (binders : ℕ) (p t : Tree) (values : Values) (units : ℕ) →
    match_at env (suc calls) ctx binders p t values units ≡ (spend 1 >> match_inside env calls (match_at env calls) ctx binders p t values) units
unfolding match_at
step_begun env calls ctx binders p t values units = refl

-- what a match that was begun answers is what the match does
pub begun_meets : (env : List Slot) (ctx : List Hyp) (binders : ℕ) (p t : Tree) (values : Values) (old entered after ended : FuelState)
    (result : Result (Option Values) Stop) → entered ≡ nested true old → old.nesting < 2000 → left ended ≡ left after →
    Meets result (left after) (begun_with env ctx binders p t values entered) → Meets result (left ended) (match_with env ctx binders p t values old)
begun_meets env ctx binders p t values old entered after ended result into room same meets =
    let nest : entered.nesting ≡ old.nesting + 1 = ap (λ f. f.nesting) into in
    let calls : calls_left old ≡ suc (calls_left entered) = omega (arith, nest, room) in
    let units : left entered ≡ left old = ap left into in
    let here : match_with env ctx binders p t values old ≡ begun_with env ctx binders p t values entered =
    ap (λ k. match_at env k ctx binders p t values (left old)) calls ∙ (step_begun env (calls_left entered) ctx binders p t values (left old)
    ∙ ap (λ l. (spend 1 >> match_inside env (calls_left entered) (match_at env (calls_left entered)) ctx binders p t values) l) (sym units)) in
    let P : Ran (Option Values) → Type 0 = λ ran. Meets result (left after) ran in
    subst (λ k. Meets result k (match_with env ctx binders p t values old)) (sym same) (subst P (sym here) meets)

-- values make a pattern deeper by as much as they are deep
filled_depth : (values : Values) (at i count binders : ℕ) → AreShallow values → depth_of (filled_variable (value_at values at) i count binders) ≤ 1001
filled_depth [] at i count binders all = omega arith
filled_depth (None ∷ values) zero i count binders all = omega arith
filled_depth (Some v ∷ values) zero i count binders all = let deep = depth-lifted v binders 0 in let low = all.0 in omega (arith, deep, low)
filled_depth (v ∷ values) (suc at) i count binders all = filled_depth values at i count binders all.1

variable_depth : (b : Bool) (values : Values) (i binders : ℕ) → AreShallow values →
    depth_of (if b then Var i else filled_variable (value_at values (i - binders)) i (length values) binders) ≤ 1001
variable_depth true values i binders all = omega arith
variable_depth false values i binders all = filled_depth values (i - binders) i (length values) binders all

fill_depth : (values : Values) (t : Tree) (binders : ℕ) → AreShallow values → depth_of (fill values t binders) ≤ depth_of t + 1000
fill_depth values (Var i) binders all = let here = variable_depth (nat_lt i binders) values i binders all in omega (arith, here)
fill_depth values (Sorted s) binders all = omega arith
fill_depth values (Constant c) binders all = omega arith
fill_depth values (Prod n a b) binders all = omega (arith, fill_depth values a binders all, fill_depth values b (binders + 1) all)
fill_depth values (Lam n a b) binders all = omega (arith, fill_depth values a binders all, fill_depth values b (binders + 1) all)
fill_depth values (LetIn n a t b) binders all =
    omega (arith, fill_depth values a binders all, fill_depth values t binders all, fill_depth values b (binders + 1) all)
fill_depth values (App f a) binders all = omega (arith, fill_depth values f binders all, fill_depth values a binders all)

-- a pattern without unset variables, filled, is a term of the context
pub filled_in : (env : List Slot) (ctx : List Hyp) (binders : ℕ) (values : Values) (p : Tree) → IsPatternIn env ctx binders values p →
    has_unset values p binders ≡ false → IsTermIn env ctx (fill values p binders)
filled_in env ctx binders values p is settled =
    let within = is.within in
    fill_scoped (length ctx - binders) (length env) (length ctx + length values) (length ctx) binders values p refl (omega (arith, within)) is.pattern is.found settled

pub filled_numbered : (env : List Slot) (ctx : List Hyp) (binders : ℕ) (values : Values) (p : Tree) → IsPatternIn env ctx binders values p →
    has_unset values p binders ≡ false → IsContext ctx → IsTerm p → AreShallow values → IsNumbered (fill values p binders)
filled_numbered env ctx binders values p is settled context term all =
    let free = scoped_free (length ctx) (length env) (fill values p binders) (filled_in env ctx binders values p is settled) in
    let deep = fill_depth values p binders all in
    let short = context.short in
    let shallow = term.shallow in
    numbered (fill values p binders) (length ctx) free (omega (arith, deep, short, shallow))

sized_same : (b : Bool) (u filled : Tree) → Gives {A = Tree} (Ok filled) (if b then Ok u else Err (Out SizeLimit)) → u ≡ filled
sized_same true u filled gives = cc
sized_same false u filled gives = cc

pub filled_term : (env : List Slot) (ctx : List Hyp) (binders : ℕ) (values : Values) (p filled : Tree) → IsPatternIn env ctx binders values p →
    has_unset values p binders ≡ false → Gives (Ok filled) (sized (fill values p binders)) → IsTermIn env ctx filled
filled_term env ctx binders values p filled is settled gives =
    let same = sized_same (is_small (fill values p binders)) (fill values p binders) filled gives in
    subst (IsTermIn env ctx) same (filled_in env ctx binders values p is settled)

-- what an unset variable takes is in scope outside of the binders
values_set : (n m at : ℕ) (values : Values) (v : Tree) → AreValues n m values → IsScoped n m v → AreValues n m (slice_set values at (Some v))
values_set n m at [] v all is = tt
values_set n m zero (w ∷ values) v all is = (is, all.1)
values_set n m (suc at) (w ∷ values) v all is = (all.0, values_set n m at values v all.1 is)

found_by : (env : List Slot) (ctx : List Hyp) (binders at : ℕ) (values : Values) (t : Tree) (b : Bool) → has_bound t binders 0 ≡ b → binders ≤ length ctx →
    AreValues (length ctx - binders) (length env) values → IsTermIn env ctx t →
    Finds env ctx binders values (set_value values at (if b then None else Some (lower_of t binders 0)))
found_by env ctx binders at values t true free within all is = tt
found_by env ctx binders at values t false free within all is =
    record {
      count = set_count values at (Some (lower_of t binders 0));
      scoped = values_set (length ctx - binders) (length env) at values (lower_of t binders 0) all
          (lower_scoped (length ctx) (length env) (length ctx - binders) binders 0 t (omega (arith, within)) (omega arith) is free);
    }

pub variable_found : (env : List Slot) (ctx : List Hyp) (binders at : ℕ) (values : Values) (p t : Tree) (found : Option Values) →
    IsPatternIn env ctx binders values p → IsTermIn env ctx t → found ≡ set_value values at (without_binders t binders) → Finds env ctx binders values found
variable_found env ctx binders at values p t found is term e =
    subst (Finds env ctx binders values) (sym e) (found_by env ctx binders at values t (has_bound t binders 0) refl is.within is.found term)

-- a hypothesis in scope may stand where it stands
value_at_hyp : (n m : ℕ) (value : Option Tree) → IsScopedIfAny n m value → IsInIfAny n value
value_at_hyp n m None is = tt
value_at_hyp n m (Some t) is = scoped_free n m t is

pub hyp_at : (n m : ℕ) (h : Hyp) → IsScopedHyp n m h → IsHypAt n h
hyp_at n m h is = record { ty = scoped_free n m h.ty is.ty; value = value_at_hyp n m h.value is.value }
