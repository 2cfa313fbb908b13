-- Parameters opened one after another, what they tell, and the type as an assumption.
use Rattle.std.specs.Prelude.{◌≡◌, ℕ, suc, ◌-◌, ◌<◌, nat_lt, if◌then◌else◌, List, [], ◌∷◌, ◌++◌, length, Bool, true, false, Result, Ok, Err, IsTrue, refl}
use Rattle.std.proofs.Common.{arith, ap, sym, ◌∙◌}
use Rattle.std.proofs.lemmas.Bool.Decides.{nat_tests}
use Rattle.base_core.specs.declared.refusals.Stop.{Stop}
use Rattle.base_core.specs.declared.refusals.Stop.TheVariants.{Refused, Out, NoMem}
use Rattle.core_term.specs.Tree.{Tree, Var, Sorted, Constant, Prod, Lam, LetIn, App}
use Rattle.term_spine.specs.Globals.{has, globals_of, with_place, places_in}
use Rattle.term_spine.proofs.Places.{places_has, places_ascend}
use Rattle.cic_rules.specs.declared.context.Hyp.{Hyp}
use Rattle.cic_rules.specs.declared.decls.InductiveDecl.{InductiveDecl}
use Rattle.cic_rules.specs.declared.env.Slot.{Slot}
use Rattle.cic_rules.specs.declared.judge.InferredSort.{InferredSort}
use Rattle.cic_rules.specs.Contexts.{extended, plain_hyp, products_over}
use Rattle.cic_rules.specs.Scopes.{IsScoped, IsScopedContext, AreBefore, UsesOnly}
use Rattle.cic_rules.specs.Environments.{IsEnvironment, IsNew, MayEnter}
use Rattle.cic_rules.specs.Runs.{Ran, Run, and_then, ◌>>=◌, pure}
use Rattle.cic_rules.specs.Convert.{with_hyp}
use Rattle.cic_rules.specs.Infer.{union, sort_of_at}
use Rattle.cic_rules.specs.Inductive.{Opened as Params, opened, open_params}
use Rattle.cic_rules.specs.Laws.{Tells}
use Rattle.cic_rules.proofs.TellsLaws.{tells_pure, tells_bind, tells_within}
use Rattle.cic_rules.proofs.JudgeScopes.{scope_of_sorts}
use Rattle.cic_rules.proofs.ShapeLaws.{has_append}
use Rattle.cic_rules.proofs.DeclareLaws.{judged_may_enter}
use Rattle.inductive_check.specs.declared.families.Opened.{Opened}
use Rattle.inductive_check.specs.Steps.{MeetsOpened, params_opened, param_at, param_with, assumption_of, IsTypeOver}
use Rattle.cic_rules.specs.Fuel.{FuelState, IsSpentOf, left, calls_left}

module _ (env : List Slot) (calls : ℕ) where
  abbrev rest_of : List Hyp → Params → Run Params
  rest_of hs o = open_params env calls hs o.ctx o.used

  by_hyp : (a : Result (List Hyp) Stop) (hs : List Hyp) (used : List ℕ) (units : ℕ) →
      and_then a (λ inner. open_params env calls hs inner used) units
      ≡ and_then (and_then a (λ inner. pure (opened inner used)) units).answer (rest_of hs) (and_then a (λ inner. pure (opened inner used)) units).left
  by_hyp (Ok inner) hs used units = refl
  by_hyp (Err stop) hs used units = refl

  by_sort : (a : Result InferredSort Stop) (h : Hyp) (hs ctx : List Hyp) (used : List ℕ) (units : ℕ) →
      and_then a (λ s. with_hyp ctx (plain_hyp h.name h.ty) >>= (λ inner. open_params env calls hs inner (union used s.used))) units
      ≡ and_then (and_then a (λ s. with_hyp ctx (plain_hyp h.name h.ty) >>= (λ inner. pure (opened inner (union used s.used)))) units).answer (rest_of hs)
      (and_then a (λ s. with_hyp ctx (plain_hyp h.name h.ty) >>= (λ inner. pure (opened inner (union used s.used)))) units).left
  by_sort (Ok s) h hs ctx used units = by_hyp (extended ctx (plain_hyp h.name h.ty)) hs (union used s.used) units
  by_sort (Err stop) h hs ctx used units = refl

  -- a parameter's own run first
  param_first : (h : Hyp) (hs ctx : List Hyp) (used : List ℕ) (units : ℕ) →
      open_params env calls (h ∷ hs) ctx used units ≡ (param_at env calls ctx used h >>= rest_of hs) units
  param_first h hs ctx used units = by_sort (sort_of_at env calls ctx h.ty units).answer h hs ctx used (sort_of_at env calls ctx h.ty units).left

  pub param_done : (h : Hyp) (hs ctx : List Hyp) (used : List ℕ) (o : Opened) (units later : ℕ) →
      Ok (params_opened o) ≡ (param_at env calls ctx used h units).answer → later ≡ (param_at env calls ctx used h units).left →
      open_params env calls (h ∷ hs) ctx used units ≡ open_params env calls hs o.ctx o.used later
  param_done h hs ctx used o units later is at =
      param_first h hs ctx used units
      ∙ ap (λ a. and_then a (rest_of hs) (param_at env calls ctx used h units).left) (sym is)
      ∙ ap (λ k. open_params env calls hs o.ctx o.used k) (sym at)

  pub param_ended : (h : Hyp) (hs ctx : List Hyp) (used : List ℕ) (stop : Stop) (units later : ℕ) →
      Err stop ≡ (param_at env calls ctx used h units).answer → later ≡ (param_at env calls ctx used h units).left →
      open_params env calls (h ∷ hs) ctx used units ≡ record { answer = Err stop; left = later }
  param_ended h hs ctx used stop units later is at =
      param_first h hs ctx used units
      ∙ ap (λ a. and_then a (rest_of hs) (param_at env calls ctx used h units).left) (sym is)
      ∙ ap (λ k. record { answer = Err stop; left = k }) (sym at)

-- what is in scope behind the parameters is so over them
over_tells : (env : List Slot) → IsEnvironment env → (calls : ℕ) (hs ctx : List Hyp) (used : List ℕ) → IsScopedContext (length env) ctx →
    Tells (open_params env calls hs ctx used)
    (λ o. (t : Tree) → IsScoped (length o.ctx) (length env) t → IsScoped (length ctx) (length env) (products_over hs t))
over_tells env is calls [] ctx used hyps = tells_pure (opened ctx used) (λ t e. e)
over_tells env is calls (h ∷ hs) ctx used hyps =
    tells_bind (scope_of_sorts env is calls ctx hyps h.ty) (λ s j. tells_within ctx (plain_hyp h.name h.ty) _ (record {
      tells = λ left o e. λ t k. (
        j.term,
        (over_tells env is calls hs (plain_hyp h.name h.ty ∷ ctx) (union used s.used) (record { ty = j.term; value = tt }, hyps)).tells left o e t k,
      );
    }))

pub opened_over : (env : List Slot) → IsEnvironment env → (calls units : ℕ) (d : InductiveDecl) (o : Opened) →
    Ok (params_opened o) ≡ (open_params env calls d.params [] [] units).answer → IsTypeOver env d o.ctx
opened_over env is calls units d o e = λ h. (over_tells env is calls d.params [] [] tt).tells units (params_opened o) (sym e) d.arity h

-- the globals of a term
has_one : (ps qs : List ℕ) (c : ℕ) → IsTrue (has ps c) → IsTrue (has (ps ++ qs) c)
has_one ps qs c h = grind (arith, has_append ps qs c, h)

has_two : (ps qs : List ℕ) (c : ℕ) → IsTrue (has qs c) → IsTrue (has (ps ++ qs) c)
has_two ps qs c h = grind (arith, has_append ps qs c, h)

has_first : (c : ℕ) → IsTrue (has (c ∷ []) c)
has_first c = grind (arith, nat_tests)

uses_by : (used : List ℕ) (t : Tree) → ((c : ℕ) → IsTrue (has (globals_of t) c) → IsTrue (has used c)) → UsesOnly used t
uses_by used (Var i) h = tt
uses_by used (Sorted s) h = tt
uses_by used (Constant c) h = h c (has_first c)
uses_by used (Prod n a b) h =
    (uses_by used a (λ c e. h c (has_one (globals_of a) (globals_of b) c e)), uses_by used b (λ c e. h c (has_two (globals_of a) (globals_of b) c e)))
uses_by used (Lam n a b) h =
    (uses_by used a (λ c e. h c (has_one (globals_of a) (globals_of b) c e)), uses_by used b (λ c e. h c (has_two (globals_of a) (globals_of b) c e)))
uses_by used (LetIn n a t b) h = (
  uses_by used a (λ c e. h c (has_one (globals_of a) (globals_of t ++ globals_of b) c e)),
  uses_by used t (λ c e. h c (has_two (globals_of a) (globals_of t ++ globals_of b) c (has_one (globals_of t) (globals_of b) c e))),
  uses_by used b (λ c e. h c (has_two (globals_of a) (globals_of t ++ globals_of b) c (has_two (globals_of t) (globals_of b) c e))),
)
uses_by used (App f a) h =
    (uses_by used f (λ c e. h c (has_one (globals_of f) (globals_of a) c e)), uses_by used a (λ c e. h c (has_two (globals_of f) (globals_of a) c e)))

before_append : (m : ℕ) (ps qs : List ℕ) → AreBefore m ps → AreBefore m qs → AreBefore m (ps ++ qs)
before_append m [] qs h k = k
before_append m (p ∷ ps) qs h k = (h.0, before_append m ps qs h.1 k)

before_globals : (n m : ℕ) (t : Tree) → IsScoped n m t → AreBefore m (globals_of t)
before_globals n m (Var i) h = tt
before_globals n m (Sorted s) h = tt
before_globals n m (Constant c) h = (h, tt)
before_globals n m (Prod x a b) h = before_append m (globals_of a) (globals_of b) (before_globals n m a h.0) (before_globals (suc n) m b h.1)
before_globals n m (Lam x a b) h = before_append m (globals_of a) (globals_of b) (before_globals n m a h.0) (before_globals (suc n) m b h.1)
before_globals n m (LetIn x a t b) h =
    before_append m (globals_of a) (globals_of t ++ globals_of b) (before_globals n m a h.0)
    (before_append m (globals_of t) (globals_of b) (before_globals n m t h.1) (before_globals (suc n) m b h.2))
before_globals n m (App f a) h = before_append m (globals_of f) (globals_of a) (before_globals n m f h.0) (before_globals n m a h.1)

place_by : (b e : Bool) (m p q : ℕ) (ps more : List ℕ) → p < m → AreBefore m (q ∷ ps) → AreBefore m more →
    AreBefore m (if b then p ∷ q ∷ ps else (if e then q ∷ more else q ∷ ps))
place_by true e m p q ps more lt h k = (lt, h)
place_by false true m p q ps more lt h k = (h.0, k)
place_by false false m p q ps more lt h k = h

before_place : (m p : ℕ) (ps : List ℕ) → p < m → AreBefore m ps → AreBefore m (with_place p ps)
before_place m p [] lt h = (lt, tt)
before_place m p (q ∷ qs) lt h = place_by (nat_lt p q) (nat_lt q p) m p q qs (with_place p qs) lt h (before_place m p qs lt h.1)

before_places : (m : ℕ) (ps : List ℕ) → AreBefore m ps → AreBefore m (places_in ps)
before_places m [] h = tt
before_places m (p ∷ ps) h = before_place m p (places_in ps) h.0 (before_places m ps h.1)

-- a type in scope may be assumed under a new name
pub assumed_may : (env : List Slot) (name : List ℕ) (ty : Tree) → IsNew env name → IsScoped 0 (length env) ty → MayEnter env (assumption_of name ty)
assumed_may env name ty new scoped =
    judged_may_enter.assumed env name ty (places_in (globals_of ty)) new (record {
      term = scoped;
      names = record { ascending = places_ascend (globals_of ty); before = before_places (length env) (globals_of ty) (before_globals 0 (length env) ty scoped) };
      uses = uses_by (places_in (globals_of ty)) ty (λ c e. places_has (globals_of ty) c ∙ e);
    })

same_calls : (f g : FuelState) → IsSpentOf f g → calls_left g ≡ calls_left f
same_calls f g kept = ap (λ k. 2000 - k) kept.nesting

module _ (env : List Slot) where
  -- one more parameter
  pub opened_kept : (h : Hyp) (hs rest ctx : List Hyp) (used : List ℕ) (o : Opened) (f0 f1 f2 : FuelState) (ran : Ran Params) →
      ran ≡ open_params env (calls_left f0) rest ctx used (left f1) → rest ≡ h ∷ hs → IsSpentOf f0 f1 →
      (Ok (params_opened o) ≡ (param_with env ctx used h f1).answer) × (left f2 ≡ (param_with env ctx used h f1).left) →
      ran ≡ open_params env (calls_left f0) hs o.ctx o.used (left f2)
  opened_kept h hs rest ctx used o f0 f1 f2 ran is split kept meets =
      let here : param_with env ctx used h f1 ≡ param_at env (calls_left f0) ctx used h (left f1) =
      ap (λ k. param_at env k ctx used h (left f1)) (same_calls f0 f1 kept) in
      is ∙ ap (λ x. open_params env (calls_left f0) x ctx used (left f1)) split
      ∙ param_done env (calls_left f0) h hs ctx used o (left f1) (left f2) (meets.0 ∙ ap (λ x. x.answer) here) (meets.1 ∙ ap (λ x. x.left) here)

  opened_cut_at : (h : Hyp) (hs rest ctx : List Hyp) (used : List ℕ) (stop : Stop) (f0 f1 : FuelState) (later : ℕ) (ran : Ran Params) →
      ran ≡ open_params env (calls_left f0) rest ctx used (left f1) → rest ≡ h ∷ hs → IsSpentOf f0 f1 →
      Err stop ≡ (param_with env ctx used h f1).answer → later ≡ (param_with env ctx used h f1).left →
      (Err stop ≡ ran.answer) × (later ≡ ran.left)
  opened_cut_at h hs rest ctx used stop f0 f1 later ran is split kept ends at =
      let here : param_with env ctx used h f1 ≡ param_at env (calls_left f0) ctx used h (left f1) =
      ap (λ k. param_at env k ctx used h (left f1)) (same_calls f0 f1 kept) in
      let whole : ran ≡ record { answer = Err stop; left = later } =
      is ∙ ap (λ x. open_params env (calls_left f0) x ctx used (left f1)) split
      ∙ param_ended env (calls_left f0) h hs ctx used stop (left f1) later (ends ∙ ap (λ x. x.answer) here) (at ∙ ap (λ x. x.left) here) in
      (sym (ap (λ x. x.answer) whole), sym (ap (λ x. x.left) whole))

  -- a parameter that ends the run
  pub opened_cut : (h : Hyp) (hs rest ctx : List Hyp) (used : List ℕ) (stop : Stop) (f0 f1 : FuelState) (later : ℕ) (ran : Ran Params) →
      ran ≡ open_params env (calls_left f0) rest ctx used (left f1) → rest ≡ h ∷ hs → IsSpentOf f0 f1 →
      MeetsOpened (Err stop) later (param_with env ctx used h f1) → MeetsOpened (Err stop) later ran
  opened_cut h hs rest ctx used (Refused x) f0 f1 later ran is split kept meets =
      opened_cut_at h hs rest ctx used (Refused x) f0 f1 later ran is split kept meets.0 meets.1
  opened_cut h hs rest ctx used (Out x) f0 f1 later ran is split kept meets =
      opened_cut_at h hs rest ctx used (Out x) f0 f1 later ran is split kept meets.0 meets.1
  opened_cut h hs rest ctx used NoMem f0 f1 later ran is split kept meets = tt

  -- all of them
  pub opened_met : (rest : List Hyp) (o : Opened) (calls units : ℕ) (ran : Ran Params) →
      ran ≡ open_params env calls rest o.ctx o.used units → rest ≡ [] → (Ok (params_opened o) ≡ ran.answer) × (units ≡ ran.left)
  opened_met rest o calls units ran is none =
      let whole : ran ≡ record { answer = Ok (params_opened o); left = units } = is ∙ ap (λ x. open_params env calls x o.ctx o.used units) none in
      (sym (ap (λ x. x.answer) whole), sym (ap (λ x. x.left) whole))

pub spent_through : (f g h : FuelState) → IsSpentOf f g → IsSpentOf g h → IsSpentOf f h
spent_through f g h one two =
    let a = one.spent in let b = two.spent in record { limit = two.limit ∙ one.limit; nesting = two.nesting ∙ one.nesting; spent = omega (arith, a, b) }
