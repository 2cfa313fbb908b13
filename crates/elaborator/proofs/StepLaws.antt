-- What is true of the values of steps: what is put together stays in scope.
use Rattle.std.proofs.Common.{◌≡◌, ℕ, zero, suc, ◌+◌, ◌<◌, ◌&&◌, nat_le, List, [], ◌∷◌, length, take, bytes_eq, codes, Bool, true, false, Option, Some, None, Ok, Err, refl, subst, arith}
use Rattle.std.specs.Prelude.{if◌then◌else◌, slice_get}
use Rattle.base_core.specs.declared.refusal_codes.TheConstants.{NO_LEVEL}
use Rattle.coq_syntax.specs.declared.words.TokenPlace.{TokenPlace}
use Rattle.coq_syntax.specs.declared.words.Word.{Word}
use Rattle.coq_syntax.specs.Faults.{value_of}
use Rattle.coq_syntax.specs.Limits.{greatest_level}
use Rattle.core_term.specs.declared.sorts.Sort.TheVariants.{TypeSort}
use Rattle.core_term.specs.Tree.{Tree, Var, Constant, Sorted, App, is_small}
use Rattle.cic_rules.specs.declared.context.Hyp.{Hyp}
use Rattle.cic_rules.specs.declared.env.Slot.{Slot}
use Rattle.cic_rules.specs.Environments.{place_in}
use Rattle.cic_rules.specs.Scopes.{IsScoped, AreScoped, IsScopedContext}
use Rattle.cic_rules.specs.Steps.{Step, TooLarge, step_then, stop_of, take_step, refuse_step}
use Rattle.cic_rules.specs.Laws.{Tells, FoundPlacesAreThere}
use Rattle.cic_rules.proofs.ScopeLaws.{scoped_get}
use Rattle.cic_rules.proofs.TellsLaws.{tells_pure, tells_stop}
use Rattle.elaborator.specs.declared.binders.Binding.{Binding}
use Rattle.elaborator.specs.declared.binders.Binding.TheVariants.{Product, Function}
use Rattle.elaborator.specs.Names.{token, one_more, index_of, constant_at, global, meaning, name}
use Rattle.elaborator.specs.Parts.{sized, applied, times, successors, number_of, numeral, type_at, bind, closed}
use Rattle.elaborator.specs.Arrangement.{with_picked, picked}

-- the step has no value, or one of which this is true
pub record Holds {A : Type 0} (step : Step A) (P : A → Type 0) : Type 0 where
  pub holds : (x : A) → step ≡ Ok x → P x

pub holds_ok : {A : Type 0} {P : A → Type 0} (x : A) → P x → Holds (Ok x) P
holds_ok {P = P} x h = record { holds = λ y e. let same : x ≡ y = cc in subst P same h }

pub holds_refused : {A : Type 0} {P : A → Type 0} (code : ℕ) (w : TokenPlace) → Holds (refuse_step {A = A} code (token w)) P
holds_refused code w = record { holds = λ y e. absurd (cc) }

then_by : {A B : Type 0} (P : A → Type 0) (Q : B → Type 0) (step : Step A) (g : A → Step B) (y : B) → ((x : A) → step ≡ Ok x → P x) →
    ((x : A) → P x → Holds (g x) Q) → step_then step g ≡ Ok y → Q y
then_by P Q (Ok x) g y first rest e = (rest x (first x refl)).holds y e
then_by P Q (Err halt) g y first rest e = absurd (cc)

pub holds_then : {A B : Type 0} {P : A → Type 0} {Q : B → Type 0} (step : Step A) (g : A → Step B) → Holds step P → ((x : A) → P x → Holds (g x) Q) →
    Holds (step_then step g) Q
holds_then {P = P} {Q = Q} step g first rest = record { holds = λ y e. then_by P Q step g y first.holds rest e }

tells_by : {A : Type 0} (P : A → Type 0) (step : Step A) → ((x : A) → step ≡ Ok x → P x) → Tells (take_step step) P
tells_by P (Ok x) h = tells_pure x (h x refl)
tells_by P (Err halt) h = tells_stop (stop_of halt)

-- a step as a run
pub tells_step : {A : Type 0} {P : A → Type 0} (step : Step A) → Holds step P → Tells (take_step step) P
tells_step {P = P} step h = tells_by P step h.holds

sized_by : (P : Tree → Type 0) (b : Bool) (t : Tree) → P t → Holds {A = Tree} (if b then Ok t else Err TooLarge) P
sized_by P true t h = holds_ok t h
sized_by P false t h = record { holds = λ y e. absurd (cc) }

pub holds_sized : (P : Tree → Type 0) (t : Tree) → P t → Holds (sized t) P
holds_sized P t h = sized_by P (is_small t) t h

pub applied_holds : (n m : ℕ) (f : Tree) (args : List Tree) → IsScoped n m f → AreScoped n m args → Holds (applied f args) (λ t. IsScoped n m t)
applied_holds n m f [] one rest = holds_ok f one
applied_holds n m f (t ∷ ts) one rest =
    holds_then (sized (App f t)) (λ g. applied g ts) (holds_sized (λ u. IsScoped n m u) (App f t) (one, rest.0))
    (λ g h. applied_holds n m g ts h rest.1)

pub times_holds : (n m k : ℕ) (f t : Tree) → IsScoped n m f → IsScoped n m t → Holds (times k f t) (λ u. IsScoped n m u)
times_holds n m zero f t one two = holds_ok t two
times_holds n m (suc k) f t one two =
    holds_then (sized (App f t)) (λ u. times k f u) (holds_sized (λ u. IsScoped n m u) (App f t) (one, two))
    (λ u h. times_holds n m k f u one h)

module _ (below : FoundPlacesAreThere) (env : List Slot) (n : ℕ) where
  constant_by : (name : List ℕ) (place : TokenPlace) (found : Option ℕ) → place_in env name ≡ found →
      Holds (constant_at place found) (λ t. IsScoped n (length env) t)
  constant_by name place None e = holds_refused _ place
  constant_by name place (Some c) e = holds_ok (Constant c) (below env name c e)

  pub global_holds : (name : List ℕ) (place : TokenPlace) → Holds (global env name place) (λ t. IsScoped n (length env) t)
  global_holds name place = constant_by name place (place_in env name) refl

  successors_hold : (place : TokenPlace) (k : ℕ) (t : Tree) → IsScoped n (length env) t → Holds (successors env place k t) (λ u. IsScoped n (length env) u)
  successors_hold place zero t h = holds_ok t h
  successors_hold place (suc k) t h =
      holds_then (global env (codes "S") place) (λ f. times (suc k) f t) (global_holds (codes "S") place)
      (λ f one. times_holds n (length env) (suc k) f t one h)

  pub numeral_holds : (w : Word) → Holds (numeral env w) (λ t. IsScoped n (length env) t)
  numeral_holds w =
      holds_then (global env (codes "O") w.place) (λ t. successors env w.place (number_of w) t) (global_holds (codes "O") w.place)
      (λ t h. successors_hold w.place (number_of w) t h)

index_by : (b : Bool) (hs : List Hyp) (found : Option ℕ) (i : ℕ) → ((j : ℕ) → found ≡ Some j → j < length hs) →
    (if b then Some 0 else one_more found) ≡ Some i → i < suc (length hs)
index_by true hs found i rest e = let same : 0 ≡ i = cc in omega (arith, same)
index_by false hs None i rest e = absurd (cc)
index_by false hs (Some j) i rest e = let same : suc j ≡ i = cc in let less : j < length hs = rest j refl in omega (arith, same, less)

pub index_within : (ctx : List Hyp) (name : List ℕ) (i : ℕ) → index_of ctx name ≡ Some i → i < length ctx
index_within [] name i e = absurd (cc)
index_within (h ∷ hs) name i e = index_by (bytes_eq name h.name) hs (index_of hs name) i (index_within hs name) e

meaning_by : (below : FoundPlacesAreThere) (env : List Slot) (ctx : List Hyp) (w : Word) (found : Option ℕ) → index_of ctx w.text ≡ found →
    Holds (meaning env w found) (λ t. IsScoped (length ctx) (length env) t)
meaning_by below env ctx w None e = global_holds below env (length ctx) w.text w.place
meaning_by below env ctx w (Some i) e = holds_ok (Var i) (index_within ctx w.text i e)

pub name_holds : (below : FoundPlacesAreThere) (env : List Slot) (ctx : List Hyp) (w : Word) → Holds (name env ctx w) (λ t. IsScoped (length ctx) (length env) t)
name_holds below env ctx w = meaning_by below env ctx w (index_of ctx w.text) refl

level_by : (n m : ℕ) (b : Bool) (w : Word) → Holds (if b then Ok (Sorted (TypeSort (value_of w))) else refuse_step NO_LEVEL (token w.place)) (λ t. IsScoped n m t)
level_by n m true w = holds_ok (Sorted (TypeSort (value_of w))) tt
level_by n m false w = holds_refused _ w.place

pub level_holds : (n m : ℕ) (w : Word) → Holds (type_at w) (λ t. IsScoped n m t)
level_holds n m w = level_by n m (nat_le 1 (value_of w) && nat_le (value_of w) greatest_level) w

bind_scoped : (kind : Binding) (m : ℕ) (h : Hyp) (hs : List Hyp) (t : Tree) → IsScoped (length hs) m h.ty → IsScoped (suc (length hs)) m t →
    IsScoped (length hs) m (bind kind h t)
bind_scoped Product m h hs t one two = (one, two)
bind_scoped Function m h hs t one two = (one, two)

pub closed_holds : (kind : Binding) (n m k : ℕ) (inner : List Hyp) (t : Tree) → length inner ≡ n + k → IsScopedContext m inner →
    IsScoped (length inner) m t → Holds (closed kind (take k inner) t) (λ u. IsScoped n m u)
closed_holds kind n m zero inner t count hyps h =
    let same : length inner ≡ n = omega (arith, count) in
    holds_ok t (subst (λ l. IsScoped l m t) same h)
closed_holds kind n m (suc k) [] t count hyps h = let none : ⊥ = omega (arith, count) in absurd none
closed_holds kind n m (suc k) (x ∷ hs) t count hyps h =
    holds_then (sized (bind kind x t)) (λ u. closed kind (take k hs) u)
    (holds_sized (λ u. IsScoped (length hs) m u) (bind kind x t) (bind_scoped kind m x hs t hyps.0.ty h))
    (λ u one. closed_holds kind n m k hs u (omega (arith, count)) hyps.1 one)

with_scoped : (n m k : ℕ) (values : List Tree) (found : Option Tree) (ts : List Tree) → slice_get values k ≡ found → AreScoped n m values → AreScoped n m ts →
    AreScoped n m (with_picked found ts)
with_scoped n m k values None ts e all rest = rest
with_scoped n m k values (Some t) ts e all rest = (scoped_get n m k values t e all, rest)

pub picked_scoped : (n m : ℕ) (values : List Tree) (ks : List ℕ) → AreScoped n m values → AreScoped n m (picked values ks)
picked_scoped n m values [] all = tt
picked_scoped n m values (k ∷ ks) all = with_scoped n m k values (slice_get values k) (picked values ks) refl all (picked_scoped n m values ks all)
