-- The parts of a term in turn, by what a call of each answered.
use Rattle.std.specs.Prelude.{◌≡◌, ℕ, suc, ◌+◌, ◌<◌, List, Bool, true, false, Result, Ok, Err, if◌then◌else◌, refl}
use Rattle.std.proofs.Common.{arith, ap, sym, subst}
use Rattle.base_core.specs.declared.refusals.Stop.{Stop}
use Rattle.base_core.specs.declared.refusals.Stop.TheVariants.{Out}
use Rattle.base_core.specs.declared.refusals.Limit.TheVariants.{DepthLimit}
use Rattle.core_term.specs.Answers.{within_limits, Gives}
use Rattle.core_term.specs.Stops.{stop_of}
use Rattle.core_term.specs.Tree.{Tree, LetIn, is_small}
use Rattle.core_term.specs.declared.stops.TermStop.{TermStop}
use Rattle.core_term.specs.declared.stops.TermStop.TheVariants.{TooLarge}
use Rattle.core_term.specs.declared.stops.TermStop.TheVariants as term
use Rattle.cic_rules.specs.declared.env.Slot.{Slot}
use Rattle.cic_rules.specs.Fuel.{FuelState, nested, left, calls_left, IsSpentOf}
use Rattle.cic_rules.specs.Judges.{Meets}
use Rattle.cic_rules.specs.Runs.{Run, ◌>>=◌, ◌>>◌, pure, and_then, spend}
use Rattle.conversion.proofs.CaseLaws.{too_large}
use Rattle.conversion.proofs.ReduceLaws.{same_calls}
use Rattle.move_compute.specs.Calls.{simpl_with, charged_with, parts_with, two_parts_at, two_parts_with}
use Rattle.move_compute.specs.declared.simplification.Parts.{Parts}
use Rattle.move_compute.specs.Simpl.{rebuilt, by_parts, simpl_head_at, simpl_at}

-- a term that was built again
made_by : (b : Bool) (u t : Tree) (l : ℕ) → is_small t ≡ b → ◌≡◌ {A = Result Tree TermStop} (Ok u) (if b then Ok t else Err TooLarge) → Meets (Ok u) l (rebuilt t l)
made_by true u t l is e = let same : u ≡ t = cc in rw is (ap Ok same, refl)
made_by false u t l is e = cc

pub rebuilt_made : (u t : Tree) (l : ℕ) → Gives (Ok u) (within_limits t) → Meets (Ok u) l (rebuilt t l)
rebuilt_made u t l e = made_by (is_small t) u t l refl e

pub rebuilt_stop : (stop : TermStop) (t : Tree) (l : ℕ) → Gives {A = Tree} (Err stop) (within_limits t) → Meets {A = Tree} (Err (stop_of stop)) l (rebuilt t l)
rebuilt_stop TooLarge t l gives = let large = too_large t gives in rw large (refl, refl)
rebuilt_stop term.NoMem t l gives = tt

-- two parts in turn, and what is built of them, by the answer of each
module _ (make : Tree → Tree → Tree) (j : ℕ) where
  last_made : (answer : Result Tree Stop) (k : ℕ) (x : Tree) (p : Parts) (r : Result Tree Stop) →
      Meets (Ok p) j (and_then answer (λ y. pure (record { first = x; last = y })) k) → Meets r j (rebuilt (make p.first p.last) j) →
      Meets r j (and_then answer (λ y. rebuilt (make x y)) k)
  last_made (Ok y) k x p r met built =
      let is : p ≡ record { first = x; last = y } = cc met.0 in
      subst (λ l. Meets r j (rebuilt (make x y) l)) met.1 (subst (λ q. Meets r j (rebuilt (make q.first q.last) j)) is built)
  last_made (Err stop) k x p r met built = let no = met.0 in cc

  both_made : (answer : Result Tree Stop) (k : ℕ) (second : Run Tree) (p : Parts) (r : Result Tree Stop) →
      Meets (Ok p) j (and_then answer (λ x. second >>= λ y. pure (record { first = x; last = y })) k) → Meets r j (rebuilt (make p.first p.last) j) →
      Meets r j (and_then answer (λ x. second >>= λ y. rebuilt (make x y)) k)
  both_made (Ok x) k second p r met built = last_made (second k).answer (second k).left x p r met built
  both_made (Err stop) k second p r met built = let no = met.0 in cc

module _ (env : List Slot) (f : FuelState) where
  -- what is built of two parts
  abbrev built_of : (Tree → Tree → Tree) → ℕ → Tree → Tree → Run Tree
  built_of make calls a b = simpl_at env calls a >>= λ x. simpl_at env calls b >>= λ y. rebuilt (make x y)

  pub two_built : (make : Tree → Tree → Tree) (calls : ℕ) (a b : Tree) (p : Parts) (k : ℕ) (r : Result Tree Stop) → calls_left f ≡ calls →
      Meets (Ok p) k (two_parts_with env a b f) → Meets r k (rebuilt (make p.first p.last) k) → Meets r k (built_of make calls a b (left f))
  two_built make calls a b p k r e met built =
      let told = subst (λ n. Meets (Ok p) k (two_parts_at env n a b (left f))) e met in
      both_made make k (simpl_at env calls a (left f)).answer (simpl_at env calls a (left f)).left (simpl_at env calls b) p r told built

-- a part in front of two
after_value : {A B : Type 0} (run : Run A) (rest : A → Run B) (n l : ℕ) (x : A) (result : Result B Stop) (units : ℕ) → Meets (Ok x) l (run n) →
    Meets result units (rest x l) → Meets result units ((run >>= rest) n)
after_value {A} {B} run rest n l x result units met later =
    subst (λ (a : Result A Stop). Meets result units (and_then a rest (run n).left)) met.0
    (subst (λ k. Meets result units (rest x k)) met.1 later)

pub let_built : (env : List Slot) (old now : FuelState) (n : List ℕ) (a t b x : Tree) (p : Parts) (k : ℕ) (r : Result Tree Stop) → IsSpentOf old now →
    Meets (Ok x) (left now) (simpl_with env a old) → Meets (Ok p) k (two_parts_with env t b now) → Meets r k (rebuilt (LetIn n x p.first p.last) k) →
    Meets r k (parts_with env (LetIn n a t b) old)
let_built env old now n a t b x p k r kept met parts built =
    after_value (simpl_at env (calls_left old) a) (λ y. built_of env now (LetIn n y) (calls_left old) t b) (left old) (left now) x r k met
    (two_built env now (LetIn n x) (calls_left old) t b p k r (same_calls old now kept) parts built)

-- a call that was begun
entered : (env : List Slot) (calls : ℕ) (result : Result Tree Stop) (k : ℕ) (t : Tree) (l : ℕ) (all : ℕ) → all ≡ suc calls →
    Meets result k ((spend 1 >> (simpl_head_at env calls t >>= by_parts (simpl_at env calls))) l) → Meets result k (simpl_at env all t l)
unfolding simpl_at
entered env calls result k t l all e meets = rw e meets

pub no_calls : (env : List Slot) (k : ℕ) (t : Tree) (l : ℕ) (all : ℕ) → all ≡ 0 → k ≡ l → Meets {A = Tree} (Err (Out DepthLimit)) k (simpl_at env all t l)
unfolding simpl_at
no_calls env k t l all e same = rw e (refl, same)

pub entered_meets : (env : List Slot) (old entered_fuel after ended_fuel : FuelState) (result : Result Tree Stop) (t : Tree) → entered_fuel ≡ nested true old →
    old.nesting < 2000 → left ended_fuel ≡ left after → Meets result (left after) (charged_with env t entered_fuel) →
    Meets result (left ended_fuel) (simpl_with env t old)
entered_meets env old entered_fuel after ended_fuel result t into room same meets =
    let nest : entered_fuel.nesting ≡ old.nesting + 1 = ap (λ f. f.nesting) into in
    let calls : calls_left old ≡ suc (calls_left entered_fuel) = omega (arith, nest, room) in
    let units : left entered_fuel ≡ left old = ap left into in
    let one = entered env (calls_left entered_fuel) result (left after) t (left entered_fuel) (calls_left old) calls meets in
    let two = subst (λ l. Meets result (left after) (simpl_at env (calls_left old) t l)) units one in
    subst (λ k. Meets result k (simpl_at env (calls_left old) t (left old))) (sym same) two
