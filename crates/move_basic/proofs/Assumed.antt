-- The search for a hypothesis, one by one.
use Rattle.std.specs.Prelude.{◌≡◌, ℕ, ◌+◌, ◌-◌, ◌≤◌, List, ◌∷◌, length, drop, Bool, true, false, Some, Result, Ok, Err, slice_get, if◌then◌else◌}
use Rattle.std.proofs.Common.{ap, sym, ◌∙◌, arith}
use Rattle.base_core.specs.declared.refusals.Stop.{Stop}
use Rattle.base_core.specs.declared.refusals.Stop.TheVariants.{Refused, Out, NoMem}
use Rattle.base_core.specs.declared.refusal_codes.TheConstants.{NO_ASSUMPTION}
use Rattle.core_term.specs.Tree.{Tree, Var}
use Rattle.cic_rules.specs.declared.context.Hyp.{Hyp}
use Rattle.cic_rules.specs.declared.env.Slot.{Slot}
use Rattle.cic_rules.specs.Fuel.{FuelState, NESTING_LIMIT, left, calls_left, IsSpentOf}
use Rattle.cic_rules.specs.Judges.{Meets}
use Rattle.cic_rules.specs.Runs.{Ran, Run, and_then, pure, refuse}
use Rattle.proof_state.specs.declared.goals.Goal.{Goal}
use Rattle.proof_state.specs.Partial.{Partial, Ready}
use Rattle.move_basic.specs.Terms.{assumed}
use Rattle.move_basic.specs.Calls.{tried_with, assumed_with}
use Rattle.move_basic.proofs.Lists.{from_place, all_behind}

pub spent_through : (f g h : FuelState) → IsSpentOf f g → IsSpentOf g h → IsSpentOf f h
spent_through f g h one two =
    record { limit = two.limit ∙ one.limit; nesting = two.nesting ∙ one.nesting; spent = omega (arith, one.spent, two.spent) }

module _ (env : List Slot) (ctx : List Hyp) (ty : Tree) where
  -- what follows an attempt
  abbrev next : ℕ → ℕ → List Hyp → Bool → Run (Partial Goal)
  next calls i hs fits = if fits then pure (Ready (Var i)) else assumed env calls ctx ty (i + 1) hs

  one_more : (i : ℕ) (h : Hyp) (hs : List Hyp) (f : FuelState) (answer : Result Bool Stop) (units : ℕ) →
      answer ≡ (tried_with env ctx ty i h f).answer → units ≡ (tried_with env ctx ty i h f).left →
      and_then answer (next (calls_left f) i hs) units ≡ assumed_with env ctx ty i (h ∷ hs) f
  one_more i h hs f answer units a u =
      ap (λ b. and_then b (next (calls_left f) i hs) units) a
      ∙ ap (λ n. and_then (tried_with env ctx ty i h f).answer (next (calls_left f) i hs) n) u

  -- from here on, by an attempt
  from_here : (i : ℕ) (h : Hyp) (f : FuelState) (whole : Ran (Partial Goal)) (answer : Result Bool Stop) (units : ℕ) →
      Some h ≡ slice_get ctx i → answer ≡ (tried_with env ctx ty i h f).answer → units ≡ (tried_with env ctx ty i h f).left →
      assumed_with env ctx ty i (drop i ctx) f ≡ whole → and_then answer (next (calls_left f) i (drop (i + 1) ctx)) units ≡ whole
  from_here i h f whole answer units is a u rest =
      one_more i h (drop (i + 1) ctx) f answer units a u
      ∙ ap (λ hs. assumed_with env ctx ty i hs f) (sym (from_place ctx i h is)) ∙ rest

  pub tried_no : (i : ℕ) (h : Hyp) (f g : FuelState) (whole : Ran (Partial Goal)) (b : Bool) → b ≡ false → Some h ≡ slice_get ctx i →
      Meets (Ok b) (left g) (tried_with env ctx ty i h f) → IsSpentOf f g → assumed_with env ctx ty i (drop i ctx) f ≡ whole →
      assumed_with env ctx ty (i + 1) (drop (i + 1) ctx) g ≡ whole
  tried_no i h f g whole b fails is met kept rest =
      ap (λ n. assumed env (NESTING_LIMIT - n) ctx ty (i + 1) (drop (i + 1) ctx) (left g)) kept.nesting
      ∙ from_here i h f whole (Ok false) (left g) is (ap Ok (sym fails) ∙ met.0) met.1 rest

  pub tried_yes : (i : ℕ) (h : Hyp) (f g : FuelState) (whole : Ran (Partial Goal)) (b : Bool) (t : Tree) (s : Partial Goal) → b ≡ true →
      Some h ≡ slice_get ctx i → Meets (Ok b) (left g) (tried_with env ctx ty i h f) → assumed_with env ctx ty i (drop i ctx) f ≡ whole →
      t ≡ Var i → s ≡ Ready t → (Ok s ≡ whole.answer) × (left g ≡ whole.left)
  tried_yes i h f g whole b t s fits is met rest found made =
      let told = from_here i h f whole (Ok true) (left g) is (ap Ok (sym fits) ∙ met.0) met.1 rest in
      (ap Ok (made ∙ ap Ready found) ∙ ap (λ r. r.answer) told, ap (λ r. r.left) told)

  pub tried_stop : (i : ℕ) (h : Hyp) (f g : FuelState) (whole : Ran (Partial Goal)) (stop : Stop) → Some h ≡ slice_get ctx i →
      Meets {A = Bool} (Err stop) (left g) (tried_with env ctx ty i h f) → assumed_with env ctx ty i (drop i ctx) f ≡ whole →
      Meets {A = Partial Goal} (Err stop) (left g) whole
  tried_stop i h f g whole (Refused r) is met rest =
      let told = from_here i h f whole (Err (Refused r)) (left g) is met.0 met.1 rest in
      (ap (λ r. r.answer) told, ap (λ r. r.left) told)
  tried_stop i h f g whole (Out l) is met rest =
      let told = from_here i h f whole (Err (Out l)) (left g) is met.0 met.1 rest in
      (ap (λ r. r.answer) told, ap (λ r. r.left) told)
  tried_stop i h f g whole NoMem is met rest = tt

  pub none_left : (i : ℕ) (f : FuelState) (whole : Ran (Partial Goal)) → length ctx ≤ i → assumed_with env ctx ty i (drop i ctx) f ≡ whole →
      refuse NO_ASSUMPTION (left f) ≡ whole
  none_left i f whole le rest = ap (λ hs. assumed_with env ctx ty i hs f) (sym (all_behind ctx i le)) ∙ rest
