-- Eta: what is built for a unit, and what follows.
use Rattle.std.specs.Prelude.{◌≡◌, ℕ, ◌-◌, ◌^◌, ◌≤◌, nat_le, nat_lt, List, ◌∷◌, length, Bool, true, false, Result, Ok, Err, if◌then◌else◌, refl}
use Rattle.std.proofs.Common.{arith, subst}
use Rattle.base_core.specs.declared.refusals.Stop.{Stop}
use Rattle.base_core.specs.declared.refusals.Stop.TheVariants.{Refused, Out, NoMem}
use Rattle.base_core.specs.declared.refusals.Limit.{Limit}
use Rattle.base_core.specs.declared.refusals.Limit.TheVariants.{StepLimit, SizeLimit}
use Rattle.core_term.specs.Tree.{Tree, is_small}
use Rattle.cic_rules.specs.declared.context.Hyp.{Hyp}
use Rattle.cic_rules.specs.declared.env.Slot.{Slot}
use Rattle.cic_rules.specs.declared.judge.Mode.TheVariants.{Same}
use Rattle.cic_rules.specs.Convert as rules
use Rattle.cic_rules.specs.Reduce.{whnf_at}
use Rattle.cic_rules.specs.Runs.{Run, ◌>>=◌, ◌>>◌, and_then, pure, check_size, Turn, Final}
use Rattle.conversion.specs.declared.sides.Turned.{Turned}
use Rattle.conversion.specs.Turns.{EndsAs}
use Rattle.conversion.specs.Conversions.{Is}
use Rattle.conversion.specs.Blockers.{IsTurned, replaced_step}
use Rattle.std.proofs.lemmas.Bool.Decides.{nat_tests}
use Rattle.core_term.specs.Answers as term
use Rattle.core_term.specs.Stops.{stop_of}
use Rattle.core_term.specs.declared.stops.TermStop.{TermStop}
use Rattle.core_term.specs.declared.stops.TermStop.TheVariants as made
use Rattle.cic_rules.specs.Contexts.{plain_hyp}
use Rattle.cic_rules.specs.Convert.{with_hyp, conv_eta, conv_at}
use Rattle.conversion.proofs.ConvertLaws.{too_large}

-- a term that is built for a unit
small_is : (small : Bool) (x t : Tree) → term.Gives (Ok x) (if small then Ok t else Err made.TooLarge) → (small ≡ true) × (x ≡ t)
small_is true x t gives = (refl, cc)
small_is false x t gives = absurd (cc)

pub built : (x t : Tree) (l k : ℕ) → 1 ≤ l → k ≡ l - 1 → term.Gives (Ok x) (term.within_limits t) → EndsAs Is (Ok x) k (replaced_step t l)
built x t l k enough same gives =
    let facts = small_is (is_small t) x t gives in
    let holds : nat_le 1 l ≡ true = grind (arith, nat_tests) in
    rw (holds, facts.0) (facts.1, same)

large_is : (small : Bool) (t : Tree) → term.Gives {A = Tree} (Err made.TooLarge) (if small then Ok t else Err made.TooLarge) → small ≡ false
large_is true t gives = absurd (cc)
large_is false t gives = refl

pub not_built : (stop : TermStop) (t : Tree) (l k : ℕ) → 1 ≤ l → k ≡ l - 1 → term.Gives {A = Tree} (Err stop) (term.within_limits t) →
    EndsAs {A = Tree} Is (Err (stop_of stop)) k (replaced_step t l)
not_built made.NoMem t l k enough same gives = tt
not_built made.TooLarge t l k enough same gives =
    let large = large_is (is_small t) t gives in
    let holds : nat_le 1 l ≡ true = grind (arith, nat_tests) in
    rw (holds, large) (refl, same)

is_by : (enough small : Bool) (x t : Tree) (l k : ℕ) → nat_le 1 l ≡ enough → is_small t ≡ small → EndsAs Is (Ok x) k (replaced_step t l) → x ≡ t
is_by false small x t l k e s ends = let none = rw e at ends in absurd none.0
is_by true false x t l k e s ends = let none = rw (e, s) at ends in absurd none.0
is_by true true x t l k e s ends = let facts = rw (e, s) at ends in facts.0

-- what was built is the term
pub built_is : (x t : Tree) (l k : ℕ) → EndsAs Is (Ok x) k (replaced_step t l) → x ≡ t
built_is x t l k ends = is_by (nat_le 1 l) (is_small t) x t l k refl refl ends

module _ (env : List Slot) (ctx : List Hyp) (calls : ℕ) (n : List ℕ) (a applied ls rs : Tree) (l k : ℕ) where
  abbrev step : Run (Turn rules.Sides Bool)
  step = conv_eta env calls (whnf_at env false calls) (conv_at env calls) ctx n a applied ls rs

  abbrev below : ℕ → Run (Turn rules.Sides Bool)
  below m = with_hyp ctx (plain_hyp n a) >>= λ inner. conv_at env m inner Same ls rs >>= λ answer. pure (Final answer)

  abbrev answered : List Hyp → Run (Turn rules.Sides Bool)
  answered c = conv_at env calls c Same ls rs >>= λ answer. pure (Final answer)

  abbrev inner : List Hyp → Run (Turn rules.Sides Bool)
  inner c = check_size applied >> answered c

  ok_by : (enough small : Bool) (x : Tree) (j : ℕ) (result : Result Turned Stop) → nat_le 1 l ≡ enough → is_small applied ≡ small →
      EndsAs Is (Ok x) k (replaced_step applied l) → EndsAs IsTurned result j (below calls k) → EndsAs IsTurned result j (step l)
  ok_by false small x j result e s ends rest = let none = rw e at ends in absurd none.0
  ok_by true false x j result e s ends rest = let none = rw (e, s) at ends in absurd none.0
  ok_by true true x j result e s ends rest =
      let facts = rw (e, s) at ends in
      rw (e, s) (subst (λ m. EndsAs IsTurned result j (below calls m)) facts.1 rest)

  pub eta_goes : (now : ℕ) → now ≡ calls → (x : Tree) (j : ℕ) (result : Result Turned Stop) → EndsAs Is (Ok x) k (replaced_step applied l) →
      EndsAs IsTurned result j (below now k) → EndsAs IsTurned result j (step l)
  eta_goes now one x j result ends said =
      ok_by (nat_le 1 l) (is_small applied) x j result refl refl ends (subst (λ m. EndsAs IsTurned result j (below m k)) one said)

  full_by : (room : Bool) (h : Hyp) (g : List Hyp → Run (Turn rules.Sides Bool)) (m : ℕ) → ((c : List Hyp) → EndsAs IsTurned (Err (Out SizeLimit)) m (g c m)) →
      EndsAs IsTurned (Err (Out SizeLimit)) m (and_then (if room then Ok (h ∷ ctx) else Err (Out SizeLimit)) g m)
  full_by true h g m rest = rest (h ∷ ctx)
  full_by false h g m rest = (refl, refl)

  stop_by : (enough small : Bool) (limit : Limit) → nat_le 1 l ≡ enough → is_small applied ≡ small →
      EndsAs {A = Tree} Is (Err (Out limit)) k (replaced_step applied l) → EndsAs IsTurned (Err (Out limit)) k (step l)
  stop_by false small limit e s ends =
      let facts = rw e at ends in
      let same : limit ≡ StepLimit = cc in
      rw (e, same) (refl, facts.1)
  stop_by true false limit e s ends =
      let facts = rw (e, s) at ends in
      let same : limit ≡ SizeLimit = cc in
      let last : EndsAs IsTurned (Err (Out SizeLimit)) (l - 1) ((with_hyp ctx (plain_hyp n a) >>= inner) (l - 1)) =
      full_by (nat_lt (length ctx) (2 ^ 31)) (plain_hyp n a) inner (l - 1) (λ c. too_large IsTurned applied (l - 1) (l - 1) (answered c) s refl) in
      rw (e, same, facts.1) last
  stop_by true true limit e s ends = let none = rw (e, s) at ends in absurd (cc)

  pub eta_stops : (stop : Stop) → EndsAs {A = Tree} Is (Err stop) k (replaced_step applied l) → EndsAs IsTurned (Err stop) k (step l)
  eta_stops (Refused r) ends = absurd ends
  eta_stops NoMem ends = tt
  eta_stops (Out limit) ends = stop_by (nat_le 1 l) (is_small applied) limit refl refl ends
