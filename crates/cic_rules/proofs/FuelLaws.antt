-- The law of fuel for each step, and for whatever is put together from them.
use Rattle.std.proofs.Common.{◌≡◌, ℕ, zero, suc, ◌+◌, ◌-◌, ◌^◌, ◌<◌, ◌≤◌, nat_le, nat_lt, List, [], ◌∷◌, ◌++◌, length, Bool, true, false, Option, Some, None, Result, Ok, Err, refl, ap, ◌∙◌, arith}
use Rattle.std.specs.Prelude.{if◌then◌else◌}
use Rattle.std.proofs.lemmas.Bool.Decides.{nat_tests}
use Rattle.base_core.specs.declared.refusals.Stop.{Stop}
use Rattle.base_core.specs.declared.refusals.Stop.TheVariants.{Out}
use Rattle.base_core.specs.declared.refusals.Place.{Place}
use Rattle.base_core.specs.declared.refusals.Limit.TheVariants.{StepLimit, SizeLimit, DepthLimit}
use Rattle.core_term.specs.Tree.{Tree, is_small}
use Rattle.cic_rules.specs.declared.context.Hyp.{Hyp}
use Rattle.cic_rules.specs.declared.env.Slot.{Slot}
use Rattle.cic_rules.specs.declared.entries.Entry.{Entry}
use Rattle.cic_rules.specs.Contexts.{extended}
use Rattle.cic_rules.specs.Environments.{all_entered, entered, own_slot}
use Rattle.cic_rules.specs.Convert.{with_hyp}
use Rattle.cic_rules.specs.Laws.{IsUnderLimit, SameAnswer, TooFew, KeepsLawOfFuel}
use Rattle.cic_rules.specs.Runs.{Ran, Run, give, pure, out_of, refuse_at, refuse, and_then, ◌>>=◌, ◌>>◌, spend, check_size, require, forbid, some_at, some_or, Turn, Final, GoOn, next_turn, repeat, runs}
use Rattle.cic_rules.specs.Steps.{Step, Refuses, TooLarge, take_step}

-- an answer that costs nothing, and that isn't want of units
pub law_give : {A : Type 0} (answer : Result A Stop) → (answer ≡ Err (Out StepLimit) → ⊥) → KeepsLawOfFuel (give answer)
law_give answer other =
    record { falls = λ n. omega arith; lower = λ m n le. SameAnswer refl (omega arith); empty = λ n e. absurd (other e) }

pub law_pure : {A : Type 0} (x : A) → KeepsLawOfFuel (pure x)
law_pure x = law_give (Ok x) (λ e. cc)

pub law_refuse_at : {A : Type 0} (code : ℕ) (place : Place) → KeepsLawOfFuel (refuse_at {A = A} code place)
law_refuse_at code place = law_give _ (λ e. cc)

pub law_refuse : {A : Type 0} (code : ℕ) → KeepsLawOfFuel (refuse {A = A} code)
law_refuse code = law_give _ (λ e. cc)

pub law_too_large : {A : Type 0} → KeepsLawOfFuel (out_of {A = A} SizeLimit)
law_too_large = law_give _ (λ e. cc)

pub law_too_deep : {A : Type 0} → KeepsLawOfFuel (out_of {A = A} DepthLimit)
law_too_deep = law_give _ (λ e. cc)

pub law_take_step : {A : Type 0} (step : Step A) → KeepsLawOfFuel (take_step step)
law_take_step (Ok x) = law_give (Ok x) (λ e. cc)
law_take_step (Err (Refuses code place)) = law_give _ (λ e. cc)
law_take_step (Err TooLarge) = law_give _ (λ e. cc)

-- one of two runs, by a test
pub law_if : {A : Type 0} {f g : Run A} (b : Bool) → KeepsLawOfFuel f → KeepsLawOfFuel g → KeepsLawOfFuel (if b then f else g)
law_if true first second = first
law_if false first second = second

pub law_size : (t : Tree) → KeepsLawOfFuel (check_size t)
law_size t = law_if (is_small t) (law_pure tt) law_too_large

pub law_require : (test : Bool) (code : ℕ) → KeepsLawOfFuel (require test code)
law_require test code = law_if test (law_pure tt) (law_refuse code)

pub law_forbid : (test : Bool) (code : ℕ) → KeepsLawOfFuel (forbid test code)
law_forbid test code = law_if test (law_refuse code) (law_pure tt)

pub law_some_at : {A : Type 0} (code : ℕ) (place : Place) (found : Option A) → KeepsLawOfFuel (some_at code place found)
law_some_at code place None = law_refuse_at code place
law_some_at code place (Some x) = law_pure x

pub law_some : {A : Type 0} (code : ℕ) (found : Option A) → KeepsLawOfFuel (some_or code found)
law_some code None = law_refuse code
law_some code (Some x) = law_pure x

abbrev pub if_room : {A : Type 0} → Bool → A → Result A Stop
if_room b x = if b then Ok x else Err (Out SizeLimit)

pub if_room_is : {A : Type 0} (b : Bool) (x : A) → if_room b x ≡ Err (Out StepLimit) → ⊥
if_room_is true x e = cc
if_room_is false x e = cc

-- one more hypothesis, and more globals
pub law_hyp : (ctx : List Hyp) (h : Hyp) → KeepsLawOfFuel (with_hyp ctx h)
law_hyp ctx h = law_give (extended ctx h) (if_room_is (nat_lt (length ctx) (2 ^ 31)) (h ∷ ctx))

pub law_entered : (env slots : List Slot) → KeepsLawOfFuel (give (all_entered env slots))
law_entered env slots = law_give (all_entered env slots) (if_room_is (nat_le (length env + length slots) (2 ^ 31)) (env ++ slots))

pub law_entry : (env : List Slot) (e : Entry) → KeepsLawOfFuel (give (entered env e))
law_entry env e = law_entered env (own_slot e ∷ [])

-- two runs with less, of which the same is missing
moved : {A : Type 0} (l k m n : ℕ) (low high : Ran A) → l + n ≡ k + m → IsUnderLimit l k low high → IsUnderLimit m n low high
moved l k m n low high e (SameAnswer a same) = SameAnswer a (omega (arith, e, same))
moved l k m n low high e (TooFew a more) = TooFew a (omega (arith, e, more))

both_poor_by : {A : Type 0} (b : Bool) (m n : ℕ) → nat_lt m n ≡ b → m ≤ n → IsUnderLimit {A = A} m n (out_of StepLimit 0) (out_of StepLimit 0)
both_poor_by true m n is le = let lt : m < n = grind (arith, nat_tests, is) in TooFew refl (omega (arith, lt))
both_poor_by false m n is le = let same : m ≡ n = grind (arith, nat_tests, is, le) in SameAnswer refl (omega (arith, same))

spend_falls_by : (b : Bool) (units n : ℕ) → nat_le units n ≡ b → (spend units n).left ≤ n
spend_falls_by true units n is = rw is (omega arith)
spend_falls_by false units n is = rw is (omega arith)

spend_lower_by : (b c : Bool) (units m n : ℕ) → nat_le units m ≡ b → nat_le units n ≡ c → m ≤ n → IsUnderLimit m n (spend units m) (spend units n)
spend_lower_by true true units m n low high le =
    let one : units ≤ m = grind (arith, nat_tests, low) in
    let same : (m - units) + n ≡ (n - units) + m = omega (arith, le, one) in
    rw (low, high) (SameAnswer refl same)
spend_lower_by true false units m n low high le =
    let none : ⊥ = grind (arith, nat_tests, low, high, le) in
    absurd none
spend_lower_by false true units m n low high le =
    let poor : m < units = grind (arith, nat_tests, low) in
    let rich : units ≤ n = grind (arith, nat_tests, high) in
    rw (low, high) (TooFew refl (omega (arith, poor, rich)))
spend_lower_by false false units m n low high le = rw (low, high) (both_poor_by (nat_lt m n) m n refl le)

spend_empty_by : (b : Bool) (units n : ℕ) → nat_le units n ≡ b → (spend units n).answer ≡ Err (Out StepLimit) → (spend units n).left ≡ 0
spend_empty_by true units n is e = let none = rw is at e in cc
spend_empty_by false units n is e = rw is refl

-- a charge
pub law_spend : (units : ℕ) → KeepsLawOfFuel (spend units)
law_spend units =
    record {
      falls = λ n. spend_falls_by (nat_le units n) units n refl;
      lower = λ m n le. spend_lower_by (nat_le units m) (nat_le units n) units m n refl refl le;
      empty = λ n e. spend_empty_by (nat_le units n) units n refl e;
    }

then_falls_by : {A B : Type 0} (answer : Result A Stop) (left n : ℕ) (g : A → Run B) → left ≤ n →
    ((x : A) (l : ℕ) → (g x l).left ≤ l) → (and_then answer g left).left ≤ n
then_falls_by (Ok x) left n g le falls = let less : (g x left).left ≤ left = falls x left in omega (arith, le, less)
then_falls_by (Err stop) left n g le falls = le

then_same_by : {A B : Type 0} (answer : Result A Stop) (l k m n : ℕ) (g h : A → Run B) → l + n ≡ k + m →
    ((x : A) → answer ≡ Ok x → IsUnderLimit l k (g x l) (h x k)) → IsUnderLimit m n (and_then answer g l) (and_then answer h k)
then_same_by (Ok x) l k m n g h e same = moved l k m n (g x l) (h x k) e (same x refl)
then_same_by (Err stop) l k m n g h e same = SameAnswer refl e

then_empty_by : {A B : Type 0} (answer : Result A Stop) (left : ℕ) (g : A → Run B) → (answer ≡ Err (Out StepLimit) → left ≡ 0) →
    ((x : A) → answer ≡ Ok x → (g x left).answer ≡ Err (Out StepLimit) → (g x left).left ≡ 0) →
    (and_then answer g left).answer ≡ Err (Out StepLimit) → (and_then answer g left).left ≡ 0
then_empty_by (Ok x) left g first rest e = rest x refl e
then_empty_by (Err stop) left g first rest e = let same : stop ≡ Out StepLimit = cc in first (ap Err same)

-- what follows two runs, one under a lower limit
then_under : {A B : Type 0} (low high : Ran A) (m n : ℕ) (g h : A → Run B) → IsUnderLimit m n low high → m ≤ n → high.left ≤ n →
    ((x : A) (l : ℕ) → (h x l).left ≤ l) →
    ((x : A) → low.left ≤ high.left → low.answer ≡ Ok x → high.answer ≡ Ok x → IsUnderLimit low.left high.left (g x low.left) (h x high.left)) →
    IsUnderLimit m n (and_then low.answer g low.left) (and_then high.answer h high.left)
then_under low high m n g h (SameAnswer a e) le most falls same =
    let less : low.left ≤ high.left = omega (arith, e, le) in
    rw a (then_same_by high.answer low.left high.left m n g h e (λ x is. same x less (a ∙ is) is))
then_under low high m n g h (TooFew a more) le most falls same =
    let less : (and_then high.answer h high.left).left ≤ high.left = then_falls_by high.answer high.left high.left h (omega arith) falls in
    rw a (TooFew refl (omega (arith, more, less)))

-- a run, and the rest with its value
pub law_bind : {A B : Type 0} {f : Run A} {g : A → Run B} → KeepsLawOfFuel f → ((x : A) → KeepsLawOfFuel (g x)) → KeepsLawOfFuel (f >>= g)
law_bind {f = f} {g = g} first rest =
    record {
      falls = λ n. then_falls_by (f n).answer (f n).left n g (first.falls n) (λ x l. (rest x).falls l);
      lower = λ m n le. then_under (f m) (f n) m n g g (first.lower m n le) le (first.falls n) (λ x l. (rest x).falls l)
          (λ x less low high. (rest x).lower (f m).left (f n).left less);
      empty = λ n e. then_empty_by (f n).answer (f n).left g (first.empty n) (λ x is. (rest x).empty (f n).left) e;
    }

-- a step, and the rest
pub law_step : {A : Type 0} {f : Run (Unit {0})} {g : Run A} → KeepsLawOfFuel f → KeepsLawOfFuel g → KeepsLawOfFuel (f >> g)
law_step {f = f} {g = g} first rest = law_bind {f = f} {g = λ _. g} first (λ _. rest)

-- a turn of a loop, which takes a unit where the loop goes on
pub record IsTurn {S A : Type 0} (f : Run (Turn S A)) : Type 0 where
  pub law : KeepsLawOfFuel f
  pub takes : (n : ℕ) (s : S) → (f n).answer ≡ Ok (GoOn s) → (f n).left < n

pub turn_final : {S A : Type 0} (x : A) → IsTurn {S = S} (pure (Final x))
turn_final x = record { law = law_pure (Final x); takes = λ n s e. cc }

spend_takes_by : {S A : Type 0} (b : Bool) (units n : ℕ) (g : Run (Turn S A)) (s : S) → nat_le units n ≡ b → 1 ≤ units →
    KeepsLawOfFuel g → ((spend units >> g) n).answer ≡ Ok (GoOn s) → ((spend units >> g) n).left < n
spend_takes_by true units n g s is one law e =
    let less : (g (n - units)).left ≤ n - units = law.falls (n - units) in
    let room : units ≤ n = grind (arith, nat_tests, is) in
    rw is (omega (arith, less, room, one))
spend_takes_by false units n g s is one law e = let none = rw is at e in cc

pub turn_spend : {S A : Type 0} {g : Run (Turn S A)} (units : ℕ) → 1 ≤ units → KeepsLawOfFuel g → IsTurn (spend units >> g)
turn_spend {g = g} units one law =
    record { law = law_step (law_spend units) law; takes = λ n s e. spend_takes_by (nat_le units n) units n g s refl one law e }

pub turn_unit : {S A : Type 0} {g : Run (Turn S A)} → KeepsLawOfFuel g → IsTurn (spend 1 >> g)
turn_unit law = turn_spend 1 (omega arith) law

then_takes_by : {A S B : Type 0} (answer : Result A Stop) (left n : ℕ) (g : A → Run (Turn S B)) (s : S) → left ≤ n →
    ((x : A) → IsTurn (g x)) → (and_then answer g left).answer ≡ Ok (GoOn s) → (and_then answer g left).left < n
then_takes_by (Ok x) left n g s le turn e = let less : (g x left).left < left = (turn x).takes left s e in omega (arith, less, le)
then_takes_by (Err stop) left n g s le turn e = cc

pub turn_bind : {A S B : Type 0} {f : Run A} {g : A → Run (Turn S B)} → KeepsLawOfFuel f → ((x : A) → IsTurn (g x)) → IsTurn (f >>= g)
turn_bind {f = f} {g = g} first turn =
    record {
      law = law_bind first (λ x. (turn x).law);
      takes = λ n s e. then_takes_by (f n).answer (f n).left n g s (first.falls n) turn e;
    }

pub turn_if : {S A : Type 0} {f g : Run (Turn S A)} (b : Bool) → IsTurn f → IsTurn g → IsTurn (if b then f else g)
turn_if true first second = first
turn_if false first second = second

next_falls : {S A : Type 0} (loop : S → Run A) → ((s : S) (l : ℕ) → (loop s l).left ≤ l) → (x : Turn S A) (l : ℕ) →
    (next_turn loop x l).left ≤ l
next_falls loop falls (Final x) l = omega arith
next_falls loop falls (GoOn s) l = falls s l

next_under : {S A : Type 0} (low high : S → Run A) (x : Turn S A) (l k : ℕ) →
    ((s : S) → x ≡ GoOn s → IsUnderLimit l k (low s l) (high s k)) → IsUnderLimit l k (next_turn low x l) (next_turn high x k)
next_under low high (Final x) l k same = SameAnswer refl (omega arith)
next_under low high (GoOn s) l k same = same s refl

next_empty : {S A : Type 0} (loop : S → Run A) (x : Turn S A) (l : ℕ) →
    ((s : S) → x ≡ GoOn s → (loop s l).answer ≡ Err (Out StepLimit) → (loop s l).left ≡ 0) →
    (next_turn loop x l).answer ≡ Err (Out StepLimit) → (next_turn loop x l).left ≡ 0
next_empty loop (Final x) l empty e = cc
next_empty loop (GoOn s) l empty e = empty s refl e

module _ {S A : Type 0} (turn : S → Run (Turn S A)) (turns : (s : S) → IsTurn (turn s)) where
  repeat_falls : (k : ℕ) (s : S) (n : ℕ) → (repeat turn k s n).left ≤ n
  unfolding repeat
  repeat_falls zero s n = omega arith
  repeat_falls (suc k) s n =
      then_falls_by (turn s n).answer (turn s n).left n (next_turn (repeat turn k)) ((turns s).law.falls n) (next_falls (repeat turn k) (repeat_falls k))

  -- a turn that goes on leaves fewer units than there are turns left
  turns_left : (s t : S) (x : Turn S A) (m j : ℕ) → m < suc j → (turn s m).answer ≡ Ok x → x ≡ GoOn t → (turn s m).left < j
  turns_left s t x m j room e is =
      let on : (turn s m).answer ≡ Ok (GoOn t) = cc in
      let less : (turn s m).left < m = (turns s).takes m t on in
      omega (arith, less, room)

  repeat_under : (j k : ℕ) (s : S) (m n : ℕ) → m ≤ n → m < j → n < k → IsUnderLimit m n (repeat turn j s m) (repeat turn k s n)
  unfolding repeat
  repeat_under zero k s m n le low high = let none : ⊥ = omega (arith, low) in absurd none
  repeat_under (suc j) zero s m n le low high = let none : ⊥ = omega (arith, high) in absurd none
  repeat_under (suc j) (suc k) s m n le low high =
      then_under (turn s m) (turn s n) m n (next_turn (repeat turn j)) (next_turn (repeat turn k)) ((turns s).law.lower m n le) le
      ((turns s).law.falls n) (next_falls (repeat turn k) (repeat_falls k))
      (λ x less one two. next_under (repeat turn j) (repeat turn k) x (turn s m).left (turn s n).left
      (λ t is. repeat_under j k t (turn s m).left (turn s n).left less (turns_left s t x m j low one is) (turns_left s t x n k high two is)))

  repeat_empty : (k : ℕ) (s : S) (n : ℕ) → n < k → (repeat turn k s n).answer ≡ Err (Out StepLimit) → (repeat turn k s n).left ≡ 0
  unfolding repeat
  repeat_empty zero s n room e = let none : ⊥ = omega (arith, room) in absurd none
  repeat_empty (suc k) s n room e =
      then_empty_by (turn s n).answer (turn s n).left (next_turn (repeat turn k)) ((turns s).law.empty n)
      (λ x one. next_empty (repeat turn k) x (turn s n).left
      (λ t is. repeat_empty k t (turn s n).left (turns_left s t x n k room one is))) e

  -- turns until one is final
  pub law_loop : (s : S) → KeepsLawOfFuel (runs turn s)
  law_loop s =
      record {
        falls = λ n. repeat_falls (suc n) s n;
        lower = λ m n le. repeat_under (suc m) (suc n) s m n le (omega arith) (omega arith);
        empty = λ n e. repeat_empty (suc n) s n (omega arith) e;
      }

-- what search takes a run apart with, and a turn
pub ruleset fuel_laws = (law_pure, law_refuse_at, law_refuse, law_too_large, law_too_deep, law_take_step, law_bind, law_step, law_spend, law_size, law_require, law_forbid, law_some_at, law_some, law_if, law_hyp, law_entered, law_entry)

pub ruleset turn_laws = (fuel_laws, turn_final, turn_spend, turn_unit, turn_bind, turn_if, arith)
