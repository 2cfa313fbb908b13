-- Loops, turn by turn, for code that goes round as the definition does.
use Rattle.std.proofs.Common.{◌≡◌, ℕ, zero, suc, ◌<◌, Result, Ok, Err, refl, ap, ◌∙◌, arith}
use Rattle.base_core.specs.declared.refusals.Stop.{Stop}
use Rattle.cic_rules.specs.Runs.{Run, give, pure, and_then, ◌>>=◌, Turn, Final, GoOn, next_turn, repeat, runs}
use Rattle.cic_rules.proofs.FuelLaws.{IsTurn}

then_same_by : {A B : Type 0} (answer : Result A Stop) (left : ℕ) (g h : A → Run B) → ((x : A) → answer ≡ Ok x → g x left ≡ h x left) →
    and_then answer g left ≡ and_then answer h left
then_same_by (Ok x) left g h same = same x refl
then_same_by (Err stop) left g h same = refl

next_same : {S A : Type 0} (low high : S → Run A) (x : Turn S A) (left : ℕ) → ((s : S) → x ≡ GoOn s → low s left ≡ high s left) →
    next_turn low x left ≡ next_turn high x left
next_same low high (Final x) left same = refl
next_same low high (GoOn s) left same = same s refl

module _ {S A : Type 0} (turn : S → Run (Turn S A)) (turns : (s : S) → IsTurn (turn s)) where
  fewer : (s t : S) (x : Turn S A) (left j : ℕ) → left < suc j → (turn s left).answer ≡ Ok x → x ≡ GoOn t → (turn s left).left < j
  fewer s t x left j room e is =
      let on : (turn s left).answer ≡ Ok (GoOn t) = cc in
      let less : (turn s left).left < left = (turns s).takes left t on in
      omega (arith, less, room)

  -- more turns than units are as good as any
  repeat_enough : (j k : ℕ) (s : S) (left : ℕ) → left < j → left < k → repeat turn j s left ≡ repeat turn k s left
  unfolding repeat
  repeat_enough zero k s left low high = let none : ⊥ = omega (arith, low) in absurd none
  repeat_enough (suc j) zero s left low high = let none : ⊥ = omega (arith, high) in absurd none
  repeat_enough (suc j) (suc k) s left low high =
      then_same_by (turn s left).answer (turn s left).left (next_turn (repeat turn j)) (next_turn (repeat turn k))
      (λ x one. next_same (repeat turn j) (repeat turn k) x (turn s left).left
      (λ t is. repeat_enough j k t (turn s left).left (fewer s t x left j low one is) (fewer s t x left k high one is)))

  -- a loop is a turn, and then what is left of the loop
  pub runs_turn : (s : S) (left : ℕ) → runs turn s left ≡ (turn s >>= next_turn (runs turn)) left
  unfolding repeat
  runs_turn s left =
      then_same_by (turn s left).answer (turn s left).left (next_turn (repeat turn left)) (next_turn (runs turn))
      (λ x one. next_same (repeat turn left) (runs turn) x (turn s left).left
      (λ t is. repeat_enough left (suc (turn s left).left) t (turn s left).left (fewer s t x left left (omega arith) one is) (omega arith)))

  turned : (s : S) (left : ℕ) (answer : Result (Turn S A) Stop) → (turn s left).answer ≡ answer →
      runs turn s left ≡ and_then answer (next_turn (runs turn)) (turn s left).left
  turned s left answer e = runs_turn s left ∙ ap (λ a. and_then a (next_turn (runs turn)) (turn s left).left) e

  pub runs_go_on : (s t : S) (left : ℕ) → (turn s left).answer ≡ Ok (GoOn t) → runs turn s left ≡ runs turn t (turn s left).left
  runs_go_on s t left e = turned s left (Ok (GoOn t)) e

  pub runs_final : (s : S) (x : A) (left : ℕ) → (turn s left).answer ≡ Ok (Final x) → runs turn s left ≡ pure x (turn s left).left
  runs_final s x left e = turned s left (Ok (Final x)) e

  pub runs_stop : (s : S) (stop : Stop) (left : ℕ) → (turn s left).answer ≡ Err stop → runs turn s left ≡ give (Err stop) (turn s left).left
  runs_stop s stop left e = turned s left (Err stop) e
