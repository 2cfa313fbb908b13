-- What is true of each value of a run, for each step and for whatever is put together from them.
use Rattle.std.proofs.Common.{◌≡◌, ℕ, zero, suc, List, ◌∷◌, Bool, true, false, Option, Some, None, Result, Ok, Err, refl, subst}
use Rattle.std.specs.Prelude.{if◌then◌else◌}
use Rattle.base_core.specs.declared.refusals.Stop.{Stop}
use Rattle.base_core.specs.declared.refusals.Stop.TheVariants.{Out}
use Rattle.base_core.specs.declared.refusals.Limit.TheVariants.{StepLimit, SizeLimit}
use Rattle.cic_rules.specs.declared.context.Hyp.{Hyp}
use Rattle.cic_rules.specs.Contexts.{extended}
use Rattle.cic_rules.specs.Convert.{with_hyp}
use Rattle.cic_rules.specs.Laws.{Tells, Turned}
use Rattle.cic_rules.specs.Runs.{Run, give, pure, and_then, ◌>>=◌, ◌>>◌, require, forbid, some_or, Turn, Final, GoOn, next_turn, repeat, runs}

pub tells_give : {A : Type 0} {P : A → Type 0} (answer : Result A Stop) → ((x : A) → answer ≡ Ok x → P x) → Tells (give answer) P
tells_give answer holds = record { tells = λ left x e. holds x e }

pub tells_pure : {A : Type 0} {P : A → Type 0} (x : A) → P x → Tells (pure x) P
tells_pure {P = P} x holds = record { tells = λ left y e. let same : x ≡ y = cc in subst P same holds }

pub tells_stop : {A : Type 0} {P : A → Type 0} (stop : Stop) → Tells (give (Err stop)) P
tells_stop stop = record { tells = λ left y e. cc }

then_tells_by : {A B : Type 0} (P : A → Type 0) (Q : B → Type 0) (answer : Result A Stop) (left : ℕ) (g : A → Run B) →
    ((x : A) → answer ≡ Ok x → P x) → ((x : A) → P x → Tells (g x) Q) → (y : B) → (and_then answer g left).answer ≡ Ok y → Q y
then_tells_by P Q (Ok x) left g first rest y e = (rest x (first x refl)).tells left y e
then_tells_by P Q (Err stop) left g first rest y e = cc

-- a run, and the rest with its value
pub tells_bind : {A B : Type 0} {f : Run A} {g : A → Run B} {P : A → Type 0} {Q : B → Type 0} → Tells f P →
    ((x : A) → P x → Tells (g x) Q) → Tells (f >>= g) Q
tells_bind {f = f} {g = g} {P = P} {Q = Q} first rest =
    record { tells = λ left y e. then_tells_by P Q (f left).answer (f left).left g (first.tells left) rest y e }

-- a step of which nothing is needed
pub tells_step : {A : Type 0} {g : Run A} {Q : A → Type 0} (f : Run (Unit {0})) → Tells g Q → Tells (f >> g) Q
tells_step {g = g} {Q = Q} f rest =
    record { tells = λ left y e. then_tells_by (λ _. Unit {0}) Q (f left).answer (f left).left (λ _. g) (λ x e. tt) (λ x h. rest) y e }

pub tells_if : {A : Type 0} {f g : Run A} {P : A → Type 0} (b : Bool) → (b ≡ true → Tells f P) → (b ≡ false → Tells g P) →
    Tells (if b then f else g) P
tells_if true one two = one refl
tells_if false one two = two refl

-- what passes a test
require_tells : (b : Bool) (code : ℕ) → Tells (require b code) (λ _. b ≡ true)
require_tells true code = tells_pure tt refl
require_tells false code = tells_stop _

pub tells_require : {A : Type 0} {g : Run A} {Q : A → Type 0} (b : Bool) (code : ℕ) → (b ≡ true → Tells g Q) → Tells (require b code >> g) Q
tells_require {g = g} {Q = Q} b code rest =
    record {
      tells = λ left y e. then_tells_by (λ _. b ≡ true) Q (require b code left).answer (require b code left).left (λ _. g)
          ((require_tells b code).tells left) (λ x h. rest h) y e;
    }

forbid_tells : (b : Bool) (code : ℕ) → Tells (forbid b code) (λ _. b ≡ false)
forbid_tells true code = tells_stop _
forbid_tells false code = tells_pure tt refl

pub tells_forbid : {A : Type 0} {g : Run A} {Q : A → Type 0} (b : Bool) (code : ℕ) → (b ≡ false → Tells g Q) → Tells (forbid b code >> g) Q
tells_forbid {g = g} {Q = Q} b code rest =
    record {
      tells = λ left y e. then_tells_by (λ _. b ≡ false) Q (forbid b code left).answer (forbid b code left).left (λ _. g)
          ((forbid_tells b code).tells left) (λ x h. rest h) y e;
    }

-- a value that was there
pub tells_some : {A : Type 0} {P : A → Type 0} (code : ℕ) (found : Option A) → ((x : A) → found ≡ Some x → P x) → Tells (some_or code found) P
tells_some code None holds = tells_stop _
tells_some code (Some x) holds = tells_pure x (holds x refl)

-- a context with one more hypothesis
with_hyp_by : (b : Bool) (ctx : List Hyp) (h : Hyp) (inner : List Hyp) → (if b then Ok (h ∷ ctx) else Err (Out SizeLimit)) ≡ Ok inner → h ∷ ctx ≡ inner
with_hyp_by true ctx h inner e = cc
with_hyp_by false ctx h inner e = cc

pub tells_within : {A : Type 0} {Q : A → Type 0} (ctx : List Hyp) (h : Hyp) (g : List Hyp → Run A) → Tells (g (h ∷ ctx)) Q → Tells (with_hyp ctx h >>= g) Q
tells_within {Q = Q} ctx h g rest =
    tells_bind {P = λ inner. h ∷ ctx ≡ inner} (tells_give (extended ctx h) (λ inner e. with_hyp_by _ ctx h inner e))
    (λ inner same. subst (λ c. Tells (g c) Q) same rest)

module _ {S A : Type 0} (P : S → Type 0) (Q : A → Type 0) (turn : S → Run (Turn S A)) (turns : (s : S) → P s → Tells (turn s) (Turned P Q)) where
  next_tells : (loop : S → Run A) → ((s : S) → P s → Tells (loop s) Q) → (x : Turn S A) → Turned P Q x → Tells (next_turn loop x) Q
  next_tells loop rest (Final x) h = tells_pure x h
  next_tells loop rest (GoOn s) h = rest s h

  repeat_tells : (k : ℕ) (s : S) → P s → Tells (repeat turn k s) Q
  unfolding repeat
  repeat_tells zero s h = tells_stop (Out StepLimit)
  repeat_tells (suc k) s h = tells_bind (turns s h) (next_tells (repeat turn k) (repeat_tells k))

  -- turns until one is final
  pub tells_loop : (s : S) → P s → Tells (runs turn s) Q
  tells_loop s h = record { tells = λ left. (repeat_tells (suc left) s h).tells left }
