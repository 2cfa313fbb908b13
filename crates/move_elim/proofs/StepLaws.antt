-- What is true of each value of a step, for each test and for whatever is put together from them.
use Rattle.std.specs.Prelude.{◌≡◌, ℕ, List, ◌∷◌, Bool, true, false, Option, Some, None, Ok, Err, if◌then◌else◌, refl}
use Rattle.std.proofs.Common.{subst, ap, sym}
use Rattle.core_term.specs.Tree.{Tree, is_small}
use Rattle.cic_rules.specs.declared.context.Hyp.{Hyp}
use Rattle.cic_rules.specs.Steps.{Step, Halt, TooLarge, step_then, ◌>>=◌, ◌>>◌, answer_of}
use Rattle.move_elim.specs.Scopes.{Has}
use Rattle.move_elim.specs.Steps.{require_step, some_step, sized, entered}

pub has_ok : {A : Type 0} {P : A → Type 0} (x : A) → P x → Has (Ok x) P
has_ok {P = P} x holds = record { has = λ y e. let same : x ≡ y = cc in subst P same holds }

pub has_halt : {A : Type 0} {P : A → Type 0} (halt : Halt) → Has (Err halt) P
has_halt halt = record { has = λ x e. cc }

then_has : {A B : Type 0} (P : A → Type 0) (Q : B → Type 0) (s : Step A) (f : A → Step B) → ((x : A) → s ≡ Ok x → P x) →
    ((x : A) → P x → Has (f x) Q) → (y : B) → step_then s f ≡ Ok y → Q y
then_has P Q (Ok x) f first rest y e = (rest x (first x refl)).has y e
then_has P Q (Err halt) f first rest y e = cc

-- a step, and the rest with its value
pub has_bind : {A B : Type 0} {s : Step A} {f : A → Step B} {P : A → Type 0} {Q : B → Type 0} → Has s P → ((x : A) → P x → Has (f x) Q) → Has (s >>= f) Q
has_bind {s = s} {f = f} {P = P} {Q = Q} first rest = record { has = λ y e. then_has P Q s f first.has rest y e }

-- a step of which nothing is needed
pub has_step : {A : Type 0} {f : Step A} {Q : A → Type 0} (s : Step (Unit {0})) → Has f Q → Has (s >> f) Q
has_step {f = f} {Q = Q} s rest = record { has = λ y e. then_has (λ _. Unit {0}) Q s (λ _. f) (λ x e. tt) (λ x h. rest) y e }

pub has_if : {A : Type 0} {s f : Step A} {P : A → Type 0} (b : Bool) → (b ≡ true → Has s P) → (b ≡ false → Has f P) → Has (if b then s else f) P
has_if true one two = one refl
has_if false one two = two refl

pub has_any : {A : Type 0} (s : Step A) → Has s (λ _. Unit {0})
has_any s = record { has = λ x e. tt }

-- a term that is not too large
pub has_sized : {P : Tree → Type 0} (t : Tree) → P t → Has (sized t) P
has_sized t holds = has_if (is_small t) (λ small. has_ok t holds) (λ large. has_halt TooLarge)

-- a value that must be there
pub has_some : {A : Type 0} {P : A → Type 0} (code : ℕ) (found : Option A) → ((x : A) → found ≡ Some x → P x) → Has (some_step code found) P
has_some code None holds = has_halt _
has_some code (Some x) holds = has_ok x (holds x refl)

-- what passes a test
require_has : (b : Bool) (code : ℕ) → Has (require_step b code) (λ _. b ≡ true)
require_has true code = has_ok tt refl
require_has false code = has_halt _

pub has_require : {A : Type 0} {f : Step A} {Q : A → Type 0} (b : Bool) (code : ℕ) → (b ≡ true → Has f Q) → Has (require_step b code >> f) Q
has_require {f = f} {Q = Q} b code rest =
    record { has = λ y e. then_has (λ _. b ≡ true) Q (require_step b code) (λ _. f) (require_has b code).has (λ x h. rest h) y e }

-- a context with one more hypothesis
pub has_entered : (ctx : List Hyp) (h : Hyp) → Has (entered ctx h) (λ inner. inner ≡ h ∷ ctx)
has_entered ctx h = has_if _ (λ room. has_ok (h ∷ ctx) refl) (λ full. has_halt TooLarge)

-- what a step answers is its value
pub step_answer : {A : Type 0} (s : Step A) (x : A) → Ok x ≡ answer_of s → s ≡ Ok x
step_answer (Ok y) x e = let same : x ≡ y = cc in ap (λ z. Ok z) (sym same)
step_answer (Err halt) x e = cc

pub answered : {A : Type 0} {P : A → Type 0} {s : Step A} (x : A) → Has s P → Ok x ≡ answer_of s → P x
answered {s = s} x h e = h.has x (step_answer s x e)
