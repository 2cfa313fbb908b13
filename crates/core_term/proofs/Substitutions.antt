use Rattle.std.specs.Prelude.{◌≡◌, ℕ, ◌+◌, ◌-◌, ◌≤◌, ◌<◌, nat_le, if◌then◌else◌, Ok, refl}
use Rattle.std.proofs.Common.{arith, ap, sym, ◌∙◌, inl, inr}
use Rattle.std.proofs.lemmas.Bool.{cases_order}
use Rattle.std.proofs.lemmas.Bool.Decides.{nat_tests}
use Rattle.core_term.specs.Tree.{Tree, Var, Sorted, Constant, Prod, Lam, LetIn, App, free_bound, IsTerm}
use Rattle.core_term.specs.Places.{lift_of, put_for, subst_of}
use Rattle.core_term.proofs.Lifts.{lifted-more, lifted-past, lifted-zero}
use Rattle.core_term.specs.Answers.{within_limits}
use Rattle.core_term.proofs.Bounds.{bounded-term}

-- the three cases of a variable at the place of a substitution
pub put-below : (i : ℕ) (v : Tree) (at : ℕ) → i < at → put_for i v at ≡ Var i
put-below i v at below = grind (arith, nat_tests)

pub put-here : (i : ℕ) (v : Tree) (at : ℕ) → i ≡ at → put_for i v at ≡ v
put-here i v at here = grind (arith, nat_tests)

pub put-above : (i : ℕ) (v : Tree) (at : ℕ) → at < i → put_for i v at ≡ Var (i - 1)
put-above i v at above = grind (arith, nat_tests)

-- a value that is lifted at one more binder
pub lifted_binder : (v : Tree) (k : ℕ) → lift_of (lift_of v k 0) 1 0 ≡ lift_of v (k + 1) 0
lifted_binder v k = lifted-more v k 1 0 0 (omega arith) (omega arith)

-- a term without variables from the place on is left alone
pub substituted-above : (t v : Tree) (at : ℕ) → free_bound t ≤ at → subst_of t v at ≡ t
substituted-above (Var i) v at above = put-below i v at (omega arith)
substituted-above (Sorted s) v at above = refl
substituted-above (Constant c) v at above = refl
substituted-above (Prod n a b) v at above =
    cc (substituted-above a v at (omega arith), substituted-above b (lift_of v 1 0) (at + 1) (omega arith))
substituted-above (Lam n a b) v at above =
    cc (substituted-above a v at (omega arith), substituted-above b (lift_of v 1 0) (at + 1) (omega arith))
substituted-above (LetIn n a t b) v at above =
    cc (substituted-above a v at (omega arith), substituted-above t v at (omega arith), substituted-above b (lift_of v 1 0) (at + 1) (omega arith))
substituted-above (App f a) v at above =
    cc (substituted-above f v at (omega arith), substituted-above a v at (omega arith))

put-lifted : (i : ℕ) (v : Tree) (n m f at : ℕ) → m ≡ n + 1 → f ≤ at → at ≤ f + n →
    put_for (if nat_le f i then i + m else i) v at ≡ Var (if nat_le f i then i + n else i)
put-lifted i v n m f at more le within = grind (arith, nat_tests)

-- a value put in within room that was made is lost, and the room is one less
pub substituted-lifted : (t v : Tree) (n m f at : ℕ) → m ≡ n + 1 → f ≤ at → at ≤ f + n → subst_of (lift_of t m f) v at ≡ lift_of t n f
substituted-lifted (Var i) v n m f at more le within = put-lifted i v n m f at more le within
substituted-lifted (Sorted s) v n m f at more le within = refl
substituted-lifted (Constant c) v n m f at more le within = refl
substituted-lifted (Prod k a b) v n m f at more le within =
    cc (substituted-lifted a v n m f at more le within, substituted-lifted b (lift_of v 1 0) n m (f + 1) (at + 1) more (omega arith) (omega arith))
substituted-lifted (Lam k a b) v n m f at more le within =
    cc (substituted-lifted a v n m f at more le within, substituted-lifted b (lift_of v 1 0) n m (f + 1) (at + 1) more (omega arith) (omega arith))
substituted-lifted (LetIn k a t b) v n m f at more le within =
    cc (substituted-lifted a v n m f at more le within, substituted-lifted t v n m f at more le within, substituted-lifted b (lift_of v 1 0) n m (f + 1) (at + 1) more (omega arith) (omega arith))
substituted-lifted (App g a) v n m f at more le within =
    cc (substituted-lifted g v n m f at more le within, substituted-lifted a v n m f at more le within)

put-lifted_below : (i : ℕ) (v : Tree) (n f at h : ℕ) → f ≤ at → h ≡ at + n →
    lift_of (put_for i v at) n f ≡ put_for (if nat_le f i then i + n else i) (lift_of v n f) h
put-lifted_below i v n f at h le is =
    elim (cases_order i at) [
      | inl here ↦ ap (λ t. lift_of t n f) (put-here i v at here) ∙ sym (put-here (if nat_le f i then i + n else i) (lift_of v n f) h (grind (arith, nat_tests)))
      | inr apart ↦ elim apart [
        | inl below ↦ ap (λ t. lift_of t n f) (put-below i v at below) ∙ sym (put-below (if nat_le f i then i + n else i) (lift_of v n f) h (grind (arith, nat_tests)))
        | inr above ↦ ap (λ t. lift_of t n f) (put-above i v at above) ∙ (ap Var (grind (arith, nat_tests)) ∙ sym (put-above (if nat_le f i then i + n else i) (lift_of v n f) h (grind (arith, nat_tests))))
      ]
    ]

-- room made at or below the place of a substitution can be made before it
pub lifted_below-substituted : (t v : Tree) (n f at h : ℕ) → f ≤ at → h ≡ at + n →
    lift_of (subst_of t v at) n f ≡ subst_of (lift_of t n f) (lift_of v n f) h
lifted_below-substituted (Var i) v n f at h le is = put-lifted_below i v n f at h le is
lifted_below-substituted (Sorted s) v n f at h le is = refl
lifted_below-substituted (Constant c) v n f at h le is = refl
lifted_below-substituted (Prod k a b) v n f at h le is =
    cc (
      lifted_below-substituted a v n f at h le is,
      lifted_below-substituted b (lift_of v 1 0) n (f + 1) (at + 1) (h + 1) (omega arith) (omega arith),
      lifted-past v 1 n 0 f (f + 1) (omega arith) refl,
    )
lifted_below-substituted (Lam k a b) v n f at h le is =
    cc (
      lifted_below-substituted a v n f at h le is,
      lifted_below-substituted b (lift_of v 1 0) n (f + 1) (at + 1) (h + 1) (omega arith) (omega arith),
      lifted-past v 1 n 0 f (f + 1) (omega arith) refl,
    )
lifted_below-substituted (LetIn k a t b) v n f at h le is =
    cc (
      lifted_below-substituted a v n f at h le is,
      lifted_below-substituted t v n f at h le is,
      lifted_below-substituted b (lift_of v 1 0) n (f + 1) (at + 1) (h + 1) (omega arith) (omega arith),
      lifted-past v 1 n 0 f (f + 1) (omega arith) refl,
    )
lifted_below-substituted (App g a) v n f at h le is =
    cc (lifted_below-substituted g v n f at h le is, lifted_below-substituted a v n f at h le is)

put-lifted_above : (i : ℕ) (v : Tree) (n f at g : ℕ) → at ≤ f → g ≡ f + 1 →
    lift_of (put_for i v at) n f ≡ put_for (if nat_le g i then i + n else i) (lift_of v n f) at
put-lifted_above i v n f at g le is =
    elim (cases_order i at) [
      | inl here ↦ ap (λ t. lift_of t n f) (put-here i v at here) ∙ sym (put-here (if nat_le g i then i + n else i) (lift_of v n f) at (grind (arith, nat_tests)))
      | inr apart ↦ elim apart [
        | inl below ↦ ap (λ t. lift_of t n f) (put-below i v at below) ∙ (ap Var (grind (arith, nat_tests)) ∙ sym (put-below (if nat_le g i then i + n else i) (lift_of v n f) at (grind (arith, nat_tests))))
        | inr above ↦ ap (λ t. lift_of t n f) (put-above i v at above) ∙ (ap Var (grind (arith, nat_tests)) ∙ sym (put-above (if nat_le g i then i + n else i) (lift_of v n f) at (grind (arith, nat_tests))))
      ]
    ]

-- room made at or above the place of a substitution can be made before it, one place higher
pub lifted_above-substituted : (t v : Tree) (n f at g : ℕ) → at ≤ f → g ≡ f + 1 →
    lift_of (subst_of t v at) n f ≡ subst_of (lift_of t n g) (lift_of v n f) at
lifted_above-substituted (Var i) v n f at g le is = put-lifted_above i v n f at g le is
lifted_above-substituted (Sorted s) v n f at g le is = refl
lifted_above-substituted (Constant c) v n f at g le is = refl
lifted_above-substituted (Prod k a b) v n f at g le is =
    cc (
      lifted_above-substituted a v n f at g le is,
      lifted_above-substituted b (lift_of v 1 0) n (f + 1) (at + 1) (g + 1) (omega arith) (omega arith),
      lifted-past v 1 n 0 f (f + 1) (omega arith) refl,
    )
lifted_above-substituted (Lam k a b) v n f at g le is =
    cc (
      lifted_above-substituted a v n f at g le is,
      lifted_above-substituted b (lift_of v 1 0) n (f + 1) (at + 1) (g + 1) (omega arith) (omega arith),
      lifted-past v 1 n 0 f (f + 1) (omega arith) refl,
    )
lifted_above-substituted (LetIn k a t b) v n f at g le is =
    cc (
      lifted_above-substituted a v n f at g le is,
      lifted_above-substituted t v n f at g le is,
      lifted_above-substituted b (lift_of v 1 0) n (f + 1) (at + 1) (g + 1) (omega arith) (omega arith),
      lifted-past v 1 n 0 f (f + 1) (omega arith) refl,
    )
lifted_above-substituted (App h a) v n f at g le is =
    cc (lifted_above-substituted h v n f at g le is, lifted_above-substituted a v n f at g le is)

-- a value put in at the room that was made for it gives the term back
pub substituted-room : (t v : Tree) (at : ℕ) → subst_of (lift_of t 1 at) v at ≡ t
substituted-room t v at =
    substituted-lifted t v 0 1 at at (omega arith) (omega arith) (omega arith) ∙ lifted-zero t at

put-put : (i : ℕ) (v w : Tree) (at after g : ℕ) → at ≤ after → g ≡ after + 1 →
    subst_of (put_for i v at) w after ≡ subst_of (put_for i (lift_of w 1 at) g) (subst_of v w after) at
put-put i v w at after g le is =
    elim (cases_order i at) [
      | inl here ↦
          ap (λ t. subst_of t w after) (put-here i v at here) ∙ sym (ap (λ t. subst_of t (subst_of v w after) at) (put-below i (lift_of w 1 at) g (omega arith)) ∙ put-here i (subst_of v w after) at here)
      | inr apart ↦ elim apart [
        | inl below ↦
            ap (λ t. subst_of t w after) (put-below i v at below) ∙ (put-below i w after (omega arith) ∙ sym (ap (λ t. subst_of t (subst_of v w after) at) (put-below i (lift_of w 1 at) g (omega arith)) ∙ put-below i (subst_of v w after) at below))
        | inr above ↦ ap (λ t. subst_of t w after) (put-above i v at above) ∙ put-both i v w at after g le is above
      ]
    ]
  where
    put-both : (i : ℕ) (v w : Tree) (at after g : ℕ) → at ≤ after → g ≡ after + 1 → at < i →
        subst_of (Var (i - 1)) w after ≡ subst_of (put_for i (lift_of w 1 at) g) (subst_of v w after) at
    put-both i v w at after g le is above =
        elim (cases_order i g) [
          | inl here ↦
              put-here (i - 1) w after (omega arith) ∙ sym (ap (λ t. subst_of t (subst_of v w after) at) (put-here i (lift_of w 1 at) g here) ∙ substituted-room w (subst_of v w after) at)
          | inr apart ↦ elim apart [
            | inl below ↦
                put-below (i - 1) w after (omega arith) ∙ sym (ap (λ t. subst_of t (subst_of v w after) at) (put-below i (lift_of w 1 at) g below) ∙ put-above i (subst_of v w after) at above)
            | inr higher ↦
                put-above (i - 1) w after (omega arith) ∙ sym (ap (λ t. subst_of t (subst_of v w after) at) (put-above i (lift_of w 1 at) g higher) ∙ put-above (i - 1) (subst_of v w after) at (omega arith))
          ]
        ]

-- two substitutions in the other order: the lower value takes part in the higher one
pub substituted-substituted : (t v w : Tree) (at after g : ℕ) → at ≤ after → g ≡ after + 1 →
    subst_of (subst_of t v at) w after ≡ subst_of (subst_of t (lift_of w 1 at) g) (subst_of v w after) at
substituted-substituted (Var i) v w at after g le is = put-put i v w at after g le is
substituted-substituted (Sorted s) v w at after g le is = refl
substituted-substituted (Constant c) v w at after g le is = refl
substituted-substituted (Prod k a b) v w at after g le is =
    cc (
      substituted-substituted a v w at after g le is,
      substituted-substituted b (lift_of v 1 0) (lift_of w 1 0) (at + 1) (after + 1) (g + 1) (omega arith) (omega arith),
      lifted-past w 1 1 0 at (at + 1) (omega arith) refl,
      lifted_below-substituted v w 1 0 after (after + 1) (omega arith) refl,
    )
substituted-substituted (Lam k a b) v w at after g le is =
    cc (
      substituted-substituted a v w at after g le is,
      substituted-substituted b (lift_of v 1 0) (lift_of w 1 0) (at + 1) (after + 1) (g + 1) (omega arith) (omega arith),
      lifted-past w 1 1 0 at (at + 1) (omega arith) refl,
      lifted_below-substituted v w 1 0 after (after + 1) (omega arith) refl,
    )
substituted-substituted (LetIn k a t b) v w at after g le is =
    cc (
      substituted-substituted a v w at after g le is,
      substituted-substituted t v w at after g le is,
      substituted-substituted b (lift_of v 1 0) (lift_of w 1 0) (at + 1) (after + 1) (g + 1) (omega arith) (omega arith),
      lifted-past w 1 1 0 at (at + 1) (omega arith) refl,
      lifted_below-substituted v w 1 0 after (after + 1) (omega arith) refl,
    )
substituted-substituted (App f a) v w at after g le is =
    cc (substituted-substituted f v w at after g le is, substituted-substituted a v w at after g le is)

-- a term that the program holds, left alone, passes no limit
pub bounded-substituted_above : (t v : Tree) (at : ℕ) → IsTerm t → free_bound t ≤ at → Ok t ≡ within_limits (subst_of t v at)
bounded-substituted_above t v at is above = sym (ap within_limits (substituted-above t v at above) ∙ bounded-term t is)
