-- Automatic names.
use Rattle.std.specs.Prelude.{◌≡◌, ℕ, zero, suc, ◌+◌, ◌-◌, ◌/◌, ◌%◌, ◌<◌, ◌≤◌, nat_lt, List, [], ◌∷◌, ◌++◌, Bool, true, false, Some, None, Result, OnOk, if◌then◌else◌, refl}
use Rattle.std.proofs.Common.{arith, ap, sym, ◌∙◌, subst, append_assoc}
use Rattle.std.proofs.lemmas.Bool.Decides.{nat_tests}
use Rattle.core_term.specs.Tree.{Tree, Var, Sorted, Constant, Prod, Lam, LetIn, App}
use Rattle.term_spine.specs.Spine.{head_of}
use Rattle.cic_rules.specs.declared.env.Slot.{Slot}
use Rattle.cic_rules.specs.Environments.{decl_at}
use Rattle.cic_rules.specs.Eliminators.{digits_before, digits, has_name, first_free, initial_of_type}
use Rattle.fresh_names.specs.Letters.{constant_of, name_of_decl}

-- digits before others
append_by : (b : Bool) (t n : ℕ) (later : List ℕ) → ((m : ℕ) (more : List ℕ) → digits_before t m more ≡ digits_before t m [] ++ more) →
    (if b then (48 + n) ∷ later else digits_before t (n / 10) ((48 + n % 10) ∷ later))
    ≡ (if b then (48 + n) ∷ [] else digits_before t (n / 10) ((48 + n % 10) ∷ [])) ++ later
append_by true t n later rest = refl
append_by false t n later rest =
    rest (n / 10) ((48 + n % 10) ∷ later)
    ∙ sym (append_assoc (digits_before t (n / 10) []) ((48 + n % 10) ∷ []) later)
    ∙ ap (λ x. x ++ later) (sym (rest (n / 10) ((48 + n % 10) ∷ [])))

digits_append : (t n : ℕ) (later : List ℕ) → digits_before t n later ≡ digits_before t n [] ++ later
digits_append zero n later = refl
digits_append (suc t) n later = append_by (nat_lt n 10) t n later (digits_append t)

tenth_less : (n : ℕ) → nat_lt n 10 ≡ false → n / 10 < n
tenth_less n e = let ten : 10 ≤ n = grind (arith, nat_tests, e) in omega (arith, ten)

-- they don't depend on the turns, where there are enough
turns_by : (b : Bool) (t u n : ℕ) (later : List ℕ) → nat_lt n 10 ≡ b → n < suc t → n < suc u →
    ((m : ℕ) (more : List ℕ) → m < t → m < u → digits_before t m more ≡ digits_before u m more) →
    (if b then (48 + n) ∷ later else digits_before t (n / 10) ((48 + n % 10) ∷ later))
    ≡ (if b then (48 + n) ∷ later else digits_before u (n / 10) ((48 + n % 10) ∷ later))
turns_by true t u n later e lt gt rest = refl
turns_by false t u n later e lt gt rest =
    let less = tenth_less n e in rest (n / 10) ((48 + n % 10) ∷ later) (omega (arith, less, lt)) (omega (arith, less, gt))

same_turns : (t u n : ℕ) (later : List ℕ) → n < t → n < u → digits_before t n later ≡ digits_before u n later
same_turns zero u n later lt gt = absurd (omega (arith, lt))
same_turns (suc t) zero n later lt gt = absurd (omega (arith, gt))
same_turns (suc t) (suc u) n later lt gt = turns_by (nat_lt n 10) t u n later refl lt gt (same_turns t u)

pub digits_more : (n : ℕ) → 10 ≤ n → digits n ≡ digits (n / 10) ++ ((48 + n % 10) ∷ [])
digits_more n ge =
    let large : nat_lt n 10 ≡ false = grind (arith, nat_tests, ge) in
    ap (λ b. if b then (48 + n) ∷ [] else digits_before n (n / 10) ((48 + n % 10) ∷ [])) large
    ∙ digits_append n (n / 10) ((48 + n % 10) ∷ [])
    ∙ ap (λ x. x ++ ((48 + n % 10) ∷ [])) (same_turns n (suc (n / 10)) (n / 10) [] (tenth_less n large) (omega arith))

pub digits_one : (n : ℕ) → n < 10 → digits n ≡ (48 + n % 10) ∷ []
digits_one n lt =
    let small : nat_lt n 10 ≡ true = grind (arith, nat_tests, lt) in
    let same : n ≡ n % 10 = omega (arith, lt) in
    ap (λ b. if b then (48 + n) ∷ [] else digits_before n (n / 10) ((48 + n % 10) ∷ [])) small ∙ ap (λ m. (48 + m) ∷ []) same

-- a digit behind those of a tenth
pub digits_next : {A E : Type 0} (r : Result A E) (new mid old : List ℕ) (n : ℕ) → 10 ≤ n → mid ≡ old ++ digits (n / 10) →
    OnOk r (new ≡ mid ++ ((48 + n % 10) ∷ [])) → OnOk r (new ≡ old ++ digits n)
digits_next r new mid old n ge made told =
    subst (λ u. OnOk r (new ≡ u))
    (ap (λ m. m ++ ((48 + n % 10) ∷ [])) made ∙ append_assoc old (digits (n / 10)) ((48 + n % 10) ∷ []) ∙ ap (λ d. old ++ d) (sym (digits_more n ge))) told

pub is_taken : (names : List (List ℕ)) (stem : List ℕ) (k n : ℕ) → k < n → has_name names (stem ++ digits k) ≡ true →
    first_free (n - k) names stem k ≡ first_free (n - (k + 1)) names stem (k + 1)
is_taken names stem k n h e =
    let f : n - k ≡ suc (n - (k + 1)) = omega (arith, h) in
    ap (λ m. first_free m names stem k) f ∙ ap (λ b. if b then first_free (n - (k + 1)) names stem (k + 1) else stem ++ digits k) e

pub is_free : (names : List (List ℕ)) (stem : List ℕ) (k n : ℕ) → k < n → has_name names (stem ++ digits k) ≡ false →
    first_free (n - k) names stem k ≡ stem ++ digits k
is_free names stem k n h e =
    let f : n - k ≡ suc (n - (k + 1)) = omega (arith, h) in
    ap (λ m. first_free m names stem k) f ∙ ap (λ b. if b then first_free (n - (k + 1)) names stem (k + 1) else stem ++ digits k) e

pub is_last : (names : List (List ℕ)) (stem : List ℕ) (n : ℕ) → first_free (n - n) names stem n ≡ stem ++ digits n
is_last names stem n = let f : n - n ≡ 0 = omega arith in ap (λ m. first_free m names stem n) f

-- the letter by the head
pub initial_some : (env : List Slot) (a : Tree) (c : ℕ) → constant_of (head_of a) ≡ Some c → initial_of_type env a ≡ name_of_decl (decl_at env c)
initial_some env (App f x) c e = initial_some env f c e
initial_some env (Constant k) c e = let same : k ≡ c = cc in ap (λ p. name_of_decl (decl_at env p)) same
initial_some env (Var _) c e = cc
initial_some env (Sorted _) c e = cc
initial_some env (Prod _ _ _) c e = cc
initial_some env (Lam _ _ _) c e = cc
initial_some env (LetIn _ _ _ _) c e = cc

pub initial_none : (env : List Slot) (a : Tree) → constant_of (head_of a) ≡ None → initial_of_type env a ≡ 72 ∷ []
initial_none env (App f x) e = initial_none env f e
initial_none env (Constant k) e = cc
initial_none env (Var _) e = refl
initial_none env (Sorted _) e = refl
initial_none env (Prod _ _ _) e = refl
initial_none env (Lam _ _ _) e = refl
initial_none env (LetIn _ _ _ _) e = refl
