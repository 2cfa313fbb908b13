-- What a parser answers at the tokens of a tree: the tree, or its first fault; and how the answers of parts join.
use Rattle.std.proofs.Common.{◌≡◌, ℕ, suc, Bool, true, false, cond, Option, None, Some, Ok, Err, List, ◌∙◌, ap}
use Rattle.coq_syntax.specs.declared.token.Token.{Token}
use Rattle.coq_syntax.specs.Faults.{Fault, first}
use Rattle.vernac_parser.specs.declared.sign.Sign.{Sign}
use Rattle.vernac_parser.specs.Signs.{sign_at}
use Rattle.vernac_parser.specs.Parser.{Outcome, Parser, and_then, ◌>>=◌, pure, choose, many}

abbrev pub answered : {A : Type 0} → Option Fault → A → List Token → Outcome A
answered None x rest = Ok (x, rest)
answered (Some f) x rest = Err f

-- a part, and then the rest of the row
pub step : {A B : Type 0} (o : Outcome A) (k : A → Parser B) (f g : Option Fault) (x : A) (y : B) (r rest : List Token) → o ≡ answered f x r → k x r ≡ answered g y rest → and_then o k ≡ answered (first f g) y rest
step o k None g x y r rest p q = ap (λ u. and_then u k) p ∙ q
step o k (Some f) g x y r rest p q = ap (λ u. and_then u k) p

-- a part behind which nothing can be refused
pub step_sure : {A B : Type 0} (o : Outcome A) (k : A → Parser B) (f : Option Fault) (x : A) (y : B) (r rest : List Token) → o ≡ answered f x r → k x r ≡ Ok (y, rest) → and_then o k ≡ answered f y rest
step_sure o k None x y r rest p q = ap (λ u. and_then u k) p ∙ q
step_sure o k (Some f) x y r rest p q = ap (λ u. and_then u k) p

-- the last part
pub step_last : {A B : Type 0} (o : Outcome A) (h : A → B) (f : Option Fault) (x : A) (rest : List Token) → o ≡ answered f x rest → and_then o (λ a. pure (h a)) ≡ answered f (h x) rest
step_last o h None x rest p = ap (λ u. and_then u (λ a. pure (h a))) p
step_last o h (Some f) x rest p = ap (λ u. and_then u (λ a. pure (h a))) p

-- a part that can't be refused
pub step_free : {A B : Type 0} (o : Outcome A) (k : A → Parser B) (x : A) (r : List Token) (w : Outcome B) → o ≡ Ok (x, r) → k x r ≡ w → and_then o k ≡ w
step_free o k x r w p q = ap (λ u. and_then u k) p ∙ q

pub chosen : {A : Type 0} (test : Sign → Bool) (p q : Parser A) (i : List Token) → test (sign_at i) ≡ true → choose test p q i ≡ p i
chosen test p q i e = ap (λ b. cond b (p i) (q i)) e

pub passed_over : {A : Type 0} (test : Sign → Bool) (p q : Parser A) (i : List Token) → test (sign_at i) ≡ false → choose test p q i ≡ q i
passed_over test p q i e = ap (λ b. cond b (p i) (q i)) e

pub many_more : {A B : Type 0} (test : Sign → Bool) (item : Parser A) (front : A → B → B) (none : B) (n : ℕ) (i r rest : List Token) (f g : Option Fault) (x : A) (xs : B) → test (sign_at i) ≡ true → item i ≡ answered f x r → many test item front none n r ≡ answered g xs rest → many test item front none (suc n) i ≡ answered (first f g) (front x xs) rest
unfolding many
many_more test item front none n i r rest f g x xs e p q =
    chosen test (item >>= (λ a. many test item front none n >>= (λ as'. pure (front a as')))) (pure none) i e
    ∙ step (item i) (λ a. many test item front none n >>= (λ as'. pure (front a as'))) f g x (front x xs) r rest p (step_last (many test item front none n r) (front x) g xs rest q)

pub many_done : {A B : Type 0} (test : Sign → Bool) (item : Parser A) (front : A → B → B) (none : B) (n : ℕ) (rest : List Token) → test (sign_at rest) ≡ false → many test item front none (suc n) rest ≡ Ok (none, rest)
unfolding many
many_done test item front none n rest e = passed_over test (item >>= (λ a. many test item front none n >>= (λ as'. pure (front a as')))) (pure none) rest e

-- the two ways of a test
pub took : {A : Type 0} {b : Bool} (x y : A) → b ≡ true → cond b x y ≡ x
took x y e = ap (λ b. cond b x y) e

pub passed : {A : Type 0} {b : Bool} (x y : A) → b ≡ false → cond b x y ≡ y
passed x y e = ap (λ b. cond b x y) e
