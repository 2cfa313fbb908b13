-- What a rule answers when it stops at a token doesn't depend on what stands behind that token.
use Rattle.std.proofs.Common.{◌≡◌, ℕ, suc, ◌⊎◌, inl, inr, Bool, true, false, cond, Result, Ok, Err, List, [], ◌∷◌, ◌++◌, length, take, refl, sym, ◌∙◌, ap, subst, arith, append_assoc, length-append, drop, ◌<◌, ◌≤◌}
use Rattle.std.proofs.lemmas.List.{append_cancel_right}
use Rattle.coq_syntax.specs.declared.token.Token.{Token}
use Rattle.coq_syntax.specs.declared.words.Word.{Word}
use Rattle.coq_syntax.specs.Faults.{value_of}
use Rattle.vernac_parser.specs.declared.sign.Sign.{Sign}
use Rattle.vernac_parser.specs.declared.sign.Sign.TheVariants as sign
use Rattle.vernac_parser.specs.Signs.{is_sign, sign_of, sign_at}
use Rattle.vernac_parser.specs.Parser.{Outcome, Parser, and_then, ◌>>=◌, pure, refuse, refuse_as, choose, unexpected, word_of, taken, number}
pub use Rattle.coq_syntax.proofs.Splits.{Longer, longer}
use Rattle.coq_syntax.specs.Refusals.{IsAssigned}
use Rattle.vernac_parser.proofs.Answered.{took, passed}

-- where a parser stopped
abbrev pub stop : {A : Type 0} → Outcome A → List Token
stop (Ok p) = p.1
stop (Err f) = f.rest

-- the same answer at another place
abbrev pub moved : {A : Type 0} → List Token → Outcome A → Outcome A
moved v (Ok p) = Ok (p.0, v)
moved v (Err f) = Err (record { code = f.code; rest = v })

-- how far what stands behind a place is the same: the token there, and no `:=` is new behind it; the token; or nothing stands there
pub data Grade : Type 0 where
  Same One Ended : Grade

abbrev pub Agrees : Grade → List Token → List Token → Type 0
Agrees Same v v' = (take 1 v ≡ take 1 v') × (IsAssigned (drop 1 v') → IsAssigned (drop 1 v))
Agrees One v v' = take 1 v ≡ take 1 v'
Agrees Ended v v' = v' ≡ []

-- the answers that stay: all, where no `:=` is new; those but a nesting too deep, where the token is the same; an Ok and an unexpected token, at the end
abbrev pub Fits : Grade → ℕ → Type 0
Fits Same code = Unit {0}
Fits One code = code ≡ 11 → ⊥
Fits Ended code = code ≡ unexpected

abbrev pub Allowed : {A : Type 0} → Grade → Outcome A → Type 0
Allowed g (Ok p) = Unit {0}
Allowed g (Err f) = Fits g f.code

pub record Local {A : Type 0} (p : Parser A) : Type 0 where
  pub cut : (i : List Token) → (u : List Token) × (i ≡ u ++ stop (p i))
  pub same : (g : Grade) (i i' u v v' : List Token) → i ≡ u ++ v → i' ≡ u ++ v' → stop (p i) ≡ v → Allowed g (p i) → Agrees g v v' → p i' ≡ moved v' (p i)

-- ---- lists

pub nil_of : (u v : List Token) → u ++ v ≡ v → u ≡ []
nil_of [] v e = refl
nil_of (t ∷ u) v e = absurd (let size : length (t ∷ u ++ v) ≡ length v = ap length e in omega (arith, length-append u v))

sign_of_one : (v : List Token) → sign_at (take 1 v) ≡ sign_at v
sign_of_one [] = refl
sign_of_one (t ∷ w) = refl

-- the next token is the same, or the place is here and nothing stands there
pub signs_alike : (g : Grade) (u v v' : List Token) → Agrees g v v' → (sign_at (u ++ v) ≡ sign_at (u ++ v')) ⊎ ((u ≡ []) × (v' ≡ []) × (g ≡ Ended))
signs_alike g (t ∷ u) v v' a = inl refl
signs_alike Same [] v v' a = inl (sym (sign_of_one v) ∙ ap sign_at a.0 ∙ sign_of_one v')
signs_alike One [] v v' a = inl (sym (sign_of_one v) ∙ ap sign_at a ∙ sign_of_one v')
signs_alike Ended [] v v' a = inr (refl, a, refl)

-- an Ok before the place: all behind it up to the place is the same
before : (g : Grade) (u v v' : List Token) → Agrees g v v' → (h : Grade) × Agrees h (u ++ v) (u ++ v')
before g [] v v' a = (g, a)
before g (t ∷ u) v v' a = (One, refl)

abbrev ok : {A : Type 0} → A → List Token → Outcome A
ok x r = Ok (x, r)

-- ---- how the parts of a rule join

pub local_ext : {A : Type 0} (p q : Parser A) → ((i : List Token) → p i ≡ q i) → Local p → Local q
local_ext p q e l = record {
  cut = λ i. ((l.cut i).0, (l.cut i).1 ∙ ap (λ o. (l.cut i).0 ++ stop o) (e i));
  same = λ g i i' u v v' h h' s a b. sym (e i') ∙ l.same g i i' u v v' h h' (ap stop (e i) ∙ s) (subst (Allowed g) (sym (e i)) a) b ∙ ap (moved v') (e i);
}

pub local_pure : {A : Type 0} (x : A) → Local (pure x)
local_pure x = record {
  cut = λ i. ([], refl);
  same = λ g i i' u v v' h h' s a b. let none : u ≡ [] = nil_of u v (sym h ∙ s) in ap (ok x) (h' ∙ ap (λ w. w ++ v') none);
}

pub local_refuse : {A : Type 0} (code : ℕ) → Local (refuse_as {A = A} code)
local_refuse {A} code = record {
  cut = λ i. ([], refl);
  same = λ g i i' u v v' h h' s a b. let none : u ≡ [] = nil_of u v (sym h ∙ s) in ap (refuse_as {A = A} code) (h' ∙ ap (λ w. w ++ v') none);
}

module _ {A B : Type 0} (p : Parser A) (f : A → Parser B) (lp : Local p) (lf : (x : A) → Local (f x)) where
  bind_cut : (i : List Token) (o : Outcome A) → p i ≡ o → (u : List Token) × (i ≡ u ++ stop (and_then o f))
  bind_cut i (Err e) h = ((lp.cut i).0, (lp.cut i).1 ∙ ap (λ o. (lp.cut i).0 ++ stop o) h)
  bind_cut i (Ok (x, r)) h =
      let front : List Token = (lp.cut i).0 in
      let back : List Token = ((lf x).cut r).0 in
      (front ++ back, (lp.cut i).1 ∙ ap (λ o. front ++ stop o) h ∙ ap (λ w. front ++ w) ((lf x).cut r).1 ∙ sym (append_assoc front back (stop (f x r))))

  bind_same : (g : Grade) (i i' u v v' : List Token) (o : Outcome A) → p i ≡ o → i ≡ u ++ v → i' ≡ u ++ v' → stop (and_then o f) ≡ v → Allowed g (and_then o f) → Agrees g v v' → and_then (p i') f ≡ moved v' (and_then o f)
  bind_same g i i' u v v' (Err e) q h h' s a b = ap (λ o. and_then o f) (lp.same g i i' u v v' h h' (ap stop q ∙ s) (subst (Allowed g) (sym q) a) b ∙ ap (moved v') q)
  bind_same g i i' u v v' (Ok (x, r)) q h h' s a b =
      let front : List Token = (lp.cut i).0 in
      let back : List Token = ((lf x).cut r).0 in
      let r_is : r ≡ back ++ v = ((lf x).cut r).1 ∙ ap (λ w. back ++ w) s in
      let i_is : i ≡ front ++ r = (lp.cut i).1 ∙ ap (λ o. front ++ stop o) q in
      let u_is : u ≡ front ++ back = append_cancel_right u (front ++ back) v (sym h ∙ i_is ∙ ap (λ w. front ++ w) r_is ∙ sym (append_assoc front back v)) in
      let i'_is : i' ≡ front ++ (back ++ v') = h' ∙ ap (λ w. w ++ v') u_is ∙ append_assoc front back v' in
      let near : (k : Grade) × Agrees k (back ++ v) (back ++ v') = before g back v v' b in
      let first : p i' ≡ ok x (back ++ v') = lp.same near.0 i i' front r (back ++ v') i_is i'_is (ap stop q) (subst (Allowed near.0) (sym q) tt) (subst (λ w. Agrees near.0 w (back ++ v')) (sym r_is) near.1) ∙ ap (moved (back ++ v')) q in
      ap (λ o. and_then o f) first ∙ (lf x).same g r (back ++ v') back v v' r_is refl s a b

  pub local_bind : Local (p >>= f)
  local_bind = record { cut = λ i. bind_cut i (p i) refl; same = λ g i i' u v v' h h' s a b. bind_same g i i' u v v' (p i) refl h h' s a b }

-- an answer that is a refusal for a limit
abbrev pub Limited : {A : Type 0} → Outcome A → Type 0
Limited (Ok p) = ⊥
Limited (Err f) = f.code ≡ unexpected → ⊥

not_ended : {A : Type 0} (o : Outcome A) → Limited o → Allowed Ended o → ⊥
not_ended (Ok p) h a = h
not_ended (Err f) h a = h a

-- where the test holds at the next token, that token is taken, or refused for a limit
abbrev pub Moves : {A : Type 0} → (Sign → Bool) → Parser A → Type 0
Moves test p = (i : List Token) → test (sign_at i) ≡ true → stop (p i) ≡ i → Limited (p i)

module _ {A : Type 0} (test : Sign → Bool) (p q : Parser A) (at_end : test sign.Other ≡ false) (moves : Moves test p) (lp : Local p) (lq : Local q) where
  choose_cut : (i : List Token) (b : Bool) → test (sign_at i) ≡ b → (u : List Token) × (i ≡ u ++ stop (choose test p q i))
  choose_cut i true e = ((lp.cut i).0, (lp.cut i).1 ∙ ap (λ o. (lp.cut i).0 ++ stop o) (sym (took (p i) (q i) e)))
  choose_cut i false e = ((lq.cut i).0, (lq.cut i).1 ∙ ap (λ o. (lq.cut i).0 ++ stop o) (sym (passed (p i) (q i) e)))

  still_true : (g : Grade) (i i' u v v' : List Token) → i ≡ u ++ v → i' ≡ u ++ v' → stop (p i) ≡ v → Allowed g (p i) → test (sign_at i) ≡ true → (sign_at (u ++ v) ≡ sign_at (u ++ v')) ⊎ ((u ≡ []) × (v' ≡ []) × (g ≡ Ended)) → test (sign_at i') ≡ true
  still_true g i i' u v v' h h' s a e (inl k) = ap (λ w. test (sign_at w)) h' ∙ ap test (sym k) ∙ ap (λ w. test (sign_at w)) (sym h) ∙ e
  still_true g i i' u v v' h h' s a e (inr k) = absurd (not_ended (p i) (moves i e (s ∙ ap (λ w. w ++ v) (sym k.0) ∙ sym h)) (subst (λ d. Allowed d (p i)) k.2 a))

  still_false : (g : Grade) (i i' u v v' : List Token) → i ≡ u ++ v → i' ≡ u ++ v' → test (sign_at i) ≡ false → (sign_at (u ++ v) ≡ sign_at (u ++ v')) ⊎ ((u ≡ []) × (v' ≡ []) × (g ≡ Ended)) → test (sign_at i') ≡ false
  still_false g i i' u v v' h h' e (inl k) = ap (λ w. test (sign_at w)) h' ∙ ap test (sym k) ∙ ap (λ w. test (sign_at w)) (sym h) ∙ e
  still_false g i i' u v v' h h' e (inr k) = ap (λ w. test (sign_at w)) (h' ∙ ap (λ w. w ++ v') k.0 ∙ k.1) ∙ at_end

  choose_same : (g : Grade) (i i' u v v' : List Token) (b : Bool) → test (sign_at i) ≡ b → i ≡ u ++ v → i' ≡ u ++ v' → stop (choose test p q i) ≡ v → Allowed g (choose test p q i) → Agrees g v v' → choose test p q i' ≡ moved v' (choose test p q i)
  choose_same g i i' u v v' true e h h' s a k =
      let c : choose test p q i ≡ p i = took (p i) (q i) e in
      let s' : stop (p i) ≡ v = ap stop (sym c) ∙ s in
      let a' : Allowed g (p i) = subst (Allowed g) c a in
      took (p i') (q i') (still_true g i i' u v v' h h' s' a' e (signs_alike g u v v' k)) ∙ lp.same g i i' u v v' h h' s' a' k ∙ ap (moved v') (sym c)
  choose_same g i i' u v v' false e h h' s a k =
      let c : choose test p q i ≡ q i = passed (p i) (q i) e in
      let s' : stop (q i) ≡ v = ap stop (sym c) ∙ s in
      let a' : Allowed g (q i) = subst (Allowed g) c a in
      passed (p i') (q i') (still_false g i i' u v v' h h' e (signs_alike g u v v' k)) ∙ lq.same g i i' u v v' h h' s' a' k ∙ ap (moved v') (sym c)

  pub local_choose : Local (choose test p q)
  local_choose = record { cut = λ i. choose_cut i (test (sign_at i)) refl; same = λ g i i' u v v' h h' s a b. choose_same g i i' u v v' (test (sign_at i)) refl h h' s a b }

-- ---- a parser of one token

abbrev pub one_by : {A : Type 0} → Result A ℕ → Token → Parser A
one_by (Ok a) t rest = Ok (a, rest)
one_by (Err code) t rest = refuse_as code (t ∷ rest)

abbrev pub one : {A : Type 0} → (Token → Result A ℕ) → Parser A
one f [] = refuse []
one f (t ∷ rest) = one_by (f t) t rest

module _ {A : Type 0} (f : Token → Result A ℕ) where
  one_cut : (t : Token) (rest : List Token) (o : Result A ℕ) → (u : List Token) × (t ∷ rest ≡ u ++ stop (one_by o t rest))
  one_cut t rest (Ok a) = (t ∷ [], refl)
  one_cut t rest (Err code) = ([], refl)

  -- at the place itself
  stuck : (t : Token) (w : List Token) (o : Result A ℕ) → stop (one_by o t w) ≡ t ∷ w → (code : ℕ) × (one_by o ≡ (λ t' w'. refuse_as {A = A} code (t' ∷ w')))
  stuck t w (Ok a) e = absurd (let size : length w ≡ suc (length w) = ap length e in omega arith)
  stuck t w (Err code) e = (code, refl)

  one_token : (t t' : Token) (w w' : List Token) → t ≡ t' → (k : (code : ℕ) × (one_by (f t) ≡ (λ s v. refuse_as {A = A} code (s ∷ v)))) → one f (t' ∷ w') ≡ moved (t' ∷ w') (one f (t ∷ w))
  one_token t t' w w' e k = ap (λ s. one_by (f s) t' w') (sym e) ∙ ap (λ h. h t' w') k.1 ∙ ap (λ h. moved (t' ∷ w') (h t w)) (sym k.1)

  one_gone : (t : Token) (w : List Token) → Allowed Ended (one f (t ∷ w)) → (k : (code : ℕ) × (one_by (f t) ≡ (λ s v. refuse_as {A = A} code (s ∷ v)))) → one f [] ≡ moved [] (one f (t ∷ w))
  one_gone t w a k =
      let code_is : k.0 ≡ unexpected = subst (λ h. Allowed Ended (h t w)) k.1 a in
      ap (λ c. refuse_as {A = A} c []) (sym code_is) ∙ ap (λ h. moved [] (h t w)) (sym k.1)

  one_here : (g : Grade) (v v' : List Token) → stop (one f v) ≡ v → Allowed g (one f v) → Agrees g v v' → one f v' ≡ moved v' (one f v)
  one_here g [] [] s a b = refl
  one_here Same [] (t ∷ w) s a b = absurd (let size : 0 ≡ 1 = ap length b.0 in omega arith)
  one_here One [] (t ∷ w) s a b = absurd (let size : 0 ≡ 1 = ap length b in omega arith)
  one_here Ended [] (t ∷ w) s a b = absurd (let size : suc (length w) ≡ 0 = ap length b in omega arith)
  one_here Same (t ∷ w) [] s a b = absurd (let size : 1 ≡ 0 = ap length b.0 in omega arith)
  one_here One (t ∷ w) [] s a b = absurd (let size : 1 ≡ 0 = ap length b in omega arith)
  one_here Ended (t ∷ w) [] s a b = one_gone t w a (stuck t w (f t) s)
  one_here Same (t ∷ w) (t' ∷ w') s a b = let same : t ∷ [] ≡ t' ∷ [] = b.0 in let e : t ≡ t' = cc in one_token t t' w w' e (stuck t w (f t) s)
  one_here One (t ∷ w) (t' ∷ w') s a b = let e : t ≡ t' = cc in one_token t t' w w' e (stuck t w (f t) s)
  one_here Ended (t ∷ w) (t' ∷ w') s a b = absurd (let size : suc (length w') ≡ 0 = ap length b in omega arith)

  one_before : (t : Token) (u v v' : List Token) (o : Result A ℕ) → stop (one_by o t (u ++ v)) ≡ v → one_by o t (u ++ v') ≡ moved v' (one_by o t (u ++ v))
  one_before t u v v' (Ok a) s = ap (λ w. ok a (w ++ v')) (nil_of u v s)
  one_before t u v v' (Err code) s = absurd (let size : suc (length (u ++ v)) ≡ length v = ap length s in omega (arith, length-append u v))

  one_same : (g : Grade) (i i' u v v' : List Token) → i ≡ u ++ v → i' ≡ u ++ v' → stop (one f i) ≡ v → Allowed g (one f i) → Agrees g v v' → one f i' ≡ moved v' (one f i)
  one_same g i i' [] v v' h h' s a b = ap (one f) h' ∙ one_here g v v' (ap (λ w. stop (one f w)) (sym h) ∙ s) (subst (λ w. Allowed g (one f w)) h a) b ∙ ap (λ w. moved v' (one f w)) (sym h)
  one_same g i i' (t ∷ u) v v' h h' s a b = ap (one f) h' ∙ one_before t u v v' (f t) (ap (λ w. stop (one f w)) (sym h) ∙ s) ∙ ap (λ w. moved v' (one f w)) (sym h)

  cut_one : (i : List Token) → (u : List Token) × (i ≡ u ++ stop (one f i))
  cut_one [] = ([], refl)
  cut_one (t ∷ rest) = one_cut t rest (f t)

  local_one : Local (one f)
  local_one = record { cut = cut_one; same = one_same }

token_of : {A : Type 0} → (Token → A) → Bool → Token → Result A ℕ
token_of make true t = Ok (make t)
token_of make false t = Err unexpected

taken_one : {A : Type 0} (make : Token → A) (s : Sign) (i : List Token) → one (λ t. token_of make (is_sign (sign_of t) s) t) i ≡ taken make s i
unfolding token_of
taken_one make s [] = refl
taken_one make s (t ∷ rest) = by (is_sign (sign_of t) s)
  where
    by : (b : Bool) → one_by (token_of make b t) t rest ≡ cond b (Ok (make t, rest)) (refuse (t ∷ rest))
    by true = refl
    by false = refl

pub local_taken : {A : Type 0} (make : Token → A) (s : Sign) → Local (taken make s)
local_taken make s = local_ext (one (λ t. token_of make (is_sign (sign_of t) s) t)) (taken make s) (taken_one make s) (local_one (λ t. token_of make (is_sign (sign_of t) s) t))

number_of : (ℕ → Bool) → ℕ → Bool → Token → Result Word ℕ
number_of is_out code true t = cond (is_out (value_of (word_of t))) (Err code) (Ok (word_of t))
number_of is_out code false t = Err unexpected

number_one : (is_out : ℕ → Bool) (code : ℕ) (i : List Token) → one (λ t. number_of is_out code (is_sign (sign_of t) sign.Number) t) i ≡ number is_out code i
unfolding number_of
number_one is_out code [] = refl
number_one is_out code (t ∷ rest) = by (is_sign (sign_of t) sign.Number) (is_out (value_of (word_of t))) refl
  where
    by : (b d : Bool) → is_out (value_of (word_of t)) ≡ d → one_by (number_of is_out code b t) t rest ≡ cond b (cond (is_out (value_of (word_of t))) (refuse_as code (t ∷ rest)) (Ok (word_of t, rest))) (refuse (t ∷ rest))
    by true true e = simp e
    by true false e = simp e
    by false d e = refl

pub local_number : (is_out : ℕ → Bool) (code : ℕ) → Local (number is_out code)
local_number is_out code = local_ext (one (λ t. number_of is_out code (is_sign (sign_of t) sign.Number) t)) (number is_out code) (number_one is_out code) (local_one (λ t. number_of is_out code (is_sign (sign_of t) sign.Number) t))

-- ---- what stands behind

pub assigned_behind : (back v v' : List Token) → (IsAssigned v → IsAssigned v') → IsAssigned (back ++ v) → IsAssigned (back ++ v')
assigned_behind [] v v' h = h
assigned_behind (t ∷ back) v v' h = λ e. e

pub either : (m n : ℕ) → (m ≤ n) ⊎ (n < m)
either m n = grind arith
