-- Which tokens a rule takes, so that lists end, and that lists and the look behind a `(` are local.
use Rattle.std.proofs.Common.{◌≡◌, ℕ, zero, suc, ◌+◌, ◌<◌, ◌≤◌, ◌⊎◌, inl, inr, Bool, true, false, cond, Ok, Err, List, [], ◌∷◌, ◌++◌, length, refl, sym, ◌∙◌, ap, subst, arith, length-append}
use Rattle.coq_syntax.specs.declared.token.Token.{Token}
use Rattle.coq_syntax.specs.declared.words.Word.{Word}
use Rattle.coq_syntax.specs.Faults.{value_of}
use Rattle.vernac_parser.specs.declared.sign.Sign.{Sign}
use Rattle.vernac_parser.specs.declared.sign.Sign.TheVariants as sign
use Rattle.vernac_parser.specs.Signs.{is_sign, sign_of, sign_at}
use Rattle.vernac_parser.specs.Parser.{Outcome, Parser, and_then, ◌>>=◌, pure, refuse, refuse_as, choose, unexpected, word_of, taken, number, many, repeated}
use Rattle.vernac_parser.specs.Parse.{assigns}
use Rattle.coq_syntax.specs.Refusals.{IsAssigned}
use Rattle.vernac_parser.proofs.Answered.{took, passed}
use Rattle.vernac_parser.proofs.SignLaws.{same_sign, is_same, assigned_sign, sign_assigned}
use Rattle.vernac_parser.proofs.Local.{stop, moved, signs_alike, Grade, Same, One, Ended, Agrees, Allowed, Local, local_pure, local_refuse, local_bind, Limited, Moves, local_choose}

-- something is taken, or there is a refusal by a number of these
abbrev pub Taken : {A : Type 0} → (ℕ → Type 0) → Outcome A → List Token → Type 0
Taken P (Ok p) i = length p.1 < length i
Taken P (Err f) i = (length f.rest < length i) ⊎ P f.code

-- so it is at each token of this sign
abbrev pub TakesAt : {A : Type 0} → (ℕ → Type 0) → Sign → Parser A → Type 0
TakesAt P s p = (i : List Token) → sign_at i ≡ s → Taken P (p i) i

abbrev pub Limit : ℕ → Type 0
Limit code = code ≡ unexpected → ⊥

abbrev pub Takes : {A : Type 0} → (Sign → Bool) → Parser A → Type 0
Takes test p = (s : Sign) → test s ≡ true → TakesAt Limit s p

pub moves : {A : Type 0} (test : Sign → Bool) (p : Parser A) → Takes test p → Moves test p
moves {A} test p t i e s = by (p i) (t (sign_at i) e i refl) s
  where
    by : (o : Outcome A) → Taken Limit o i → stop o ≡ i → Limited o
    by (Ok x) h s = absurd (let size : length x.1 ≡ length i = ap length s in omega arith)
    by (Err f) (inl h) s = absurd (let size : length f.rest ≡ length i = ap length s in omega arith)
    by (Err f) (inr h) s = h

pub cut_le : {A : Type 0} (p : Parser A) → Local p → (i : List Token) → length (stop (p i)) ≤ length i
cut_le p l i = let size : length i ≡ length ((l.cut i).0 ++ stop (p i)) = ap length (l.cut i).1 in omega (arith, length-append (l.cut i).0 (stop (p i)))

shorter : {A : Type 0} (P : ℕ → Type 0) (o : Outcome A) (i : List Token) → length (stop o) < length i → Taken P o i
shorter P (Ok x) i h = h
shorter P (Err f) i h = inl h

pub takes_bind : {A B : Type 0} (P : ℕ → Type 0) (s : Sign) (p : Parser A) (f : A → Parser B) → TakesAt P s p → ((x : A) → Local (f x)) → TakesAt P s (p >>= f)
takes_bind {A} P s p f t l i e = by (p i) (t i e)
  where
    by : (o : Outcome A) → Taken P o i → Taken P (and_then o f) i
    by (Ok x) h = shorter P (f x.0 x.1) i (omega (arith, cut_le (f x.0) (l x.0) x.1))
    by (Err g) h = h

pub takes_first : {A : Type 0} (P : ℕ → Type 0) (s : Sign) (test : Sign → Bool) (p q : Parser A) → test s ≡ true → TakesAt P s p → TakesAt P s (choose test p q)
takes_first P s test p q e t i h = subst (λ o. Taken P o i) (sym (took (p i) (q i) (ap test h ∙ e))) (t i h)

pub takes_second : {A : Type 0} (P : ℕ → Type 0) (s : Sign) (test : Sign → Bool) (p q : Parser A) → test s ≡ false → TakesAt P s q → TakesAt P s (choose test p q)
takes_second P s test p q e t i h = subst (λ o. Taken P o i) (sym (passed (p i) (q i) (ap test h ∙ e))) (t i h)

pub takes_taken : {A : Type 0} (P : ℕ → Type 0) (s : Sign) (make : Token → A) → is_sign s s ≡ true → (sign.Other ≡ s → ⊥) → TakesAt P s (taken make s)
takes_taken P s make e known [] h = absurd (known h)
takes_taken P s make e known (t ∷ rest) h = subst (λ o. Taken P o (t ∷ rest)) (sym (took (Ok (make t, rest)) (refuse (t ∷ rest)) (ap (λ x. is_sign x s) h ∙ e))) (omega arith)

pub takes_number : (P : ℕ → Type 0) (is_out : ℕ → Bool) (code : ℕ) → P code → TakesAt P sign.Number (number is_out code)
takes_number P is_out code k [] h = absurd (let bad : sign.Other ≡ sign.Number = h in cc)
takes_number P is_out code k (t ∷ rest) h = subst (λ o. Taken P o (t ∷ rest)) (sym (took _ (refuse (t ∷ rest)) (is_same (sign_of t) sign.Number h))) (by (is_out (value_of (word_of t))))
  where
    by : (b : Bool) → Taken P (cond b (refuse_as {A = Word} code (t ∷ rest)) (Ok (word_of t, rest))) (t ∷ rest)
    by true = inr k
    by false = omega arith

pub takes_refuse : (A : Type 0) (P : ℕ → Type 0) (s : Sign) (code : ℕ) → P code → TakesAt P s (refuse_as {A = A} code)
takes_refuse A P s code k i h = inr k

-- ---- lists

module _ {A B : Type 0} (begins : Sign → Bool) (item : Parser A) (front : A → B → B) (none : B) (at_end : begins sign.Other ≡ false) (takes : Takes begins item) (l : Local item) where
  one_more : ℕ → Parser B
  one_more n = item >>= (λ x. many begins item front none n >>= (λ xs. pure (front x xs)))

  pub local_many : (n : ℕ) → Local (many begins item front none n)
  unfolding many
  local_many zero = local_refuse unexpected
  local_many (suc n) =
      let later : (x : A) → Local (many begins item front none n >>= (λ xs. pure (front x xs))) = λ x. local_bind (many begins item front none n) (λ xs. pure (front x xs)) (local_many n) (λ xs. local_pure (front x xs)) in
      local_choose begins (item >>= (λ x. many begins item front none n >>= (λ xs. pure (front x xs)))) (pure none) at_end
      (moves begins (item >>= (λ x. many begins item front none n >>= (λ xs. pure (front x xs)))) (λ s e. takes_bind Limit s item (λ x. many begins item front none n >>= (λ xs. pure (front x xs))) (takes s e) later))
      (local_bind item (λ x. many begins item front none n >>= (λ xs. pure (front x xs))) l later) (local_pure none)

  -- more turns than tokens change nothing
  steady : (n m : ℕ) (i : List Token) → length i < n → length i < m → many begins item front none n i ≡ many begins item front none m i
  unfolding many
  steady zero m i h k = absurd (omega arith)
  steady (suc n) zero i h k = absurd (omega arith)
  steady (suc n) (suc m) i h k = by (begins (sign_at i)) refl (λ r g. steady n m r (omega arith) (omega arith))
    where
      inner : (b : Bool) → begins (sign_at i) ≡ b → ((r : List Token) → length r < length i → many begins item front none n r ≡ many begins item front none m r) → (o : Outcome A) → Taken Limit o i → and_then o (λ x. many begins item front none n >>= (λ xs. pure (front x xs))) ≡ and_then o (λ x. many begins item front none m >>= (λ xs. pure (front x xs)))
      inner b e ih (Ok x) t = ap (λ o. and_then o (λ xs. pure (front x.0 xs))) (ih x.1 t)
      inner b e ih (Err f) t = refl

      by : (b : Bool) → begins (sign_at i) ≡ b → ((r : List Token) → length r < length i → many begins item front none n r ≡ many begins item front none m r) → many begins item front none (suc n) i ≡ many begins item front none (suc m) i
      by true e ih = took _ (pure none i) e ∙ inner true e ih (item i) (takes (sign_at i) e i refl) ∙ sym (took _ (pure none i) e)
      by false e ih = passed _ (pure none i) e ∙ sym (passed _ (pure none i) e)

  turns_same : (g : Grade) (i i' u v v' : List Token) → i ≡ u ++ v → i' ≡ u ++ v' → stop (repeated begins item front none i) ≡ v → Allowed g (repeated begins item front none i) → Agrees g v v' → repeated begins item front none i' ≡ moved v' (repeated begins item front none i)
  turns_same g i i' u v v' h h' s a b =
      let n : ℕ = suc (length i + length i') in
      let here : repeated begins item front none i ≡ many begins item front none n i = steady (suc (length i)) n i (omega arith) (omega arith) in
      let there : repeated begins item front none i' ≡ many begins item front none n i' = steady (suc (length i')) n i' (omega arith) (omega arith) in
      there ∙ (local_many n).same g i i' u v v' h h' (ap stop (sym here) ∙ s) (subst (Allowed g) here a) b ∙ ap (moved v') (sym here)

  pub local_repeated : Local (repeated begins item front none)
  local_repeated = record { cut = λ i. (local_many (suc (length i))).cut i; same = turns_same }

-- ---- the look behind a `(`

module _ {A : Type 0} (p q : Parser A) (lp : Local p) (lq : Local q) (takes : (i : List Token) → assigns i ≡ true → 2 + length (stop (p i)) ≤ length i) (takes' : TakesAt (λ code. code ≡ 11) sign.Identifier q) where
  look : Parser A
  look i = cond (assigns i) (p i) (q i)

  -- where the two tokens stand before the place, nothing changes
  far : (u v v' : List Token) → 2 ≤ length u → assigns (u ++ v) ≡ assigns (u ++ v')
  far [] v v' h = absurd (omega arith)
  far (t ∷ []) v v' h = absurd (omega arith)
  far (t ∷ s ∷ u) v v' h = refl

  at_identifier : (o : Outcome A) (v : List Token) → Taken (λ code. code ≡ 11) o v → stop o ≡ v → Allowed One o → ⊥
  at_identifier (Ok x) v t s a = let size : length x.1 ≡ length v = ap length s in omega arith
  at_identifier (Err f) v (inl t) s a = let size : length f.rest ≡ length v = ap length s in omega arith
  at_identifier (Err f) v (inr t) s a = a t

  no_name : (b : Bool) → cond b false false ≡ false
  no_name true = refl
  no_name false = refl

  weaken : (g : Grade) (u v v' : List Token) → (sign_at v ≡ sign_at v') ⊎ ((u ≡ []) × (v' ≡ []) × (g ≡ Ended)) → (sign_at v ≡ sign_at v') ⊎ (v' ≡ [])
  weaken g u v v' (inl k) = inl k
  weaken g u v v' (inr k) = inr k.1

  at_name : (t : Token) (v v' : List Token) → (sign_at v ≡ sign_at v') ⊎ (v' ≡ []) → assigns (t ∷ v) ≡ false → assigns (t ∷ v') ≡ false
  at_name t v v' (inl k) e = ap (λ s. cond (is_sign (sign_of t) sign.Identifier) (is_sign s sign.Assign) false) (sym k) ∙ e
  at_name t v v' (inr k) e = ap (λ w. assigns (t ∷ w)) k ∙ no_name (is_sign (sign_of t) sign.Identifier)

  at_place : (t t' : Token) (w w' : List Token) → t ≡ t' → stop (q (t ∷ w)) ≡ t ∷ w → Allowed One (q (t ∷ w)) → (b : Bool) → is_sign (sign_of t') sign.Identifier ≡ b → assigns (t' ∷ w') ≡ false
  at_place t t' w w' k s a true e = absurd (at_identifier (q (t ∷ w)) (t ∷ w) (takes' (t ∷ w) (same_sign (sign_of t) sign.Identifier (ap (λ x. is_sign (sign_of x) sign.Identifier) k ∙ e))) s a)
  at_place t t' w w' k s a false e = passed _ _ e

  -- no `:=` is new behind the token
  assigned_still : (b : Bool) (w w' : List Token) → (IsAssigned w' → IsAssigned w) → cond b (is_sign (sign_at w) sign.Assign) false ≡ false → (d : Bool) → is_sign (sign_at w') sign.Assign ≡ d → cond b (is_sign (sign_at w') sign.Assign) false ≡ false
  assigned_still false w w' k e d g = refl
  assigned_still true w w' k e false g = g
  assigned_still true w w' k e true g = absurd (let bad : true ≡ false = sym (assigned_sign w (k (sign_assigned w' g))) ∙ e in cc)

  no_new : (t t' : Token) (w w' : List Token) → t ≡ t' → (IsAssigned w' → IsAssigned w) → assigns (t ∷ w) ≡ false → assigns (t' ∷ w') ≡ false
  no_new t t' w w' same k e = ap (λ x. cond (is_sign (sign_of x) sign.Identifier) (is_sign (sign_at w') sign.Assign) false) (sym same) ∙ assigned_still (is_sign (sign_of t) sign.Identifier) w w' k e (is_sign (sign_at w') sign.Assign) refl

  unassigned : (g : Grade) (u v v' : List Token) → stop (q (u ++ v)) ≡ v → Allowed g (q (u ++ v)) → Agrees g v v' → assigns (u ++ v) ≡ false → assigns (u ++ v') ≡ false
  unassigned g (t ∷ s ∷ u) v v' z a k e = e
  unassigned g (t ∷ []) v v' z a k e = at_name t v v' (weaken g [] v v' (signs_alike g [] v v' k)) e
  unassigned Same [] v [] z a k e = refl
  unassigned Same [] [] (t ∷ w) z a k e = absurd (let size : 0 ≡ 1 = ap length k.0 in omega arith)
  unassigned Same [] (t ∷ w) (t' ∷ w') z a k e = let head : t ∷ [] ≡ t' ∷ [] = k.0 in let same : t ≡ t' = cc in no_new t t' w w' same k.1 e
  unassigned Ended [] v v' z a k e = ap assigns k
  unassigned One [] v [] z a k e = refl
  unassigned One [] [] (t ∷ w) z a k e = absurd (let size : 0 ≡ 1 = ap length k in omega arith)
  unassigned One [] (t ∷ w) (t' ∷ w') z a k e = let same : t ≡ t' = cc in at_place t t' w w' same z a (is_sign (sign_of t') sign.Identifier) refl

  look_same : (g : Grade) (i i' u v v' : List Token) (b : Bool) → assigns i ≡ b → i ≡ u ++ v → i' ≡ u ++ v' → stop (look i) ≡ v → Allowed g (look i) → Agrees g v v' → look i' ≡ moved v' (look i)
  unfolding look
  look_same g i i' u v v' true e h h' s a k =
      let c : look i ≡ p i = took (p i) (q i) e in
      let s' : stop (p i) ≡ v = ap stop (sym c) ∙ s in
      let size : length i ≡ length (u ++ v) = ap length h in
      let left : length (stop (p i)) ≡ length v = ap length s' in
      let more : 2 ≤ length u = omega (arith, takes i e, length-append u v) in
      let e' : assigns i' ≡ true = ap assigns h' ∙ sym (far u v v' more) ∙ ap assigns (sym h) ∙ e in
      took (p i') (q i') e' ∙ lp.same g i i' u v v' h h' s' (subst (Allowed g) c a) k ∙ ap (moved v') (sym c)
  look_same g i i' u v v' false e h h' s a k =
      let c : look i ≡ q i = passed (p i) (q i) e in
      let s' : stop (q i) ≡ v = ap stop (sym c) ∙ s in
      let a' : Allowed g (q i) = subst (Allowed g) c a in
      let e' : assigns i' ≡ false = ap assigns h' ∙ unassigned g u v v' (ap (λ w. stop (q w)) (sym h) ∙ s') (subst (λ w. Allowed g (q w)) h a') k (ap assigns (sym h) ∙ e) in
      passed (p i') (q i') e' ∙ lq.same g i i' u v v' h h' s' a' k ∙ ap (moved v') (sym c)

  look_cut : (i : List Token) (b : Bool) → assigns i ≡ b → (u : List Token) × (i ≡ u ++ stop (look i))
  unfolding look
  look_cut i true e = ((lp.cut i).0, (lp.cut i).1 ∙ ap (λ o. (lp.cut i).0 ++ stop o) (sym (took (p i) (q i) e)))
  look_cut i false e = ((lq.cut i).0, (lq.cut i).1 ∙ ap (λ o. (lq.cut i).0 ++ stop o) (sym (passed (p i) (q i) e)))

  pub local_look : Local (λ i. cond (assigns i) (p i) (q i))
  unfolding look
  local_look = record { cut = λ i. look_cut i (assigns i) refl; same = λ g i i' u v v' h h' s a b. look_same g i i' u v v' (assigns i) refl h h' s a b }
