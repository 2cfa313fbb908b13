-- A list that is read an item at a time is what the parser of the list answers.
use Rattle.std.proofs.Common.{◌≡◌, ℕ, zero, suc, ◌<◌, Bool, true, false, cond, Ok, Err, List, [], ◌∷◌, ◌++◌, length, refl, ap, subst, sym, ◌∙◌, arith}
use Rattle.coq_syntax.specs.declared.token.Token.{Token}
use Rattle.vernac_parser.specs.declared.sign.Sign.{Sign}
use Rattle.vernac_parser.specs.Signs.{sign_at}
use Rattle.vernac_parser.specs.declared.cursor.Halt.{Halt}
use Rattle.vernac_parser.specs.declared.cursor.Halt.TheVariants.{Refused}
use Rattle.vernac_parser.specs.Reads.{counted}
use Rattle.vernac_parser.specs.Parser.{Outcome, Parser, and_then, ◌>>=◌, pure, many, repeated}
use Rattle.vernac_parser.proofs.Answered.{chosen, passed_over}
use Rattle.vernac_parser.proofs.Taking.{Takes, Taken, Limit}

-- these items, and then the others
abbrev pub onto : {A B : Type 0} → (A → B → B) → List A → B → B
onto front [] b = b
onto front (a ∷ more) b = front a (onto front more b)

onto-append : {A B : Type 0} (front : A → B → B) (xs : List A) (x : A) (b : B) → onto front (xs ++ x ∷ []) b ≡ onto front xs (front x b)
onto-append front [] x b = refl
onto-append front (a ∷ xs) x b = ap (front a) (onto-append front xs x b)

-- an outcome behind items that were read before
abbrev pub behind : {A B : Type 0} → (A → B → B) → List A → Outcome B → Outcome B
behind front xs o = and_then o (λ b. pure (onto front xs b))

same_next : {A B : Type 0} (o : Outcome A) (i : List Token) (f g : A → Parser B) → Taken Limit o i → ((x : A) (rest : List Token) → length rest < length i → f x rest ≡ g x rest) → and_then o f ≡ and_then o g
same_next (Ok p) i f g t h = h p.0 p.1 t
same_next (Err e) i f g t h = refl

behind-append : {A B : Type 0} (front : A → B → B) (xs : List A) (x : A) (o : Outcome B) → behind front (xs ++ x ∷ []) o ≡ behind front xs (and_then o (λ b. pure (front x b)))
behind-append front xs x (Ok p) = ap (λ b. Ok (b, p.1)) (onto-append front xs x p.0)
behind-append front xs x (Err e) = refl

module _ {A B C : Type 0} (view : C → A) (test : Sign → Bool) (item : Parser A) (front : A → B → B) (none : B) where
  abbrev many_of : ℕ → Parser B
  many_of = many test item front none

  abbrev others : ℕ → A → Parser B
  others n = λ x. many_of n >>= (λ xs. pure (front x xs))

  -- an outcome that is refused is so whatever follows
  passed_on : (o : Outcome A) (found : List C) (n : ℕ) (e : Halt) → counted o ≡ Err e → counted (behind (λ d. front (view d)) found (and_then o (others n))) ≡ Err e
  passed_on (Ok p) found n e is = absurd (cc)
  passed_on (Err f) found n e is = let same : Refused f.code (length f.rest) ≡ e = cc in ap (λ h. Err h) same

  both : (m n : ℕ) (i : List Token) → ((rest : List Token) → length rest < length i → many_of m rest ≡ many_of n rest) → Takes test item → (b : Bool) → test (sign_at i) ≡ b
      → cond b (and_then (item i) (others m)) (Ok (none, i)) ≡ cond b (and_then (item i) (others n)) (Ok (none, i))
  both m n i ih takes true is = same_next (item i) i (others m) (others n) (takes (sign_at i) is i refl) (λ x rest size. ap (λ o. and_then o (λ xs. pure (front x xs))) (ih rest size))
  both m n i ih takes false is = refl

  -- where there are more turns than tokens it doesn't matter how many
  enough : Takes test item → (m n : ℕ) (i : List Token) → length i < m → length i < n → many_of m i ≡ many_of n i
  unfolding many
  enough takes zero n i h k = absurd (omega arith)
  enough takes (suc m) zero i h k = absurd (omega arith)
  enough takes (suc m) (suc n) i h k = both m n i (λ rest size. enough takes m n rest (omega arith) (omega arith)) takes (test (sign_at i)) refl

  -- an item takes a token
  pub smaller : Takes test item → (c : C) (i rest : List Token) → test (sign_at i) ≡ true → item i ≡ Ok (view c, rest) → length rest < length i
  smaller takes c i rest begins is = subst (λ o. Taken Limit o i) is (takes (sign_at i) begins i refl)

  -- an item more
  pub more : Takes test item → (found : List C) (c : C) (i rest : List Token) → test (sign_at i) ≡ true → item i ≡ Ok (view c, rest)
      → behind (λ d. front (view d)) (found ++ c ∷ []) (repeated test item front none rest) ≡ behind (λ d. front (view d)) found (repeated test item front none i)
  unfolding many
  more takes found c i rest begins is =
      let s : length rest < length i = smaller takes c i rest begins is in
      let turned : repeated test item front none i ≡ and_then (repeated test item front none rest) (λ xs. pure (front (view c) xs)) =
      chosen test (item >>= others (length i)) (pure none) i begins
      ∙ ap (λ o. and_then o (others (length i))) is
      ∙ ap (λ o. and_then o (λ xs. pure (front (view c) xs))) (enough takes (length i) (suc (length rest)) rest (omega arith) (omega arith)) in
      behind-append (λ d. front (view d)) found c (repeated test item front none rest)
      ∙ ap (λ o. behind (λ d. front (view d)) found o) (sym turned)

  -- no item more
  pub done : (found : List C) (i : List Token) → test (sign_at i) ≡ false
      → behind (λ d. front (view d)) found (repeated test item front none i) ≡ Ok (onto (λ d. front (view d)) found none, i)
  unfolding many
  done found i ends = ap (λ o. behind (λ d. front (view d)) found o) (passed_over test (item >>= others (length i)) (pure none) i ends)

  -- a refusal in an item
  pub failed : (found : List C) (i : List Token) (e : Halt) → test (sign_at i) ≡ true → counted (item i) ≡ Err e
      → counted (behind (λ d. front (view d)) found (repeated test item front none i)) ≡ Err e
  unfolding many
  failed found i e begins is =
      ap (λ o. counted (behind (λ d. front (view d)) found o)) (chosen test (item >>= others (length i)) (pure none) i begins) ∙ passed_on (item i) found (length i) e is
