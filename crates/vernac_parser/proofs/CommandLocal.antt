-- What a row of commands answers at a token doesn't depend on what stands behind; so no command goes on there.
use Rattle.std.proofs.Common.{◌≡◌, ℕ, ◌⊎◌, inl, inr, Bool, true, false, cond, Option, None, Some, Ok, Err, List, [], ◌∷◌, ◌++◌, length, take as front, refl, sym, ◌∙◌, ap, subst, arith}
use Rattle.coq_syntax.specs.declared.token.Token.{Token}
use Rattle.coq_syntax.specs.declared.words.TokenPlace.{TokenPlace}
use Rattle.coq_syntax.specs.declared.command.AssumptionWord.TheVariants as assumption
use Rattle.coq_syntax.specs.declared.command.StatementWord.TheVariants as statement
use Rattle.coq_syntax.specs.Trees.{Term}
use Rattle.coq_syntax.specs.CommandTrees.{Constructor, Command, Assume, Define, State, Inductive, Check, Proof, Qed, Defined, Admitted, Aborted}
use Rattle.vernac_parser.specs.declared.sign.Sign.TheVariants as sign
use Rattle.coq_syntax.specs.declared.command_words.CommandWord.{CommandWord}
use Rattle.coq_syntax.specs.declared.command_words.CommandWord.TheVariants as word
use Rattle.vernac_parser.specs.Signs.{is_sign, sign_of, sign_at}
use Rattle.vernac_parser.specs.Parser.{Outcome, Parser, and_then, ◌>>=◌, pure, unexpected, place_of, word_of, take, identifier, repeated}
use Rattle.vernac_parser.specs.Parse.{Rule, Whole, Checks, nested, groups, annotation}
use Rattle.coq_syntax.specs.CommandWords.{word_of_text, word_at}
use Rattle.vernac_parser.specs.ParseCommand.{keyword, begins_constructor, with_constructor, assume, define, state, constructor, barred, first_constructor, constructors, inductive, check, by_word, row}
use Rattle.vernac_parser.proofs.SignLaws.{same_sign, identifier_by_kind}
use Rattle.vernac_parser.proofs.Local.{stop, moved, Grade, Same, One, Ended, Agrees, Allowed, Local, local_pure, local_refuse, local_bind, local_choose, local_taken}
use Rattle.vernac_parser.proofs.Taking.{Taken, Limit, Takes, moves, takes_bind, takes_first, takes_second, local_repeated}
use Rattle.vernac_parser.proofs.LocalRules.{takes_sign, only, local_when, local_nested, identifier_nested, local_groups, local_annotation}

module _ (c : Checks) (n : ℕ) where
  abbrev inner : Rule → Parser Term
  inner = nested c n

  whole : Local (inner Whole)
  whole = local_nested c n Whole

  some_groups : Local (groups c inner)
  some_groups = local_groups c inner (local_nested c n) (identifier_nested c n)

  an_annotation : Local (annotation c inner)
  an_annotation = local_annotation c inner (local_nested c n) (identifier_nested c n)

  behind_bar : (b : Option TokenPlace) → Local (constructor c inner b)
  unfolding constructor
  behind_bar b = local_bind _ _ (local_taken word_of sign.Identifier) (λ x. local_bind _ _ some_groups (λ gs. local_bind _ _ an_annotation (λ a. local_pure _)))

  local_barred : Local (barred c inner)
  unfolding barred
  local_barred = local_bind _ _ (local_taken place_of sign.Bar) (λ p. behind_bar (Some p))

  takes_barred : Takes (λ s. is_sign s sign.Bar) (barred c inner)
  unfolding barred
  takes_barred = only sign.Bar _ (takes_sign Limit place_of sign.Bar _ refl (λ p. behind_bar (Some p)))

  local_first : Local (first_constructor c inner)
  unfolding first_constructor barred
  local_first = local_when place_of sign.Bar _ _ refl (λ p. behind_bar (Some p)) (behind_bar None)

  takes_first_constructor : Takes begins_constructor (first_constructor c inner)
  unfolding first_constructor barred constructor
  takes_first_constructor sign.Bar e = takes_first Limit sign.Bar (λ t. is_sign t sign.Bar) _ _ refl (takes_sign Limit place_of sign.Bar _ refl (λ p. behind_bar (Some p)))
  takes_first_constructor sign.Identifier e = takes_second Limit sign.Identifier (λ t. is_sign t sign.Bar) _ _ refl (takes_sign Limit word_of sign.Identifier _ refl (λ x. local_bind _ _ some_groups (λ gs. local_bind _ _ an_annotation (λ a. local_pure _))))
  takes_first_constructor _ e = absurd (let bad : false ≡ true = e in cc)

  others : (x : Constructor) → Local (repeated (λ s. is_sign s sign.Bar) (barred c inner) with_constructor [] >>= (λ cs. pure (x ∷ cs)))
  others x = local_bind _ _ (local_repeated (λ s. is_sign s sign.Bar) (barred c inner) with_constructor [] refl takes_barred local_barred) (λ cs. local_pure _)

  local_constructors : Local (constructors c inner)
  unfolding constructors
  local_constructors =
      local_choose begins_constructor _ _ refl (moves begins_constructor _ (λ s e. takes_bind Limit s (first_constructor c inner) _ (takes_first_constructor s e) others))
      (local_bind _ _ local_first others) (local_pure _)

  -- what stands behind the word of a command
  abbrev pub behind : CommandWord → TokenPlace → Parser Command
  behind word.Axiom p = identifier >>= (λ x. take sign.Colon >>= (λ q. inner Whole >>= (λ t. pure (Assume assumption.Axiom p x q t))))
  behind word.Parameter p = identifier >>= (λ x. take sign.Colon >>= (λ q. inner Whole >>= (λ t. pure (Assume assumption.Parameter p x q t))))
  behind word.Definition p = identifier >>= (λ x. groups c inner >>= (λ gs. annotation c inner >>= (λ a. take sign.Assign >>= (λ q. inner Whole >>= (λ t. pure (Define p x gs a q t))))))
  behind word.Theorem p = identifier >>= (λ x. groups c inner >>= (λ gs. take sign.Colon >>= (λ q. inner Whole >>= (λ t. pure (State statement.Theorem p x gs q t)))))
  behind word.Lemma p = identifier >>= (λ x. groups c inner >>= (λ gs. take sign.Colon >>= (λ q. inner Whole >>= (λ t. pure (State statement.Lemma p x gs q t)))))
  behind word.Inductive p = identifier >>= (λ x. groups c inner >>= (λ gs. take sign.Colon >>= (λ q. inner Whole >>= (λ t. take sign.Assign >>= (λ r. constructors c inner >>= (λ cs. pure (Inductive p x gs q t r cs)))))))
  behind word.Check p = inner Whole >>= (λ t. pure (Check p t))
  behind word.Proof p = pure (Proof p)
  behind word.Qed p = pure (Qed p)
  behind word.Defined p = pure (Defined p)
  behind word.Admitted p = pure (Admitted p)
  behind word.Abort p = pure (Aborted p)

  pub word_behind : (w : CommandWord) (i : List Token) → by_word c inner (Some w) i ≡ and_then (keyword i) (behind w)
  unfolding assume define state inductive check
  word_behind word.Axiom i = refl
  word_behind word.Parameter i = refl
  word_behind word.Definition i = refl
  word_behind word.Theorem i = refl
  word_behind word.Lemma i = refl
  word_behind word.Inductive i = refl
  word_behind word.Check i = refl
  word_behind word.Proof i = refl
  word_behind word.Qed i = refl
  word_behind word.Defined i = refl
  word_behind word.Admitted i = refl
  word_behind word.Abort i = refl

  local_behind : (w : CommandWord) (p : TokenPlace) → Local (behind w p)
  local_behind word.Axiom p = local_bind _ _ (local_taken word_of sign.Identifier) (λ x. local_bind _ _ (local_taken place_of sign.Colon) (λ q. local_bind _ _ whole (λ t. local_pure _)))
  local_behind word.Parameter p = local_bind _ _ (local_taken word_of sign.Identifier) (λ x. local_bind _ _ (local_taken place_of sign.Colon) (λ q. local_bind _ _ whole (λ t. local_pure _)))
  local_behind word.Definition p = local_bind _ _ (local_taken word_of sign.Identifier) (λ x. local_bind _ _ some_groups (λ gs. local_bind _ _ an_annotation (λ a. local_bind _ _ (local_taken place_of sign.Assign) (λ q. local_bind _ _ whole (λ t. local_pure _)))))
  local_behind word.Theorem p = local_bind _ _ (local_taken word_of sign.Identifier) (λ x. local_bind _ _ some_groups (λ gs. local_bind _ _ (local_taken place_of sign.Colon) (λ q. local_bind _ _ whole (λ t. local_pure _))))
  local_behind word.Lemma p = local_bind _ _ (local_taken word_of sign.Identifier) (λ x. local_bind _ _ some_groups (λ gs. local_bind _ _ (local_taken place_of sign.Colon) (λ q. local_bind _ _ whole (λ t. local_pure _))))
  local_behind word.Inductive p = local_bind _ _ (local_taken word_of sign.Identifier) (λ x. local_bind _ _ some_groups (λ gs. local_bind _ _ (local_taken place_of sign.Colon) (λ q. local_bind _ _ whole (λ t. local_bind _ _ (local_taken place_of sign.Assign) (λ r. local_bind _ _ local_constructors (λ cs. local_pure _))))))
  local_behind word.Check p = local_bind _ _ whole (λ t. local_pure _)
  local_behind word.Proof p = local_pure _
  local_behind word.Qed p = local_pure _
  local_behind word.Defined p = local_pure _
  local_behind word.Admitted p = local_pure _
  local_behind word.Abort p = local_pure _

  -- a row by its word
  abbrev word_row : CommandWord → Parser Command
  word_row w = keyword >>= behind w

  local_word : (w : CommandWord) → Local (word_row w)
  local_word w = local_bind _ _ (local_taken place_of sign.Identifier) (local_behind w)

  sign_of_word : (t : Token) (b : Bool) (o : Option CommandWord) (w : CommandWord) → is_sign (sign_of t) sign.Identifier ≡ b → cond b o None ≡ Some w → sign_of t ≡ sign.Identifier
  sign_of_word t true o w e k = same_sign (sign_of t) sign.Identifier e
  sign_of_word t false o w e k = absurd (cc)

  sign_at_word : (i : List Token) (w : CommandWord) → word_at i ≡ Some w → sign_at i ≡ sign.Identifier
  sign_at_word [] w e = absurd (cc)
  sign_at_word (t ∷ rest) w e =
      sign_of_word t (is_sign (sign_of t) sign.Identifier) (word_of_text t.text) w refl (ap (λ b. cond b (word_of_text t.text) None) (sym (identifier_by_kind t)) ∙ e)

  moves_on : (w : CommandWord) (i : List Token) → word_at i ≡ Some w → stop (word_row w i) ≡ i → ⊥
  moves_on w i e s = by (word_row w i) (takes_sign (λ _. ⊥) place_of sign.Identifier (behind w) refl (local_behind w) i (sign_at_word i w e)) s
    where
      by : (o : Outcome Command) → Taken (λ _. ⊥) o i → stop o ≡ i → ⊥
      by (Ok p) h s = let size : length p.1 ≡ length i = ap length s in omega arith
      by (Err f) (inl h) s = let size : length f.rest ≡ length i = ap length s in omega arith
      by (Err f) (inr h) s = h

word_of_one : (v : List Token) → word_at (front 1 v) ≡ word_at v
word_of_one [] = refl
word_of_one (t ∷ w) = refl

words_alike : (g : Grade) (u v v' : List Token) → Agrees g v v' → (word_at (u ++ v) ≡ word_at (u ++ v')) ⊎ ((u ≡ []) × (v' ≡ []))
words_alike g (t ∷ u) v v' a = inl refl
words_alike Same [] v v' a = inl (sym (word_of_one v) ∙ ap word_at a.0 ∙ word_of_one v')
words_alike One [] v v' a = inl (sym (word_of_one v) ∙ ap word_at a ∙ word_of_one v')
words_alike Ended [] v v' a = inr (refl, a)

module _ (c : Checks) (n : ℕ) where
  abbrev by_first : Option CommandWord → Parser Command
  by_first o = by_word c (nested c n) o

  row_cut : (i : List Token) (o : Option CommandWord) → (u : List Token) × (i ≡ u ++ stop (by_first o i))
  row_cut i None = ([], refl)
  row_cut i (Some w) = let l : Local (word_row c n w) = local_word c n w in ((l.cut i).0, (l.cut i).1 ∙ ap (λ x. (l.cut i).0 ++ stop x) (sym (word_behind c n w i)))

  still : (i i' u v v' : List Token) (w : CommandWord) → i ≡ u ++ v → i' ≡ u ++ v' → word_at i ≡ Some w → stop (word_row c n w i) ≡ v → (word_at (u ++ v) ≡ word_at (u ++ v')) ⊎ ((u ≡ []) × (v' ≡ [])) → word_at i' ≡ Some w
  still i i' u v v' w h h' e s (inl k) = ap word_at h' ∙ sym k ∙ ap word_at (sym h) ∙ e
  still i i' u v v' w h h' e s (inr k) = absurd (moves_on c n w i e (s ∙ ap (λ x. x ++ v) (sym k.0) ∙ sym h))

  none_still : (i i' u v v' : List Token) → i ≡ u ++ v → i' ≡ u ++ v' → word_at i ≡ None → (word_at (u ++ v) ≡ word_at (u ++ v')) ⊎ ((u ≡ []) × (v' ≡ [])) → word_at i' ≡ None
  none_still i i' u v v' h h' e (inl k) = ap word_at h' ∙ sym k ∙ ap word_at (sym h) ∙ e
  none_still i i' u v v' h h' e (inr k) = ap word_at (h' ∙ ap (λ x. x ++ v') k.0 ∙ k.1)

  row_same : (g : Grade) (i i' u v v' : List Token) (o : Option CommandWord) → word_at i ≡ o → i ≡ u ++ v → i' ≡ u ++ v' → stop (by_first o i) ≡ v → Allowed g (by_first o i) → Agrees g v v' → by_first (word_at i') i' ≡ moved v' (by_first o i)
  row_same g i i' u v v' None e h h' s a b =
      ap (λ o. by_first o i') (none_still i i' u v v' h h' e (words_alike g u v v' b))
      ∙ (local_refuse {A = Command} unexpected).same g i i' u v v' h h' s a b
  row_same g i i' u v v' (Some w) e h h' s a b =
      let c' : by_first (Some w) i ≡ word_row c n w i = word_behind c n w i in
      let s' : stop (word_row c n w i) ≡ v = ap stop (sym c') ∙ s in
      ap (λ o. by_first o i') (still i i' u v v' w h h' e s' (words_alike g u v v' b))
      ∙ word_behind c n w i'
      ∙ (local_word c n w).same g i i' u v v' h h' s' (subst (Allowed g) c' a) b
      ∙ ap (moved v') (sym c')

  pub local_row : Local (row c (nested c n))
  unfolding row
  local_row = record { cut = λ i. row_cut i (word_at i); same = λ g i i' u v v' h h' s a b. row_same g i i' u v v' (word_at i) refl h h' s a b }
