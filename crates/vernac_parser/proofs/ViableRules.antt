-- What was read before a refusal begins a tree: binders, open forms, operators, and the rules one level down.
use Rattle.std.proofs.Common.{◌≡◌, ℕ, suc, ◌==◌, ◌≤◌, inl, inr, true, false, cond, None, Ok, Err, List, [], ◌∷◌, ◌++◌, codes, length, refl, sym, ◌∙◌, ap, subst, arith, append_assoc}
use Rattle.coq_syntax.specs.declared.token.Token.{Token}
use Rattle.coq_syntax.specs.declared.words.BoundName.TheVariants.{Named}
use Rattle.coq_syntax.specs.Trees.{Term, Forall, Fun, Let, Arrow, Or, And, Not, Equal, Names, Groups, GroupList, NoGroup, Untyped, Typed}
use Rattle.coq_syntax.specs.Spelled as spelled
use Rattle.coq_syntax.specs.Spelled.{spells, symbol, reserved}
use Rattle.coq_syntax.specs.Limits.{open_level}
use Rattle.coq_syntax.specs.Grammar.{level, IsClosed, AreGroups}
use Rattle.coq_syntax.specs.Faults.{first, nested as nested_fault, fault, groups_fault}
use Rattle.vernac_parser.specs.declared.sign.Sign.TheVariants as sign
use Rattle.vernac_parser.specs.Signs.{is_sign, sign_at, begins_open}
use Rattle.vernac_parser.specs.Parser.{Outcome, Parser, and_then, ◌>>=◌, pure, many}
use Rattle.vernac_parser.specs.Parse.{Rule, Whole, Right85, Right80, Right75, standard, binder_name, names, OneGroup, with_group, application, group, groups, binders, annotation, forall_form, fun_form, let_form, equal_behind, t70, operand, t75, and_behind, t80, or_behind, t85, arrow_behind, t99, open_form, term, by_rule}
use Rattle.coq_syntax.specs.Refusals.{IsBehind}
use Rattle.vernac_parser.proofs.Answered.{took, passed}
use Rattle.vernac_parser.proofs.Tower.{not_the_open_level}
use Rattle.vernac_parser.proofs.Viable.{Read, Answers, Viable, behind_first, behind_none, behind_nested, none_first, first_none, answer_pure, answer_mark, answer_part, answer_last, answer_if, viable_many, answer_as}
use Rattle.vernac_parser.proofs.Shapes.{spare, x_word, x_term, x_token, Ends, ClosedOrEnds, Behind, most, Tight, By, Down, Open, Operand, OneName, SomeNames, one_group, AGroup, MoreGroups, SomeBinders, AnAnnotation}
use Rattle.vernac_parser.proofs.ViableAtoms.{viable_name, viable_names, viable_application}

-- where a rule may begin: a whole term anywhere, an operand where no open form does
abbrev pub Begins : Rule → List Token → Type 0
Begins Whole i = Unit {0}
Begins Right85 i = begins_open (sign_at i) ≡ false
Begins Right80 i = begins_open (sign_at i) ≡ false
Begins Right75 i = begins_open (sign_at i) ≡ false

closed_low : (t : Term) → level t ≤ 70 → IsClosed t
closed_low (Forall p bs q b) l = absurd (omega arith)
closed_low (Fun p bs q b) l = absurd (omega arith)
closed_low (Let p x a q v r b) l = absurd (omega arith)
closed_low (Arrow a p b) l = absurd (omega arith)
closed_low (Or a p b) l = absurd (omega arith)
closed_low (And a p b) l = absurd (omega arith)
closed_low (Not p a) l = absurd (omega arith)
closed_low _ l = tt

-- an operator follows, so the operand before it is closed
closed_and : (t : Term) (rest : List Token) → ClosedOrEnds t rest → is_sign (sign_at rest) sign.And ≡ true → IsClosed t
closed_and t rest (inl c) e = c
closed_and t rest (inr ends) e = absurd (let bad : false ≡ true = sym ends.0 ∙ e in cc)

closed_or : (t : Term) (rest : List Token) → ClosedOrEnds t rest → is_sign (sign_at rest) sign.Or ≡ true → IsClosed t
closed_or t rest (inl c) e = c
closed_or t rest (inr ends) e = absurd (let bad : false ≡ true = sym ends.1 ∙ e in cc)

closed_arrow : (t : Term) (rest : List Token) → ClosedOrEnds t rest → is_sign (sign_at rest) sign.Arrow ≡ true → IsClosed t
closed_arrow t rest (inl c) e = c
closed_arrow t rest (inr ends) e = absurd (let bad : false ≡ true = sym ends.2 ∙ e in cc)

joined : {A B C : Type 0} (o : Outcome A) (k : A → Parser B) (f : B → Parser C) → and_then (and_then o k) f ≡ and_then o (λ x r. and_then (k x r) f)
joined (Ok p) k f = refl
joined (Err e) k f = refl

-- the fault of `x` one level down stands at it
x_behind : (n k : ℕ) (start : List Token) → length start ≤ k → IsBehind k (nested_fault n (λ m. None) start)
x_behind n k start l = behind_nested k n (λ m. None) start l (λ m. tt)

module _ (n : ℕ) (inner : Rule → Parser Term) (down : (rule : Rule) (i : List Token) → Begins rule i → Answers (Down rule n) i (inner rule i)) where
  whole : Viable (Down Whole n) (inner Whole)
  whole i = down Whole i tt

  viable_group : Viable (AGroup n) (group standard inner)
  unfolding group
  viable_group i =
      answer_mark (AGroup n) i sign.Open _ [] i (symbol (codes "(") spare ∷ x_token ∷ symbol (codes ":") spare ∷ x_token ∷ symbol (codes ")") spare ∷ []) (record { opening = spare; names = Named x_word ∷ []; colon = spare; ty = x_term; closing = spare }) refl refl (tt, tt, tt) (λ tail. refl) (λ tail. behind_first _ _ _ (x_behind n _ _ (omega arith)) tt)
      (λ p rest h. answer_part (AGroup n) i SomeNames (names rest) _ (symbol (codes "(") p ∷ []) rest (symbol (codes ":") spare ∷ x_token ∷ symbol (codes ")") spare ∷ []) (λ ns. record { opening = p; names = ns; colon = spare; ty = x_term; closing = spare }) h (viable_names rest) (λ ns g. (g, tt, tt)) (λ ns tail. refl) (λ ns tail. (_, refl, behind_first _ _ _ (x_behind n _ _ (omega arith)) tt))
      (λ ns rest2 rn h2. answer_mark (AGroup n) i sign.Colon _ (symbol (codes "(") p ∷ rn.word) rest2 (symbol (codes ":") spare ∷ x_token ∷ symbol (codes ")") spare ∷ []) (record { opening = p; names = ns; colon = spare; ty = x_term; closing = spare }) refl h2 (rn.fits, tt, tt) (λ tail. simp rn.spelled) (λ tail. behind_first _ _ _ (x_behind n _ _ (omega arith)) tt)
      (λ q rest3 h3. answer_part (AGroup n) i (Down Whole n) (inner Whole rest3) _ (symbol (codes "(") p ∷ (rn.word ++ symbol (codes ":") q ∷ [])) rest3 (symbol (codes ")") spare ∷ []) (λ t. record { opening = p; names = ns; colon = q; ty = t; closing = spare }) h3 (whole rest3) (λ t g. (rn.fits, g.0, tt)) (λ t tail. simp (rn.spelled, append_assoc)) (λ t tail. (None, refl, tt))
      (λ t rest4 rt h4. answer_mark (AGroup n) i sign.Close _ ((symbol (codes "(") p ∷ (rn.word ++ symbol (codes ":") q ∷ [])) ++ rt.word) rest4 (symbol (codes ")") spare ∷ []) (record { opening = p; names = ns; colon = q; ty = t; closing = spare }) refl h4 (rn.fits, rt.fits.0, tt) (λ tail. simp (rn.spelled, rt.spelled, append_assoc)) (λ tail. behind_none _ _ (none_first _ _ (rt.sound _) refl))
      (λ r rest5 h5. answer_pure (AGroup n) i (((symbol (codes "(") p ∷ (rn.word ++ symbol (codes ":") q ∷ [])) ++ rt.word) ++ symbol (codes ")") r ∷ []) rest5 (record { opening = p; names = ns; colon = q; ty = t; closing = r }) h5 (rn.fits, rt.fits.0, tt) (λ tail. simp (rn.spelled, rt.spelled, append_assoc)) (λ tail. none_first _ _ (rt.sound _) refl) tt)))))

  good_groups : (g : OneGroup) (gs : GroupList) → AreGroups (one_group g) → AreGroups gs → AreGroups (with_group g gs)
  good_groups g gs h k = (h.0, h.1, k)

  group_fault : (g : OneGroup) (gs : GroupList) (tail : List Token) → groups_fault (with_group g gs) n tail ≡ first (groups_fault (one_group g) n (spelled.groups gs tail)) (groups_fault gs n tail)
  group_fault g gs tail = ap (λ f. first f (groups_fault gs n tail)) (sym (first_none _))

  viable_more_groups : (turns : ℕ) → Viable (MoreGroups n) (many (λ s. is_sign s sign.Open) (group standard inner) with_group NoGroup turns)
  viable_more_groups = viable_many (AGroup n) (MoreGroups n) (λ s. is_sign s sign.Open) (group standard inner) with_group NoGroup viable_group tt (λ tail. refl) (λ tail. refl) good_groups (λ g gs tail. refl) group_fault (λ rest _. tt) (λ g gs rest _. tt)

  pub viable_groups : Viable (MoreGroups n) (groups standard inner)
  unfolding groups
  viable_groups i = viable_more_groups (suc (length i)) i

  -- at least one group
  viable_some_groups : (i : List Token) → is_sign (sign_at i) sign.Open ≡ true → Answers (SomeBinders n) i (and_then (groups standard inner i) (λ gs. pure (Groups gs)))
  unfolding groups many
  viable_some_groups i e =
      subst (λ o. Answers (SomeBinders n) i (and_then o (λ gs. pure (Groups gs)))) (sym (took (and_then (group standard inner i) (λ g. many (λ s. is_sign s sign.Open) (group standard inner) with_group NoGroup (length i) >>= (λ gs. pure (with_group g gs)))) (pure NoGroup i) e))
      (subst (Answers (SomeBinders n) i) (sym (joined (group standard inner i) (λ g. many (λ s. is_sign s sign.Open) (group standard inner) with_group NoGroup (length i) >>= (λ gs. pure (with_group g gs))) (λ gs. pure (Groups gs))))
      (answer_part (SomeBinders n) i (AGroup n) (group standard inner i) _ [] i [] (λ g. Groups (one_group g)) refl (viable_group i) (λ g h. (tt, h)) (λ g tail. refl) (λ g tail. (None, sym (first_none _), tt))
      (λ g rest r h. subst (Answers (SomeBinders n) i) (sym (joined (many (λ s. is_sign s sign.Open) (group standard inner) with_group NoGroup (length i) rest) (λ gs. pure (with_group g gs)) (λ gs. pure (Groups gs))))
      (answer_last (SomeBinders n) i (MoreGroups n) (many (λ s. is_sign s sign.Open) (group standard inner) with_group NoGroup (length i) rest) r.word rest (λ gs. Groups (with_group g gs)) h (viable_more_groups (length i) rest) (λ gs k. (tt, good_groups g gs r.fits k)) (λ gs tail. r.spelled (spelled.groups gs tail)) (λ gs tail. group_fault g gs tail ∙ ap (λ f. first f (groups_fault gs n tail)) (r.sound (spelled.groups gs tail))) (λ gs rest' _ _. tt)))))

  viable_binders : Viable (SomeBinders n) (binders standard inner)
  unfolding binders
  viable_binders i = answer_if (SomeBinders n) i (is_sign (sign_at i) sign.Open) _ _
      (λ e. viable_some_groups i e)
      (λ _. answer_part (SomeBinders n) i SomeNames (names i) _ [] i (symbol (codes ":") spare ∷ x_token ∷ []) (λ ns. Names ns spare x_term) refl (viable_names i) (λ ns g. (g, tt)) (λ ns tail. refl) (λ ns tail. (_, refl, x_behind n _ _ (omega arith)))
      (λ ns rest rn h. answer_mark (SomeBinders n) i sign.Colon _ rn.word rest (symbol (codes ":") spare ∷ x_token ∷ []) (Names ns spare x_term) refl h (rn.fits, tt) (λ tail. rn.spelled _) (λ tail. x_behind n _ _ (omega arith))
      (λ q rest2 h2. answer_last (SomeBinders n) i (Down Whole n) (inner Whole rest2) (rn.word ++ symbol (codes ":") q ∷ []) rest2 (λ t. Names ns q t) h2 (whole rest2) (λ t g. (rn.fits, g.0)) (λ t tail. simp (rn.spelled, append_assoc)) (λ t tail. refl) (λ t rest' _ _. tt))))

  pub viable_annotation : Viable (AnAnnotation n) (annotation standard inner)
  unfolding annotation
  viable_annotation i = answer_if (AnAnnotation n) i (is_sign (sign_at i) sign.Colon) _ _
      (λ _. answer_mark (AnAnnotation n) i sign.Colon _ [] i [] Untyped refl refl tt (λ tail. refl) (λ tail. tt)
      (λ p rest h. answer_last (AnAnnotation n) i (Down Whole n) (inner Whole rest) (symbol (codes ":") p ∷ []) rest (λ t. Typed p t) h (whole rest) (λ t g. g.0) (λ t tail. refl) (λ t tail. refl) (λ t rest' _ _. tt)))
      (λ _. answer_pure (AnAnnotation n) i [] i Untyped refl tt (λ tail. refl) (λ tail. refl) tt)

  viable_forall : Viable (Open n) (forall_form standard inner)
  unfolding forall_form
  viable_forall i =
      answer_mark (Open n) i sign.Forall _ [] i (reserved (codes "forall") spare ∷ x_token ∷ symbol (codes ":") spare ∷ x_token ∷ symbol (codes ",") spare ∷ x_token ∷ []) (Forall spare (Names (Named x_word ∷ []) spare x_term) spare x_term) refl refl (((tt, tt), tt), refl) (λ tail. refl) (λ tail. behind_first _ _ _ (x_behind n _ _ (omega arith)) (x_behind n _ _ (omega arith)))
      (λ p rest h. answer_part (Open n) i (SomeBinders n) (binders standard inner rest) _ (reserved (codes "forall") p ∷ []) rest (symbol (codes ",") spare ∷ x_token ∷ []) (λ bs. Forall p bs spare x_term) h (viable_binders rest) (λ bs g. ((g, tt), refl)) (λ bs tail. refl) (λ bs tail. (_, refl, x_behind n _ _ (omega arith)))
      (λ bs rest2 rb h2. answer_mark (Open n) i sign.Comma _ (reserved (codes "forall") p ∷ rb.word) rest2 (symbol (codes ",") spare ∷ x_token ∷ []) (Forall p bs spare x_term) refl h2 ((rb.fits, tt), refl) (λ tail. simp rb.spelled) (λ tail. behind_first _ _ _ (behind_none _ _ (rb.sound _)) (x_behind n _ _ (omega arith)))
      (λ q rest3 h3. answer_last (Open n) i (Down Whole n) (inner Whole rest3) (reserved (codes "forall") p ∷ (rb.word ++ symbol (codes ",") q ∷ [])) rest3 (λ b. Forall p bs q b) h3 (whole rest3) (λ b g. ((rb.fits, g.0), refl)) (λ b tail. simp (rb.spelled, append_assoc)) (λ b tail. ap (λ f. first f (nested_fault n (λ m. fault b m tail) (spells b tail))) (rb.sound (symbol (codes ",") q ∷ spells b tail))) (λ b rest' _ e. e))))

  viable_fun : Viable (Open n) (fun_form standard inner)
  unfolding fun_form
  viable_fun i =
      answer_mark (Open n) i sign.Fun _ [] i (reserved (codes "fun") spare ∷ x_token ∷ symbol (codes ":") spare ∷ x_token ∷ symbol (codes "=>") spare ∷ x_token ∷ []) (Fun spare (Names (Named x_word ∷ []) spare x_term) spare x_term) refl refl (((tt, tt), tt), refl) (λ tail. refl) (λ tail. behind_first _ _ _ (x_behind n _ _ (omega arith)) (x_behind n _ _ (omega arith)))
      (λ p rest h. answer_part (Open n) i (SomeBinders n) (binders standard inner rest) _ (reserved (codes "fun") p ∷ []) rest (symbol (codes "=>") spare ∷ x_token ∷ []) (λ bs. Fun p bs spare x_term) h (viable_binders rest) (λ bs g. ((g, tt), refl)) (λ bs tail. refl) (λ bs tail. (_, refl, x_behind n _ _ (omega arith)))
      (λ bs rest2 rb h2. answer_mark (Open n) i sign.Yields _ (reserved (codes "fun") p ∷ rb.word) rest2 (symbol (codes "=>") spare ∷ x_token ∷ []) (Fun p bs spare x_term) refl h2 ((rb.fits, tt), refl) (λ tail. simp rb.spelled) (λ tail. behind_first _ _ _ (behind_none _ _ (rb.sound _)) (x_behind n _ _ (omega arith)))
      (λ q rest3 h3. answer_last (Open n) i (Down Whole n) (inner Whole rest3) (reserved (codes "fun") p ∷ (rb.word ++ symbol (codes "=>") q ∷ [])) rest3 (λ b. Fun p bs q b) h3 (whole rest3) (λ b g. ((rb.fits, g.0), refl)) (λ b tail. simp (rb.spelled, append_assoc)) (λ b tail. ap (λ f. first f (nested_fault n (λ m. fault b m tail) (spells b tail))) (rb.sound (symbol (codes "=>") q ∷ spells b tail))) (λ b rest' _ e. e))))

  viable_let : Viable (Open n) (let_form standard inner)
  unfolding let_form
  viable_let i =
      answer_mark (Open n) i sign.Let _ [] i (reserved (codes "let") spare ∷ x_token ∷ symbol (codes ":=") spare ∷ x_token ∷ reserved (codes "in") spare ∷ x_token ∷ []) (Let spare (Named x_word) Untyped spare x_term spare x_term) refl refl ((tt, tt, tt), refl) (λ tail. refl) (λ tail. behind_first _ _ _ (x_behind n _ _ (omega arith)) (x_behind n _ _ (omega arith)))
      (λ p rest h. answer_part (Open n) i OneName (binder_name rest) _ (reserved (codes "let") p ∷ []) rest (symbol (codes ":=") spare ∷ x_token ∷ reserved (codes "in") spare ∷ x_token ∷ []) (λ x. Let p x Untyped spare x_term spare x_term) h (viable_name rest) (λ x g. ((tt, tt, tt), refl)) (λ x tail. refl) (λ x tail. (_, refl, behind_first _ _ _ (x_behind n _ _ (omega arith)) (x_behind n _ _ (omega arith))))
      (λ x rest2 rx h2. answer_part (Open n) i (AnAnnotation n) (annotation standard inner rest2) _ (reserved (codes "let") p ∷ rx.word) rest2 (symbol (codes ":=") spare ∷ x_token ∷ reserved (codes "in") spare ∷ x_token ∷ []) (λ a. Let p x a spare x_term spare x_term) h2 (viable_annotation rest2) (λ a g. ((g, tt, tt), refl)) (λ a tail. ap (λ w. reserved (codes "let") p ∷ w) (rx.spelled _)) (λ a tail. (_, refl, behind_first _ _ _ (x_behind n _ _ (omega arith)) (x_behind n _ _ (omega arith))))
      (λ a rest3 ra h3. answer_mark (Open n) i sign.Assign _ ((reserved (codes "let") p ∷ rx.word) ++ ra.word) rest3 (symbol (codes ":=") spare ∷ x_token ∷ reserved (codes "in") spare ∷ x_token ∷ []) (Let p x a spare x_term spare x_term) refl h3 ((ra.fits, tt, tt), refl) (λ tail. ap (λ w. reserved (codes "let") p ∷ w) (rx.spelled _) ∙ simp (ra.spelled, append_assoc)) (λ tail. behind_first _ _ _ (behind_none _ _ (ra.sound _)) (behind_first _ _ _ (x_behind n _ _ (omega arith)) (x_behind n _ _ (omega arith))))
      (λ q rest4 h4. answer_part (Open n) i (Down Whole n) (inner Whole rest4) _ (((reserved (codes "let") p ∷ rx.word) ++ ra.word) ++ symbol (codes ":=") q ∷ []) rest4 (reserved (codes "in") spare ∷ x_token ∷ []) (λ v. Let p x a q v spare x_term) h4 (whole rest4) (λ v g. ((ra.fits, g.0, tt), refl)) (λ v tail. ap (λ w. reserved (codes "let") p ∷ w) (rx.spelled _) ∙ simp (ra.spelled, append_assoc)) (λ v tail. (_, ap (λ f. first f (first (nested_fault n (λ m. fault v m (reserved (codes "in") spare ∷ x_token ∷ tail)) (spells v (reserved (codes "in") spare ∷ x_token ∷ tail))) (nested_fault n (λ m. None) (x_token ∷ tail)))) (ra.sound (symbol (codes ":=") q ∷ spells v (reserved (codes "in") spare ∷ x_token ∷ tail))), x_behind n _ _ (omega arith)))
      (λ v rest5 rv h5. answer_mark (Open n) i sign.In _ ((((reserved (codes "let") p ∷ rx.word) ++ ra.word) ++ symbol (codes ":=") q ∷ []) ++ rv.word) rest5 (reserved (codes "in") spare ∷ x_token ∷ []) (Let p x a q v spare x_term) refl h5 ((ra.fits, rv.fits.0, tt), refl) (λ tail. ap (λ w. reserved (codes "let") p ∷ w) (rx.spelled _) ∙ simp (ra.spelled, rv.spelled, append_assoc)) (λ tail. behind_first _ _ _ (behind_none _ _ (ra.sound _)) (behind_first _ _ _ (behind_none _ _ (rv.sound _)) (x_behind n _ _ (omega arith))))
      (λ s rest6 h6. answer_last (Open n) i (Down Whole n) (inner Whole rest6) (((((reserved (codes "let") p ∷ rx.word) ++ ra.word) ++ symbol (codes ":=") q ∷ []) ++ rv.word) ++ reserved (codes "in") s ∷ []) rest6 (λ b. Let p x a q v s b) h6 (whole rest6) (λ b g. ((ra.fits, rv.fits.0, g.0), refl)) (λ b tail. ap (λ w. reserved (codes "let") p ∷ w) (rx.spelled _) ∙ simp (ra.spelled, rv.spelled, append_assoc)) (λ b tail. ap (λ f. first f (first (nested_fault n (λ m. fault v m (reserved (codes "in") s ∷ spells b tail)) (spells v (reserved (codes "in") s ∷ spells b tail))) (nested_fault n (λ m. fault b m tail) (spells b tail)))) (ra.sound (symbol (codes ":=") q ∷ spells v (reserved (codes "in") s ∷ spells b tail))) ∙ ap (λ f. first f (nested_fault n (λ m. fault b m tail) (spells b tail))) (rv.sound (reserved (codes "in") s ∷ spells b tail))) (λ b rest' _ e. e)))))))

  viable_open : Viable (Open n) (open_form standard inner)
  unfolding open_form
  viable_open i = answer_if (Open n) i (is_sign (sign_at i) sign.Forall) _ _ (λ _. viable_forall i) (λ _. answer_if (Open n) i (is_sign (sign_at i) sign.Fun) _ _ (λ _. viable_fun i) (λ _. viable_let i))

  open_behind : (rule : Rule) (t : Term) (rest : List Token) → Ends rest → Behind rule t rest
  open_behind Whole t rest e = e
  open_behind Right85 t rest e = (e.0, e.1, inr e)
  open_behind Right80 t rest e = (e.0, inr e)
  open_behind Right75 t rest e = inr e

  viable_operand : (rule : Rule) → most rule ≤ 99 → ((i : List Token) → begins_open (sign_at i) ≡ false → Begins rule i) → Viable (Operand rule n) (operand standard inner rule)
  unfolding operand
  viable_operand rule l begins i = answer_if (Operand rule n) i (begins_open (sign_at i)) _ _
      (λ _. answer_as (Open n) (Operand rule n) i (open_form standard inner i) (λ t g. (g.0, inr g.1)) (λ t tail. refl) (λ t tail g. ap (λ k. cond (k == open_level) (fault t n tail) (nested_fault n (λ m. fault t m tail) (spells t tail))) g.1) (λ t rest g e. open_behind rule t rest e) (viable_open i))
      (λ e. answer_as (Down rule n) (Operand rule n) i (inner rule i) (λ t g. (g.0, inl g.1)) (λ t tail. refl) (λ t tail g. passed _ _ (not_the_open_level (level t) (omega (arith, g.1)))) (λ t rest g k. k) (down rule i (begins i e)))

  equal_row : (i : List Token) (a : Term) (rest : List Token) → Read (Tight 10 n) i a rest → i ≡ [] ++ i → Answers (Tight 70 n) i (equal_behind standard inner a rest)
  unfolding equal_behind
  equal_row i a rest r h = answer_if (Tight 70 n) i (is_sign (sign_at rest) sign.Equal) _ _
      (λ _. answer_mark (Tight 70 n) i sign.Equal _ r.word rest (symbol (codes "=") spare ∷ x_token ∷ []) (Equal a spare x_term) refl r.parts ((r.fits.1, r.fits.0, omega arith, tt), omega arith) (λ tail. r.spelled _) (λ tail. behind_none _ _ (none_first _ _ (r.sound _) refl))
      (λ p rest2 h2. answer_last (Tight 70 n) i (Tight 10 n) (application standard inner rest2) (r.word ++ symbol (codes "=") p ∷ []) rest2 (λ b. Equal a p b) h2 (viable_application n inner whole rest2) (λ b g. ((r.fits.1, r.fits.0, g.1, g.0), omega arith)) (λ b tail. simp (r.spelled, append_assoc)) (λ b tail. ap (λ f. first f (fault b n tail)) (r.sound (symbol (codes "=") p ∷ spells b tail))) (λ b rest' _ _. tt)))
      (λ _. answer_pure (Tight 70 n) i r.word rest a r.parts (r.fits.0, omega (arith, r.fits.1)) r.spelled r.sound tt)

  viable_t70 : Viable (Tight 70 n) (t70 standard inner)
  unfolding t70
  viable_t70 i = answer_part (Tight 70 n) i (Tight 10 n) (application standard inner i) _ [] i [] (λ t. t) refl (viable_application n inner whole i) (λ t g. (g.0, omega (arith, g.1))) (λ t tail. refl) (λ t tail. (None, sym (first_none _), tt)) (λ t rest r _. equal_row i t rest r refl)

  viable_t75 : Viable (By Right75 n) (t75 standard inner)
  unfolding t75
  viable_t75 i = answer_if (By Right75 n) i (is_sign (sign_at i) sign.Not) _ _
      (λ _. answer_mark (By Right75 n) i sign.Not _ [] i (x_token ∷ []) x_term refl refl (tt, omega arith) (λ tail. refl) (λ tail. tt)
      (λ p rest h. answer_last (By Right75 n) i (Operand Right75 n) (operand standard inner Right75 rest) (symbol (codes "~") p ∷ []) rest (λ a. Not p a) h (viable_operand Right75 (omega arith) (λ _ e. e) rest) (λ a g. ((g.1, g.0), omega arith)) (λ a tail. refl) (λ a tail. refl) (λ a rest' _ e. e)))
      (λ _. answer_as (Tight 70 n) (By Right75 n) i (t70 standard inner i) (λ t g. (g.0, omega (arith, g.1))) (λ t tail. refl) (λ t tail g. refl) (λ t rest g _. inl (closed_low t g.1)) (viable_t70 i))

  and_row : (i : List Token) (a : Term) (rest : List Token) → Read (By Right75 n) i a rest → Answers (By Right80 n) i (and_behind standard inner a rest)
  unfolding and_behind
  and_row i a rest r = answer_if (By Right80 n) i (is_sign (sign_at rest) sign.And) _ _
      (λ e. answer_mark (By Right80 n) i sign.And _ r.word rest (symbol (codes "/\\") spare ∷ x_token ∷ []) (And a spare x_term) refl r.parts ((r.fits.1, closed_and a rest r.end e, r.fits.0, inl (omega arith), tt), omega arith) (λ tail. r.spelled _) (λ tail. behind_first _ _ _ (behind_none _ _ (r.sound _)) (x_behind n _ _ (omega arith)))
      (λ p rest2 h2. answer_last (By Right80 n) i (Operand Right80 n) (operand standard inner Right80 rest2) (r.word ++ symbol (codes "/\\") p ∷ []) rest2 (λ b. And a p b) h2 (viable_operand Right80 (omega arith) (λ _ k. k) rest2) (λ b g. ((r.fits.1, closed_and a rest r.end e, r.fits.0, g.1, g.0), omega arith)) (λ b tail. simp (r.spelled, append_assoc)) (λ b tail. ap (λ f. first f (cond (level b == open_level) (fault b n tail) (nested_fault n (λ m. fault b m tail) (spells b tail)))) (r.sound (symbol (codes "/\\") p ∷ spells b tail))) (λ b rest' _ k. k)))
      (λ e. answer_pure (By Right80 n) i r.word rest a r.parts (r.fits.0, omega (arith, r.fits.1)) r.spelled r.sound (e, r.end))

  viable_t80 : Viable (By Right80 n) (t80 standard inner)
  unfolding t80
  viable_t80 i = answer_part (By Right80 n) i (By Right75 n) (t75 standard inner i) _ [] i [] (λ t. t) refl (viable_t75 i) (λ t g. (g.0, omega (arith, g.1))) (λ t tail. refl) (λ t tail. (None, sym (first_none _), tt)) (λ t rest r _. and_row i t rest r)

  or_row : (i : List Token) (a : Term) (rest : List Token) → Read (By Right80 n) i a rest → Answers (By Right85 n) i (or_behind standard inner a rest)
  unfolding or_behind
  or_row i a rest r = answer_if (By Right85 n) i (is_sign (sign_at rest) sign.Or) _ _
      (λ e. answer_mark (By Right85 n) i sign.Or _ r.word rest (symbol (codes "\\/") spare ∷ x_token ∷ []) (Or a spare x_term) refl r.parts ((r.fits.1, closed_or a rest r.end.1 e, r.fits.0, inl (omega arith), tt), omega arith) (λ tail. r.spelled _) (λ tail. behind_first _ _ _ (behind_none _ _ (r.sound _)) (x_behind n _ _ (omega arith)))
      (λ p rest2 h2. answer_last (By Right85 n) i (Operand Right85 n) (operand standard inner Right85 rest2) (r.word ++ symbol (codes "\\/") p ∷ []) rest2 (λ b. Or a p b) h2 (viable_operand Right85 (omega arith) (λ _ k. k) rest2) (λ b g. ((r.fits.1, closed_or a rest r.end.1 e, r.fits.0, g.1, g.0), omega arith)) (λ b tail. simp (r.spelled, append_assoc)) (λ b tail. ap (λ f. first f (cond (level b == open_level) (fault b n tail) (nested_fault n (λ m. fault b m tail) (spells b tail)))) (r.sound (symbol (codes "\\/") p ∷ spells b tail))) (λ b rest' _ k. k)))
      (λ e. answer_pure (By Right85 n) i r.word rest a r.parts (r.fits.0, omega (arith, r.fits.1)) r.spelled r.sound (r.end.0, e, r.end.1))

  viable_t85 : Viable (By Right85 n) (t85 standard inner)
  unfolding t85
  viable_t85 i = answer_part (By Right85 n) i (By Right80 n) (t80 standard inner i) _ [] i [] (λ t. t) refl (viable_t80 i) (λ t g. (g.0, omega (arith, g.1))) (λ t tail. refl) (λ t tail. (None, sym (first_none _), tt)) (λ t rest r _. or_row i t rest r)

  arrow_row : (i : List Token) (a : Term) (rest : List Token) → Read (By Right85 n) i a rest → Answers (By Whole n) i (arrow_behind standard inner a rest)
  unfolding arrow_behind
  arrow_row i a rest r = answer_if (By Whole n) i (is_sign (sign_at rest) sign.Arrow) _ _
      (λ e. answer_mark (By Whole n) i sign.Arrow _ r.word rest (symbol (codes "->") spare ∷ x_token ∷ []) (Arrow a spare x_term) refl r.parts ((r.fits.1, closed_arrow a rest r.end.2 e, r.fits.0, tt), omega arith) (λ tail. r.spelled _) (λ tail. behind_first _ _ _ (behind_none _ _ (r.sound _)) (x_behind n _ _ (omega arith)))
      (λ p rest2 h2. answer_last (By Whole n) i (Down Whole n) (inner Whole rest2) (r.word ++ symbol (codes "->") p ∷ []) rest2 (λ b. Arrow a p b) h2 (whole rest2) (λ b g. ((r.fits.1, closed_arrow a rest r.end.2 e, r.fits.0, g.0), omega arith)) (λ b tail. simp (r.spelled, append_assoc)) (λ b tail. ap (λ f. first f (nested_fault n (λ m. fault b m tail) (spells b tail))) (r.sound (symbol (codes "->") p ∷ spells b tail))) (λ b rest' _ k. k)))
      (λ e. answer_pure (By Whole n) i r.word rest a r.parts (r.fits.0, omega (arith, r.fits.1)) r.spelled r.sound (r.end.0, r.end.1, e))

  viable_t99 : Viable (By Whole n) (t99 standard inner)
  unfolding t99
  viable_t99 i = answer_part (By Whole n) i (By Right85 n) (t85 standard inner i) _ [] i [] (λ t. t) refl (viable_t85 i) (λ t g. (g.0, omega (arith, g.1))) (λ t tail. refl) (λ t tail. (None, sym (first_none _), tt)) (λ t rest r _. arrow_row i t rest r)

  viable_term : Viable (By Whole n) (term standard inner)
  unfolding term
  viable_term i = answer_if (By Whole n) i (begins_open (sign_at i)) _ _
      (λ _. answer_as (Open n) (By Whole n) i (open_form standard inner i) (λ t g. (g.0, omega (arith, g.1))) (λ t tail. refl) (λ t tail g. refl) (λ t rest g e. e) (viable_open i))
      (λ _. viable_t99 i)

  pub viable_by_rule : (rule : Rule) → Viable (By rule n) (by_rule standard inner rule)
  unfolding by_rule
  viable_by_rule Whole = viable_term
  viable_by_rule Right85 = viable_t85
  viable_by_rule Right80 = viable_t80
  viable_by_rule Right75 = viable_t75
