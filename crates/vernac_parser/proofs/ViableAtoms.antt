-- What was read before a refusal begins a tree: names, atoms, arguments and applications.
use Rattle.std.proofs.Common.{◌≡◌, ℕ, ◌≤◌, false, cond, None, Some, List, [], ◌∷◌, ◌++◌, codes, refl, sym, ◌∙◌, ap, arith, append_assoc}
use Rattle.coq_syntax.specs.declared.token.Token.{Token}
use Rattle.coq_syntax.specs.declared.words.TokenPlace.{TokenPlace}
use Rattle.coq_syntax.specs.declared.words.Word.{Word}
use Rattle.coq_syntax.specs.declared.words.BoundName.TheVariants.{Named, Unnamed}
use Rattle.coq_syntax.specs.Trees.{Term, Forall, Fun, Let, Arrow, Or, And, Not, Equal, Apply, Name, PropSort, SetSort, TypeSort, TypeAt, Numeral, Parenthesized, Binders, Names, Groups, GroupList, NoGroup, Group, Annotation, Untyped, Typed, Arguments, NoArgument, Positional}
use Rattle.coq_syntax.specs.Trees as tree
use Rattle.coq_syntax.specs.Spelled as spelled
use Rattle.coq_syntax.specs.Spelled.{spells, symbol, reserved}
use Rattle.coq_syntax.specs.Limits.{too_great, no_level}
use Rattle.coq_syntax.specs.Grammar.{level, IsTerm, AreArguments}
use Rattle.coq_syntax.specs.Faults.{first, value_of, fault, arguments_fault}
use Rattle.vernac_parser.specs.declared.sign.Sign.TheVariants as sign
use Rattle.vernac_parser.specs.Signs.{is_sign, sign_at, begins_atom}
use Rattle.vernac_parser.specs.Parser.{Outcome, Parser, and_then, ◌>>=◌, pure, place_of, take, number, repeated}
use Rattle.vernac_parser.specs.Parse.{Rule, Whole, standard, is_name, with_name, binder_name, names, Argument, Plain, Given, with_argument, applied, assigns, type_sort, parenthesized, given, atom, argument_behind, argument, arguments, application}
use Rattle.vernac_parser.proofs.SignLaws.{wildcard_is}
use Rattle.vernac_parser.proofs.Answered.{passed}
use Rattle.vernac_parser.proofs.Viable.{Answers, Viable, behind_first, behind_none, behind_nested, none_first, first_none, answer_pure, answer_token, answer_mark, answer_word, answer_number, answer_part, answer_last, answer_if, viable_repeated}
use Rattle.vernac_parser.proofs.Shapes.{spare, x_word, x_term, x_token, Tight, Down, OneName, MoreNames, SomeNames, one_argument, OneArgument, MoreArguments}

pub viable_name : Viable OneName binder_name
unfolding binder_name
viable_name i = answer_if OneName i (is_sign (sign_at i) sign.Wildcard) _ _
    (λ _. answer_token OneName i place_of sign.Wildcard (λ p. pure (Unnamed p)) [] i (x_token ∷ []) (Named x_word) refl tt (λ tail. refl) (λ tail. tt)
    (λ t rest e h. answer_pure OneName i (t ∷ []) rest (Unnamed (place_of t)) h tt (λ tail. ap (λ s. s ∷ tail) (sym (wildcard_is t e))) (λ tail. refl) tt))
    (λ _. answer_word OneName i (λ w. pure (Named w)) [] i (x_token ∷ []) (Named x_word) refl tt (λ tail. refl) (λ tail. tt)
    (λ w rest h. answer_pure OneName i (spelled.identifier w ∷ []) rest (Named w) h tt (λ tail. refl) (λ tail. refl) tt))

pub viable_more_names : Viable MoreNames (repeated is_name binder_name with_name [])
viable_more_names = viable_repeated OneName MoreNames is_name binder_name with_name [] viable_name tt (λ tail. refl) (λ tail. refl) (λ x xs _ _. tt) (λ x xs tail. refl) (λ x xs tail. refl) (λ rest _. tt) (λ x xs rest _. tt)

pub viable_names : Viable SomeNames names
unfolding names
viable_names i =
    answer_part SomeNames i OneName (binder_name i) _ [] i [] (λ x. x ∷ []) refl (viable_name i) (λ x _. tt) (λ x tail. refl) (λ x tail. (None, refl, tt))
    (λ x rest r h. answer_last SomeNames i MoreNames (repeated is_name binder_name with_name [] rest) r.word rest (λ ns. x ∷ ns) h (viable_more_names rest) (λ ns _. tt) (λ ns tail. r.spelled (spelled.names ns tail)) (λ ns tail. refl) (λ ns rest' _ _. tt))

-- a level in range
one_word : Word
one_word = record { text = codes "1"; place = spare }

no_level_fault : (p q r : TokenPlace) (w : Word) (s : TokenPlace) (n : ℕ) (tail : List Token) → standard.level (value_of w) ≡ false → fault (TypeAt p q r w s) n tail ≡ None
no_level_fault p q r w s n tail e = passed _ _ e

no_numeral_fault : (w : Word) (n : ℕ) (tail : List Token) → standard.numeral (value_of w) ≡ false → fault (Numeral w) n tail ≡ None
no_numeral_fault w n tail e = passed _ _ e

module _ (n : ℕ) (inner : Rule → Parser Term) (whole : Viable (Down Whole n) (inner Whole)) where
  -- `@{` number `}`
  viable_level : (i : List Token) (p : TokenPlace) (rest : List Token) → i ≡ (reserved (codes "Type") p ∷ []) ++ rest → Answers (Tight 0 n) i ((take sign.At >>= (λ q. take sign.OpenBrace >>= (λ r. number standard.level no_level >>= (λ w. take sign.CloseBrace >>= (λ s. pure (TypeAt p q r w s)))))) rest)
  unfolding one_word
  viable_level i p rest h =
      answer_mark (Tight 0 n) i sign.At _ (reserved (codes "Type") p ∷ []) rest (symbol (codes "@") spare ∷ symbol (codes "{") spare ∷ spelled.number one_word ∷ symbol (codes "}") spare ∷ []) (TypeAt p spare spare one_word spare) refl h (tt, omega arith) (λ tail. refl) (λ tail. tt)
      (λ q rest2 h2. answer_mark (Tight 0 n) i sign.OpenBrace _ (reserved (codes "Type") p ∷ symbol (codes "@") q ∷ []) rest2 (symbol (codes "{") spare ∷ spelled.number one_word ∷ symbol (codes "}") spare ∷ []) (TypeAt p q spare one_word spare) refl h2 (tt, omega arith) (λ tail. refl) (λ tail. tt)
      (λ r rest3 h3. answer_number (Tight 0 n) i standard.level no_level _ (reserved (codes "Type") p ∷ symbol (codes "@") q ∷ symbol (codes "{") r ∷ []) rest3 (spelled.number one_word ∷ symbol (codes "}") spare ∷ []) (symbol (codes "}") spare ∷ []) (TypeAt p q r one_word spare) (λ w. TypeAt p q r w spare) h3 (tt, omega arith) (λ tail. refl) (λ tail. tt) (λ w. (tt, omega arith)) (λ w tail. refl) (λ w tail e. ap (λ b. cond b (Some (record { code = no_level; rest = spelled.number w ∷ symbol (codes "}") spare ∷ tail })) None) e)
      (λ w rest4 e h4. answer_mark (Tight 0 n) i sign.CloseBrace _ (reserved (codes "Type") p ∷ symbol (codes "@") q ∷ symbol (codes "{") r ∷ spelled.number w ∷ []) rest4 (symbol (codes "}") spare ∷ []) (TypeAt p q r w spare) refl h4 (tt, omega arith) (λ tail. refl) (λ tail. behind_none _ _ (no_level_fault p q r w spare n tail e))
      (λ s rest5 h5. answer_pure (Tight 0 n) i (reserved (codes "Type") p ∷ symbol (codes "@") q ∷ symbol (codes "{") r ∷ spelled.number w ∷ symbol (codes "}") s ∷ []) rest5 (TypeAt p q r w s) h5 (tt, omega arith) (λ tail. refl) (λ tail. no_level_fault p q r w s n tail e) tt))))

  viable_type_sort : Viable (Tight 0 n) (type_sort standard inner)
  unfolding type_sort
  viable_type_sort i = answer_mark (Tight 0 n) i sign.TypeSort _ [] i (reserved (codes "Type") spare ∷ []) (TypeSort spare) refl refl (tt, omega arith) (λ tail. refl) (λ tail. tt) (λ p rest h.
      answer_if (Tight 0 n) i (is_sign (sign_at rest) sign.At) _ _
      (λ _. viable_level i p rest h)
      (λ _. answer_pure (Tight 0 n) i (reserved (codes "Type") p ∷ []) rest (TypeSort p) h (tt, omega arith) (λ tail. refl) (λ tail. refl) tt))

  -- behind a `(` that was read
  viable_parenthesized : (start : List Token) (p : TokenPlace) (i : List Token) → start ≡ (symbol (codes "(") p ∷ []) ++ i → Answers (Tight 0 n) start (parenthesized standard inner p i)
  unfolding parenthesized
  viable_parenthesized start p i h =
      answer_part (Tight 0 n) start (Down Whole n) (inner Whole i) _ (symbol (codes "(") p ∷ []) i (symbol (codes ")") spare ∷ []) (λ t. Parenthesized p t spare) h (whole i) (λ t g. (g.0, omega arith)) (λ t tail. refl) (λ t tail. (None, sym (first_none _), tt))
      (λ t rest r h2. answer_mark (Tight 0 n) start sign.Close _ (symbol (codes "(") p ∷ r.word) rest (symbol (codes ")") spare ∷ []) (Parenthesized p t spare) refl h2 (r.fits.0, omega arith) (λ tail. simp r.spelled) (λ tail. behind_none _ _ (r.sound _))
      (λ q rest' h3. answer_pure (Tight 0 n) start (symbol (codes "(") p ∷ (r.word ++ symbol (codes ")") q ∷ [])) rest' (Parenthesized p t q) h3 (r.fits.0, omega arith) (λ tail. simp (r.spelled, append_assoc)) (λ tail. r.sound _) tt))

  viable_atom : Viable (Tight 0 n) (atom standard inner)
  unfolding atom
  viable_atom i =
      answer_if (Tight 0 n) i (is_sign (sign_at i) sign.Identifier) _ _
      (λ _. answer_word (Tight 0 n) i (λ w. pure (Name w)) [] i (x_token ∷ []) x_term refl (tt, omega arith) (λ tail. refl) (λ tail. tt) (λ w rest h. answer_pure (Tight 0 n) i (spelled.identifier w ∷ []) rest (Name w) h (tt, omega arith) (λ tail. refl) (λ tail. refl) tt))
      (λ _. answer_if (Tight 0 n) i (is_sign (sign_at i) sign.Open) _ _
      (λ _. answer_mark (Tight 0 n) i sign.Open (parenthesized standard inner) [] i (x_token ∷ []) x_term refl refl (tt, omega arith) (λ tail. refl) (λ tail. tt) (λ p rest h. viable_parenthesized i p rest h))
      (λ _. answer_if (Tight 0 n) i (is_sign (sign_at i) sign.Number) _ _
      (λ _. answer_number (Tight 0 n) i standard.numeral too_great (λ w. pure (Numeral w)) [] i (x_token ∷ []) [] x_term Numeral refl (tt, omega arith) (λ tail. refl) (λ tail. tt) (λ w. (tt, omega arith)) (λ w tail. refl) (λ w tail e. ap (λ b. cond b (Some (record { code = too_great; rest = spelled.number w ∷ tail })) None) e)
      (λ w rest e h. answer_pure (Tight 0 n) i (spelled.number w ∷ []) rest (Numeral w) h (tt, omega arith) (λ tail. refl) (λ tail. no_numeral_fault w n tail e) tt))
      (λ _. answer_if (Tight 0 n) i (is_sign (sign_at i) sign.PropSort) _ _
      (λ _. answer_mark (Tight 0 n) i sign.PropSort (λ p. pure (PropSort p)) [] i (x_token ∷ []) x_term refl refl (tt, omega arith) (λ tail. refl) (λ tail. tt) (λ p rest h. answer_pure (Tight 0 n) i (reserved (codes "Prop") p ∷ []) rest (PropSort p) h (tt, omega arith) (λ tail. refl) (λ tail. refl) tt))
      (λ _. answer_if (Tight 0 n) i (is_sign (sign_at i) sign.SetSort) _ _
      (λ _. answer_mark (Tight 0 n) i sign.SetSort (λ p. pure (SetSort p)) [] i (x_token ∷ []) x_term refl refl (tt, omega arith) (λ tail. refl) (λ tail. tt) (λ p rest h. answer_pure (Tight 0 n) i (reserved (codes "Set") p ∷ []) rest (SetSort p) h (tt, omega arith) (λ tail. refl) (λ tail. refl) tt))
      (λ _. viable_type_sort i)))))

  -- an atom as an argument
  plain : (start : List Token) (o : Outcome Term) → Answers (Tight 0 n) start o → Answers (OneArgument n) start (and_then o (λ t. pure (Plain t)))
  plain start o a = answer_last (OneArgument n) start (Tight 0 n) o [] start Plain refl a (λ t g. (omega (arith, g.1), g.0, tt)) (λ t tail. refl) (λ t tail. first_none _) (λ t rest _ _. tt)

  viable_given : (start : List Token) (p : TokenPlace) (i : List Token) → start ≡ (symbol (codes "(") p ∷ []) ++ i → Answers (OneArgument n) start (given standard inner p i)
  unfolding given
  viable_given start p i h =
      answer_word (OneArgument n) start _ (symbol (codes "(") p ∷ []) i (x_token ∷ symbol (codes ")") spare ∷ []) (Plain (Parenthesized p x_term spare)) h (refl, tt, tt) (λ tail. refl) (λ tail. behind_first _ _ _ (behind_nested _ n _ _ (omega arith) (λ m. tt)) tt)
      (λ w rest h2. answer_mark (OneArgument n) start sign.Assign _ (symbol (codes "(") p ∷ spelled.identifier w ∷ []) rest (symbol (codes ":=") spare ∷ x_token ∷ symbol (codes ")") spare ∷ []) (Given p w spare x_term spare) refl h2 (tt, tt) (λ tail. refl) (λ tail. behind_first _ _ _ (behind_nested _ n _ _ (omega arith) (λ m. tt)) tt)
      (λ q rest2 h3. answer_part (OneArgument n) start (Down Whole n) (inner Whole rest2) _ (symbol (codes "(") p ∷ spelled.identifier w ∷ symbol (codes ":=") q ∷ []) rest2 (symbol (codes ")") spare ∷ []) (λ t. Given p w q t spare) h3 (whole rest2) (λ t g. (g.0, tt)) (λ t tail. refl) (λ t tail. (None, refl, tt))
      (λ t rest3 r h4. answer_mark (OneArgument n) start sign.Close _ (symbol (codes "(") p ∷ spelled.identifier w ∷ symbol (codes ":=") q ∷ r.word) rest3 (symbol (codes ")") spare ∷ []) (Given p w q t spare) refl h4 (r.fits.0, tt) (λ tail. simp r.spelled) (λ tail. behind_none _ _ (none_first _ _ (r.sound _) refl))
      (λ s rest4 h5. answer_pure (OneArgument n) start (symbol (codes "(") p ∷ spelled.identifier w ∷ symbol (codes ":=") q ∷ (r.word ++ symbol (codes ")") s ∷ [])) rest4 (Given p w q t s) h5 (r.fits.0, tt) (λ tail. simp (r.spelled, append_assoc)) (λ tail. none_first _ _ (r.sound _) refl) tt))))

  viable_argument_behind : (start : List Token) (p : TokenPlace) (i : List Token) → start ≡ (symbol (codes "(") p ∷ []) ++ i → Answers (OneArgument n) start (argument_behind standard inner p i)
  unfolding argument_behind
  viable_argument_behind start p i h = answer_if (OneArgument n) start (assigns i) _ _ (λ _. viable_given start p i h) (λ _. plain start (parenthesized standard inner p i) (viable_parenthesized start p i h))

  viable_argument : Viable (OneArgument n) (argument standard inner)
  unfolding argument
  viable_argument i = answer_if (OneArgument n) i (is_sign (sign_at i) sign.Open) _ _
      (λ _. answer_mark (OneArgument n) i sign.Open (argument_behind standard inner) [] i (x_token ∷ []) (Plain x_term) refl refl (refl, tt, tt) (λ tail. refl) (λ tail. tt) (λ p rest h. viable_argument_behind i p rest h))
      (λ _. plain i (atom standard inner i) (viable_atom i))

  good_arguments : (a : Argument) (args : Arguments) → AreArguments (one_argument a) → AreArguments args → AreArguments (with_argument a args)
  good_arguments (Plain t) args g h = (g.0, g.1, h)
  good_arguments (Given p w q t s) args g h = (g.0, h)

  argument_tokens : (a : Argument) (args : Arguments) (tail : List Token) → spelled.arguments (with_argument a args) tail ≡ spelled.arguments (one_argument a) (spelled.arguments args tail)
  argument_tokens (Plain t) args tail = refl
  argument_tokens (Given p w q t s) args tail = refl

  argument_fault : (a : Argument) (args : Arguments) (tail : List Token) → arguments_fault (with_argument a args) n tail ≡ first (arguments_fault (one_argument a) n (spelled.arguments args tail)) (arguments_fault args n tail)
  argument_fault (Plain t) args tail = ap (λ f. first f (arguments_fault args n tail)) (sym (first_none _))
  argument_fault (Given p w q t s) args tail = ap (λ f. first f (arguments_fault args n tail)) (sym (first_none _))

  viable_arguments : Viable (MoreArguments n) (arguments standard inner)
  unfolding arguments
  viable_arguments = viable_repeated (OneArgument n) (MoreArguments n) begins_atom (argument standard inner) with_argument NoArgument viable_argument tt (λ tail. refl) (λ tail. refl) good_arguments argument_tokens argument_fault (λ rest _. tt) (λ x xs rest _. tt)

  good_application : (f : Term) (args : Arguments) → IsTerm f × (level f ≤ 0) → AreArguments args → IsTerm (applied f args) × (level (applied f args) ≤ 10)
  good_application f NoArgument g h = (g.0, omega (arith, g.1))
  good_application f (Positional t after) g h = ((omega (arith, g.1), g.0, tt, h), omega arith)
  good_application f (tree.Given p w q t s after) g h = ((omega (arith, g.1), g.0, tt, h), omega arith)

  application_tokens : (f : Term) (args : Arguments) (tail : List Token) → spells (applied f args) tail ≡ spells f (spelled.arguments args tail)
  application_tokens f NoArgument tail = refl
  application_tokens f (Positional t after) tail = refl
  application_tokens f (tree.Given p w q t s after) tail = refl

  application_fault : (f : Term) (args : Arguments) (tail : List Token) → fault (applied f args) n tail ≡ first (fault f n (spelled.arguments args tail)) (arguments_fault args n tail)
  application_fault f NoArgument tail = sym (first_none _)
  application_fault f (Positional t after) tail = refl
  application_fault f (tree.Given p w q t s after) tail = refl

  pub viable_application : Viable (Tight 10 n) (application standard inner)
  unfolding application
  viable_application i =
      answer_part (Tight 10 n) i (Tight 0 n) (atom standard inner i) _ [] i [] (λ f. f) refl (viable_atom i) (λ f g. (g.0, omega (arith, g.1))) (λ f tail. refl) (λ f tail. (None, sym (first_none _), tt))
      (λ f rest r h. answer_last (Tight 10 n) i (MoreArguments n) (arguments standard inner rest) r.word rest (applied f) h (viable_arguments rest) (λ args g. good_application f args r.fits g) (λ args tail. application_tokens f args tail ∙ r.spelled (spelled.arguments args tail)) (λ args tail. application_fault f args tail ∙ ap (λ k. first k (arguments_fault args n tail)) (r.sound (spelled.arguments args tail))) (λ args rest' _ _. tt))
