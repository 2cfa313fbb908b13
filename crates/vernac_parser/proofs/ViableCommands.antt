-- What was read before a refusal begins a command.
use Rattle.std.proofs.Common.{◌≡◌, ℕ, Bool, true, false, cond, Option, None, Some, List, [], ◌∷◌, ◌++◌, codes, bytes_eq, refl, sym, ◌∙◌, ap, subst, append_assoc}
use Rattle.std.proofs.lemmas.Slice.Eq.{bytes_eq-Decides}
use Rattle.coq_syntax.specs.declared.token.Token.{Token}
use Rattle.coq_syntax.specs.declared.token.TokenKind.TheVariants as kind
use Rattle.coq_syntax.specs.declared.words.TokenPlace.{TokenPlace}
use Rattle.coq_syntax.specs.declared.words.Word.{Word}
use Rattle.coq_syntax.specs.declared.command.AssumptionWord.TheVariants as assumption
use Rattle.coq_syntax.specs.declared.command.StatementWord.TheVariants as statement
use Rattle.coq_syntax.specs.Trees.{Term, GroupList, NoGroup, Annotation, Untyped}
use Rattle.coq_syntax.specs.CommandTrees.{Constructor, Command, Assume, Define, State, Inductive, Check, Proof, Qed, Defined, Admitted, Aborted}
use Rattle.coq_syntax.specs.Spelled as spelled
use Rattle.coq_syntax.specs.Spelled.{symbol, keyword, spells}
use Rattle.coq_syntax.specs.Limits.{most_nested}
use Rattle.coq_syntax.specs.Faults.{first, annotation_fault, term_fault}
use Rattle.coq_syntax.specs.Commands.{bar, constructor as spelled_constructor, constructors as spelled_constructors, IsConstructor, IsBarred, AreBarred, AreConstructors, IsCommand}
use Rattle.vernac_parser.specs.declared.sign.Sign.TheVariants as sign
use Rattle.coq_syntax.specs.declared.command_words.CommandWord.{CommandWord}
use Rattle.coq_syntax.specs.declared.command_words.CommandWord.TheVariants as word
use Rattle.vernac_parser.specs.Signs.{is_sign, sign_of, sign_at}
use Rattle.vernac_parser.specs.Parser.{Parser, and_then, pure, place_of, repeated}
use Rattle.vernac_parser.specs.Parse.{Rule, Whole, standard, nested, groups, annotation}
use Rattle.coq_syntax.specs.CommandWords.{word_text, word_of_text}
use Rattle.vernac_parser.specs.ParseCommand.{begins_constructor, with_constructor, constructor, barred, first_constructor, constructors, by_word, row, ended, command, whole_command}
use Rattle.vernac_parser.proofs.SignLaws.{is_token, written_as, identifier_by_kind}
use Rattle.vernac_parser.proofs.Answered.{took}
use Rattle.vernac_parser.proofs.Viable.{Shape, Read, Answers, Viable, behind_none, none_first, first_none, answer_pure, answer_refuse, answer_mark, answer_word, answer_part, answer_last, answer_if, viable_repeated, answer_as}
use Rattle.vernac_parser.proofs.Shapes.{spare, x_word, x_term, x_token, Down, MoreGroups, AnAnnotation}
use Rattle.vernac_parser.proofs.ViableRules.{viable_groups, viable_annotation}
use Rattle.vernac_parser.proofs.ViableNested.{viable_down}
use Rattle.vernac_parser.proofs.CommandFaults.{command_spells, constructor_faults, constructors_faults, command_faults, plain}
use Rattle.vernac_parser.proofs.CommandLocal.{behind, word_behind}

abbrev pub Commands : Shape Command
Commands = record { good = IsCommand; tokens = command_spells; fault = command_faults plain; follows = λ c rest. Unit {0} }

-- a constructor behind this bar, or behind any, or behind some bar
abbrev With : Option TokenPlace → Shape Constructor
With b = record { good = λ c. IsConstructor c × (c.bar ≡ b); tokens = spelled_constructor; fault = constructor_faults plain; follows = λ c rest. Unit {0} }

abbrev AnyConstructor : Shape Constructor
AnyConstructor = record { good = IsConstructor; tokens = spelled_constructor; fault = constructor_faults plain; follows = λ c rest. Unit {0} }

abbrev Barred : Shape Constructor
Barred = record { good = λ c. IsBarred c.bar × IsConstructor c; tokens = spelled_constructor; fault = constructor_faults plain; follows = λ c rest. Unit {0} }

abbrev MoreBarred : Shape (List Constructor)
MoreBarred = record { good = AreBarred; tokens = spelled_constructors; fault = constructors_faults plain; follows = λ cs rest. Unit {0} }

abbrev SomeConstructors : Shape (List Constructor)
SomeConstructors = record { good = AreConstructors; tokens = spelled_constructors; fault = constructors_faults plain; follows = λ cs rest. Unit {0} }

abbrev inner : Rule → Parser Term
inner = nested standard most_nested

whole : Viable (Down Whole most_nested) (inner Whole)
whole i = viable_down most_nested Whole i tt

some_groups : Viable (MoreGroups most_nested) (groups standard inner)
some_groups = viable_groups most_nested inner (viable_down most_nested)

an_annotation : Viable (AnAnnotation most_nested) (annotation standard inner)
an_annotation = viable_annotation most_nested inner (viable_down most_nested)

bar_front : (b : Option TokenPlace) (rest : List Token) → bar b rest ≡ bar b [] ++ rest
bar_front None rest = refl
bar_front (Some p) rest = refl

abbrev made : Option TokenPlace → Word → GroupList → Annotation → Constructor
made b x gs a = record { bar = b; name = x; groups = gs; annotation = a }

-- behind its bar, which was read
viable_constructor : (b : Option TokenPlace) (start i : List Token) → start ≡ bar b [] ++ i → Answers (With b) start (constructor standard inner b i)
unfolding constructor
viable_constructor b start i h =
    answer_word (With b) start _ (bar b []) i (x_token ∷ []) (made b x_word NoGroup Untyped) h ((tt, tt), refl) (λ tail. bar_front b (x_token ∷ tail)) (λ tail. tt)
    (λ x rest h2. answer_part (With b) start (MoreGroups most_nested) (groups standard inner rest) _ (bar b [] ++ spelled.identifier x ∷ []) rest [] (λ gs. made b x gs Untyped) h2 (some_groups rest) (λ gs g. ((g, tt), refl)) (λ gs tail. bar_front b (spelled.identifier x ∷ spelled.groups gs tail) ∙ sym (append_assoc (bar b []) (spelled.identifier x ∷ []) (spelled.groups gs tail))) (λ gs tail. (None, refl, tt))
    (λ gs rest2 rg h3. answer_last (With b) start (AnAnnotation most_nested) (annotation standard inner rest2) ((bar b [] ++ spelled.identifier x ∷ []) ++ rg.word) rest2 (λ a. made b x gs a) h3 (an_annotation rest2) (λ a g. ((rg.fits, g), refl)) (λ a tail. bar_front b (spelled.identifier x ∷ spelled.groups gs (spelled.annotation a tail)) ∙ ap (λ w. bar b [] ++ (spelled.identifier x ∷ w)) (rg.spelled (spelled.annotation a tail)) ∙ sym (append_assoc (bar b []) (spelled.identifier x ∷ []) (rg.word ++ spelled.annotation a tail)) ∙ sym (append_assoc (bar b [] ++ spelled.identifier x ∷ []) rg.word (spelled.annotation a tail))) (λ a tail. ap (λ f. first f (annotation_fault a most_nested tail)) (rg.sound (spelled.annotation a tail))) (λ a rest' _ _. tt)))

some_bar : (b : Option TokenPlace) (p : TokenPlace) → b ≡ Some p → IsBarred b
some_bar b p e = subst IsBarred (sym e) tt

viable_barred : Viable Barred (barred standard inner)
unfolding barred
viable_barred i = answer_mark Barred i sign.Bar _ [] i (symbol (codes "|") spare ∷ x_token ∷ []) (made (Some spare) x_word NoGroup Untyped) refl refl (tt, (tt, tt)) (λ tail. refl) (λ tail. tt)
    (λ p rest h. answer_as (With (Some p)) Barred i (constructor standard inner (Some p) rest) (λ c g. (some_bar c.bar p g.1, g.0)) (λ c tail. refl) (λ c tail g. refl) (λ c rest' g e. tt) (viable_constructor (Some p) i rest h))

viable_first : Viable AnyConstructor (first_constructor standard inner)
unfolding first_constructor barred
viable_first i = answer_if AnyConstructor i (is_sign (sign_at i) sign.Bar) _ _
    (λ _. answer_mark AnyConstructor i sign.Bar _ [] i (x_token ∷ []) (made None x_word NoGroup Untyped) refl refl (tt, tt) (λ tail. refl) (λ tail. tt)
    (λ p rest h. answer_as (With (Some p)) AnyConstructor i (constructor standard inner (Some p) rest) (λ c g. g.0) (λ c tail. refl) (λ c tail g. refl) (λ c rest' g e. tt) (viable_constructor (Some p) i rest h)))
    (λ _. answer_as (With None) AnyConstructor i (constructor standard inner None i) (λ c g. g.0) (λ c tail. refl) (λ c tail g. refl) (λ c rest' g e. tt) (viable_constructor None i i refl))

viable_more : Viable MoreBarred (repeated (λ s. is_sign s sign.Bar) (barred standard inner) with_constructor [])
viable_more = viable_repeated Barred MoreBarred (λ s. is_sign s sign.Bar) (barred standard inner) with_constructor [] viable_barred tt (λ tail. refl) (λ tail. refl) (λ c cs g h. (g.0, g.1, h)) (λ c cs tail. refl) (λ c cs tail. refl) (λ rest _. tt) (λ c cs rest _. tt)

viable_constructors : Viable SomeConstructors (constructors standard inner)
unfolding constructors
viable_constructors i = answer_if SomeConstructors i (begins_constructor (sign_at i)) _ _
    (λ _. answer_part SomeConstructors i AnyConstructor (first_constructor standard inner i) _ [] i [] (λ c. c ∷ []) refl (viable_first i) (λ c g. (g, tt)) (λ c tail. refl) (λ c tail. (None, refl, tt))
    (λ c rest r h. answer_last SomeConstructors i MoreBarred (repeated (λ s. is_sign s sign.Bar) (barred standard inner) with_constructor [] rest) r.word rest (λ cs. c ∷ cs) h (viable_more rest) (λ cs g. (r.fits, g)) (λ cs tail. r.spelled (spelled_constructors cs tail)) (λ cs tail. ap (λ f. first f (constructors_faults plain cs tail)) (r.sound (spelled_constructors cs tail))) (λ cs rest' _ _. tt)))
    (λ _. answer_pure SomeConstructors i [] i [] refl tt (λ tail. refl) (λ tail. refl) tt)

-- the word of a command
abbrev IsTextOf : List ℕ → Option CommandWord → Type 0
IsTextOf text None = Unit {0}
IsTextOf text (Some w) = text ≡ word_text w

pick : (P : Option CommandWord → Type 0) (b : Bool) (x y : Option CommandWord) → (b ≡ true → P x) → P y → P (cond b x y)
pick P true x y f g = f refl
pick P false x y f g = g

same_text : (a b : List ℕ) → bytes_eq a b ≡ true → a ≡ b
same_text a b e = (bytes_eq-Decides a b).0 e

text_of : (text : List ℕ) → IsTextOf text (word_of_text text)
unfolding word_of_text
text_of text =
    pick (IsTextOf text) (bytes_eq text (codes "Axiom")) _ _ (λ e. same_text text _ e) (
    pick (IsTextOf text) (bytes_eq text (codes "Parameter")) _ _ (λ e. same_text text _ e) (
    pick (IsTextOf text) (bytes_eq text (codes "Definition")) _ _ (λ e. same_text text _ e) (
    pick (IsTextOf text) (bytes_eq text (codes "Theorem")) _ _ (λ e. same_text text _ e) (
    pick (IsTextOf text) (bytes_eq text (codes "Lemma")) _ _ (λ e. same_text text _ e) (
    pick (IsTextOf text) (bytes_eq text (codes "Inductive")) _ _ (λ e. same_text text _ e) (
    pick (IsTextOf text) (bytes_eq text (codes "Check")) _ _ (λ e. same_text text _ e) (
    pick (IsTextOf text) (bytes_eq text (codes "Proof")) _ _ (λ e. same_text text _ e) (
    pick (IsTextOf text) (bytes_eq text (codes "Qed")) _ _ (λ e. same_text text _ e) (
    pick (IsTextOf text) (bytes_eq text (codes "Defined")) _ _ (λ e. same_text text _ e) (
    pick (IsTextOf text) (bytes_eq text (codes "Admitted")) _ _ (λ e. same_text text _ e) (
    pick (IsTextOf text) (bytes_eq text (codes "Abort")) _ _ (λ e. same_text text _ e) tt)))))))))))

viable_axiom : (start : List Token) (p : TokenPlace) (i : List Token) → start ≡ (keyword (codes "Axiom") p ∷ []) ++ i → Answers Commands start (behind standard most_nested word.Axiom p i)
viable_axiom start p i h =
    answer_word Commands start _ (keyword (codes "Axiom") p ∷ []) i (x_token ∷ symbol (codes ":") spare ∷ x_token ∷ []) (Assume assumption.Axiom p x_word spare x_term) h tt (λ tail. refl) (λ tail. tt)
    (λ x rest h2. answer_mark Commands start sign.Colon _ (keyword (codes "Axiom") p ∷ spelled.identifier x ∷ []) rest (symbol (codes ":") spare ∷ x_token ∷ []) (Assume assumption.Axiom p x spare x_term) refl h2 tt (λ tail. refl) (λ tail. tt)
    (λ q rest2 h3. answer_last Commands start (Down Whole most_nested) (inner Whole rest2) (keyword (codes "Axiom") p ∷ spelled.identifier x ∷ symbol (codes ":") q ∷ []) rest2 (λ t. Assume assumption.Axiom p x q t) h3 (whole rest2) (λ t g. g.0) (λ t tail. refl) (λ t tail. refl) (λ t rest' _ _. tt)))

viable_parameter : (start : List Token) (p : TokenPlace) (i : List Token) → start ≡ (keyword (codes "Parameter") p ∷ []) ++ i → Answers Commands start (behind standard most_nested word.Parameter p i)
viable_parameter start p i h =
    answer_word Commands start _ (keyword (codes "Parameter") p ∷ []) i (x_token ∷ symbol (codes ":") spare ∷ x_token ∷ []) (Assume assumption.Parameter p x_word spare x_term) h tt (λ tail. refl) (λ tail. tt)
    (λ x rest h2. answer_mark Commands start sign.Colon _ (keyword (codes "Parameter") p ∷ spelled.identifier x ∷ []) rest (symbol (codes ":") spare ∷ x_token ∷ []) (Assume assumption.Parameter p x spare x_term) refl h2 tt (λ tail. refl) (λ tail. tt)
    (λ q rest2 h3. answer_last Commands start (Down Whole most_nested) (inner Whole rest2) (keyword (codes "Parameter") p ∷ spelled.identifier x ∷ symbol (codes ":") q ∷ []) rest2 (λ t. Assume assumption.Parameter p x q t) h3 (whole rest2) (λ t g. g.0) (λ t tail. refl) (λ t tail. refl) (λ t rest' _ _. tt)))

viable_definition : (start : List Token) (p : TokenPlace) (i : List Token) → start ≡ (keyword (codes "Definition") p ∷ []) ++ i → Answers Commands start (behind standard most_nested word.Definition p i)
viable_definition start p i h =
    answer_word Commands start _ (keyword (codes "Definition") p ∷ []) i (x_token ∷ symbol (codes ":=") spare ∷ x_token ∷ []) (Define p x_word NoGroup Untyped spare x_term) h (tt, tt, tt) (λ tail. refl) (λ tail. tt)
    (λ x rest h2. answer_part Commands start (MoreGroups most_nested) (groups standard inner rest) _ (keyword (codes "Definition") p ∷ spelled.identifier x ∷ []) rest (symbol (codes ":=") spare ∷ x_token ∷ []) (λ gs. Define p x gs Untyped spare x_term) h2 (some_groups rest) (λ gs g. (g, tt, tt)) (λ gs tail. refl) (λ gs tail. (None, refl, tt))
    (λ gs rest2 rg h3. answer_part Commands start (AnAnnotation most_nested) (annotation standard inner rest2) _ (keyword (codes "Definition") p ∷ spelled.identifier x ∷ rg.word) rest2 (symbol (codes ":=") spare ∷ x_token ∷ []) (λ a. Define p x gs a spare x_term) h3 (an_annotation rest2) (λ a g. (rg.fits, g, tt)) (λ a tail. ap (λ w. keyword (codes "Definition") p ∷ spelled.identifier x ∷ w) (rg.spelled _)) (λ a tail. (None, ap (λ f. first f (first (annotation_fault a most_nested (symbol (codes ":=") spare ∷ x_token ∷ tail)) None)) (rg.sound (spelled.annotation a (symbol (codes ":=") spare ∷ x_token ∷ tail))), tt))
    (λ a rest3 ra h4. answer_mark Commands start sign.Assign _ ((keyword (codes "Definition") p ∷ spelled.identifier x ∷ rg.word) ++ ra.word) rest3 (symbol (codes ":=") spare ∷ x_token ∷ []) (Define p x gs a spare x_term) refl h4 (rg.fits, ra.fits, tt) (λ tail. ap (λ w. keyword (codes "Definition") p ∷ spelled.identifier x ∷ w) (rg.spelled _) ∙ simp (ra.spelled, append_assoc)) (λ tail. behind_none _ _ (none_first _ _ (rg.sound _) (none_first _ _ (ra.sound _) refl)))
    (λ q rest4 h5. answer_last Commands start (Down Whole most_nested) (inner Whole rest4) (((keyword (codes "Definition") p ∷ spelled.identifier x ∷ rg.word) ++ ra.word) ++ symbol (codes ":=") q ∷ []) rest4 (λ t. Define p x gs a q t) h5 (whole rest4) (λ t g. (rg.fits, ra.fits, g.0)) (λ t tail. ap (λ w. keyword (codes "Definition") p ∷ spelled.identifier x ∷ w) (rg.spelled _) ∙ simp (ra.spelled, append_assoc)) (λ t tail. ap (λ f. first f (first (annotation_fault a most_nested (symbol (codes ":=") q ∷ spells t tail)) (term_fault t tail))) (rg.sound (spelled.annotation a (symbol (codes ":=") q ∷ spells t tail))) ∙ ap (λ f. first f (term_fault t tail)) (ra.sound (symbol (codes ":=") q ∷ spells t tail))) (λ t rest' _ _. tt)))))

viable_theorem : (start : List Token) (p : TokenPlace) (i : List Token) → start ≡ (keyword (codes "Theorem") p ∷ []) ++ i → Answers Commands start (behind standard most_nested word.Theorem p i)
viable_theorem start p i h =
    answer_word Commands start _ (keyword (codes "Theorem") p ∷ []) i (x_token ∷ symbol (codes ":") spare ∷ x_token ∷ []) (State statement.Theorem p x_word NoGroup spare x_term) h (tt, tt) (λ tail. refl) (λ tail. tt)
    (λ x rest h2. answer_part Commands start (MoreGroups most_nested) (groups standard inner rest) _ (keyword (codes "Theorem") p ∷ spelled.identifier x ∷ []) rest (symbol (codes ":") spare ∷ x_token ∷ []) (λ gs. State statement.Theorem p x gs spare x_term) h2 (some_groups rest) (λ gs g. (g, tt)) (λ gs tail. refl) (λ gs tail. (None, refl, tt))
    (λ gs rest2 rg h3. answer_mark Commands start sign.Colon _ (keyword (codes "Theorem") p ∷ spelled.identifier x ∷ rg.word) rest2 (symbol (codes ":") spare ∷ x_token ∷ []) (State statement.Theorem p x gs spare x_term) refl h3 (rg.fits, tt) (λ tail. ap (λ w. keyword (codes "Theorem") p ∷ spelled.identifier x ∷ w) (rg.spelled _)) (λ tail. behind_none _ _ (none_first _ _ (rg.sound _) refl))
    (λ q rest3 h4. answer_last Commands start (Down Whole most_nested) (inner Whole rest3) ((keyword (codes "Theorem") p ∷ spelled.identifier x ∷ rg.word) ++ symbol (codes ":") q ∷ []) rest3 (λ t. State statement.Theorem p x gs q t) h4 (whole rest3) (λ t g. (rg.fits, g.0)) (λ t tail. ap (λ w. keyword (codes "Theorem") p ∷ spelled.identifier x ∷ w) (rg.spelled _) ∙ simp append_assoc) (λ t tail. ap (λ f. first f (term_fault t tail)) (rg.sound (symbol (codes ":") q ∷ spells t tail))) (λ t rest' _ _. tt))))

viable_lemma : (start : List Token) (p : TokenPlace) (i : List Token) → start ≡ (keyword (codes "Lemma") p ∷ []) ++ i → Answers Commands start (behind standard most_nested word.Lemma p i)
viable_lemma start p i h =
    answer_word Commands start _ (keyword (codes "Lemma") p ∷ []) i (x_token ∷ symbol (codes ":") spare ∷ x_token ∷ []) (State statement.Lemma p x_word NoGroup spare x_term) h (tt, tt) (λ tail. refl) (λ tail. tt)
    (λ x rest h2. answer_part Commands start (MoreGroups most_nested) (groups standard inner rest) _ (keyword (codes "Lemma") p ∷ spelled.identifier x ∷ []) rest (symbol (codes ":") spare ∷ x_token ∷ []) (λ gs. State statement.Lemma p x gs spare x_term) h2 (some_groups rest) (λ gs g. (g, tt)) (λ gs tail. refl) (λ gs tail. (None, refl, tt))
    (λ gs rest2 rg h3. answer_mark Commands start sign.Colon _ (keyword (codes "Lemma") p ∷ spelled.identifier x ∷ rg.word) rest2 (symbol (codes ":") spare ∷ x_token ∷ []) (State statement.Lemma p x gs spare x_term) refl h3 (rg.fits, tt) (λ tail. ap (λ w. keyword (codes "Lemma") p ∷ spelled.identifier x ∷ w) (rg.spelled _)) (λ tail. behind_none _ _ (none_first _ _ (rg.sound _) refl))
    (λ q rest3 h4. answer_last Commands start (Down Whole most_nested) (inner Whole rest3) ((keyword (codes "Lemma") p ∷ spelled.identifier x ∷ rg.word) ++ symbol (codes ":") q ∷ []) rest3 (λ t. State statement.Lemma p x gs q t) h4 (whole rest3) (λ t g. (rg.fits, g.0)) (λ t tail. ap (λ w. keyword (codes "Lemma") p ∷ spelled.identifier x ∷ w) (rg.spelled _) ∙ simp append_assoc) (λ t tail. ap (λ f. first f (term_fault t tail)) (rg.sound (symbol (codes ":") q ∷ spells t tail))) (λ t rest' _ _. tt))))

viable_inductive : (start : List Token) (p : TokenPlace) (i : List Token) → start ≡ (keyword (codes "Inductive") p ∷ []) ++ i → Answers Commands start (behind standard most_nested word.Inductive p i)
viable_inductive start p i h =
    answer_word Commands start _ (keyword (codes "Inductive") p ∷ []) i (x_token ∷ symbol (codes ":") spare ∷ x_token ∷ symbol (codes ":=") spare ∷ []) (Inductive p x_word NoGroup spare x_term spare []) h (tt, tt, tt) (λ tail. refl) (λ tail. tt)
    (λ x rest h2. answer_part Commands start (MoreGroups most_nested) (groups standard inner rest) _ (keyword (codes "Inductive") p ∷ spelled.identifier x ∷ []) rest (symbol (codes ":") spare ∷ x_token ∷ symbol (codes ":=") spare ∷ []) (λ gs. Inductive p x gs spare x_term spare []) h2 (some_groups rest) (λ gs g. (g, tt, tt)) (λ gs tail. refl) (λ gs tail. (None, refl, tt))
    (λ gs rest2 rg h3. answer_mark Commands start sign.Colon _ (keyword (codes "Inductive") p ∷ spelled.identifier x ∷ rg.word) rest2 (symbol (codes ":") spare ∷ x_token ∷ symbol (codes ":=") spare ∷ []) (Inductive p x gs spare x_term spare []) refl h3 (rg.fits, tt, tt) (λ tail. ap (λ w. keyword (codes "Inductive") p ∷ spelled.identifier x ∷ w) (rg.spelled _)) (λ tail. behind_none _ _ (none_first _ _ (rg.sound _) refl))
    (λ q rest3 h4. answer_part Commands start (Down Whole most_nested) (inner Whole rest3) _ ((keyword (codes "Inductive") p ∷ spelled.identifier x ∷ rg.word) ++ symbol (codes ":") q ∷ []) rest3 (symbol (codes ":=") spare ∷ []) (λ t. Inductive p x gs q t spare []) h4 (whole rest3) (λ t g. (rg.fits, g.0, tt)) (λ t tail. ap (λ w. keyword (codes "Inductive") p ∷ spelled.identifier x ∷ w) (rg.spelled _) ∙ simp append_assoc) (λ t tail. (None, ap (λ f. first f (first (term_fault t (symbol (codes ":=") spare ∷ tail)) None)) (rg.sound (symbol (codes ":") q ∷ spells t (symbol (codes ":=") spare ∷ tail))), tt))
    (λ t rest4 rt h5. answer_mark Commands start sign.Assign _ (((keyword (codes "Inductive") p ∷ spelled.identifier x ∷ rg.word) ++ symbol (codes ":") q ∷ []) ++ rt.word) rest4 (symbol (codes ":=") spare ∷ []) (Inductive p x gs q t spare []) refl h5 (rg.fits, rt.fits.0, tt) (λ tail. ap (λ w. keyword (codes "Inductive") p ∷ spelled.identifier x ∷ w) (rg.spelled _) ∙ simp (rt.spelled, append_assoc)) (λ tail. behind_none _ _ (none_first _ _ (rg.sound _) (none_first _ _ (rt.sound _) refl)))
    (λ r rest5 h6. answer_last Commands start SomeConstructors (constructors standard inner rest5) ((((keyword (codes "Inductive") p ∷ spelled.identifier x ∷ rg.word) ++ symbol (codes ":") q ∷ []) ++ rt.word) ++ symbol (codes ":=") r ∷ []) rest5 (λ cs. Inductive p x gs q t r cs) h6 (viable_constructors rest5) (λ cs g. (rg.fits, rt.fits.0, g)) (λ cs tail. ap (λ w. keyword (codes "Inductive") p ∷ spelled.identifier x ∷ w) (rg.spelled _) ∙ simp (rt.spelled, append_assoc)) (λ cs tail. ap (λ f. first f (first (term_fault t (symbol (codes ":=") r ∷ spelled_constructors cs tail)) (constructors_faults plain cs tail))) (rg.sound (symbol (codes ":") q ∷ spells t (symbol (codes ":=") r ∷ spelled_constructors cs tail))) ∙ ap (λ f. first f (constructors_faults plain cs tail)) (rt.sound (symbol (codes ":=") r ∷ spelled_constructors cs tail))) (λ cs rest' _ _. tt))))))

viable_check : (start : List Token) (p : TokenPlace) (i : List Token) → start ≡ (keyword (codes "Check") p ∷ []) ++ i → Answers Commands start (behind standard most_nested word.Check p i)
viable_check start p i h =
    answer_last Commands start (Down Whole most_nested) (inner Whole i) (keyword (codes "Check") p ∷ []) i (λ t. Check p t) h (whole i) (λ t g. g.0) (λ t tail. refl) (λ t tail. refl) (λ t rest' _ _. tt)

viable_behind : (w : CommandWord) (start : List Token) (p : TokenPlace) (i : List Token) → start ≡ (keyword (word_text w) p ∷ []) ++ i → Answers Commands start (behind standard most_nested w p i)
viable_behind word.Axiom start p i h = viable_axiom start p i h
viable_behind word.Parameter start p i h = viable_parameter start p i h
viable_behind word.Definition start p i h = viable_definition start p i h
viable_behind word.Theorem start p i h = viable_theorem start p i h
viable_behind word.Lemma start p i h = viable_lemma start p i h
viable_behind word.Inductive start p i h = viable_inductive start p i h
viable_behind word.Check start p i h = viable_check start p i h
viable_behind word.Proof start p i h = answer_pure Commands start (keyword (codes "Proof") p ∷ []) i (Proof p) h tt (λ tail. refl) (λ tail. refl) tt
viable_behind word.Qed start p i h = answer_pure Commands start (keyword (codes "Qed") p ∷ []) i (Qed p) h tt (λ tail. refl) (λ tail. refl) tt
viable_behind word.Defined start p i h = answer_pure Commands start (keyword (codes "Defined") p ∷ []) i (Defined p) h tt (λ tail. refl) (λ tail. refl) tt
viable_behind word.Admitted start p i h = answer_pure Commands start (keyword (codes "Admitted") p ∷ []) i (Admitted p) h tt (λ tail. refl) (λ tail. refl) tt
viable_behind word.Abort start p i h = answer_pure Commands start (keyword (codes "Abort") p ∷ []) i (Aborted p) h tt (λ tail. refl) (λ tail. refl) tt

-- a word that was seen
at_word : (t : Token) (rest : List Token) (w : CommandWord) → is_sign (sign_of t) sign.Identifier ≡ true → t.text ≡ word_text w → Answers Commands (t ∷ rest) (by_word standard inner (Some w) (t ∷ rest))
at_word t rest w e k =
    let same : by_word standard inner (Some w) (t ∷ rest) ≡ behind standard most_nested w (place_of t) rest = word_behind standard most_nested w (t ∷ rest) ∙ ap (λ o. and_then o (behind standard most_nested w)) (took _ _ e) in
    subst (Answers Commands (t ∷ rest)) (sym same) (viable_behind w (t ∷ rest) (place_of t) rest (ap (λ x. x ∷ rest) (is_token t kind.Identifier (word_text w) (written_as t sign.Identifier e) k)))

unknown : (i : List Token) → Answers Commands i (by_word standard inner None i)
unknown i = answer_refuse Commands i [] i (keyword (codes "Qed") spare ∷ []) (Qed spare) refl tt (λ tail. refl) (λ tail. tt)

at_first : (t : Token) (rest : List Token) (b : Bool) (o : Option CommandWord) → is_sign (sign_of t) sign.Identifier ≡ b → IsTextOf t.text o → Answers Commands (t ∷ rest) (by_word standard inner (cond b o None) (t ∷ rest))
at_first t rest false o e k = unknown (t ∷ rest)
at_first t rest true None e k = unknown (t ∷ rest)
at_first t rest true (Some w) e k = at_word t rest w e k

viable_row : Viable Commands (row standard inner)
unfolding row
viable_row [] = unknown []
viable_row (t ∷ rest) =
    subst (λ b. Answers Commands (t ∷ rest) (by_word standard inner (cond b (word_of_text t.text) None) (t ∷ rest))) (sym (identifier_by_kind t))
    (at_first t rest (is_sign (sign_of t) sign.Identifier) (word_of_text t.text) refl (text_of t.text))

-- a command, and then the end
abbrev pub WholeCommand : Shape Command
WholeCommand = record { good = IsCommand; tokens = command_spells; fault = command_faults plain; follows = λ c rest. rest ≡ [] }

at_end : (i : List Token) (c : Command) (rest : List Token) → Read Commands i c rest → Answers WholeCommand i (and_then (ended rest) (λ _. pure c))
at_end i c [] r = answer_pure WholeCommand i r.word [] c r.parts r.fits r.spelled r.sound refl
at_end i c (t ∷ rest) r = answer_refuse WholeCommand i r.word (t ∷ rest) [] c r.parts r.fits r.spelled (λ tail. behind_none _ _ (r.sound tail))

pub viable_command : Viable WholeCommand whole_command
unfolding command
viable_command i = answer_part WholeCommand i Commands (row standard inner i) _ [] i [] (λ c. c) refl (viable_row i) (λ c g. g) (λ c tail. refl) (λ c tail. (None, sym (first_none _), tt)) (λ c rest r h. at_end i c rest r)
