-- The function of a token list gives its one move, or the leftmost refusal.
use Rattle.std.proofs.Common.{◌≡◌, ℕ, inl, inr, Bool, true, false, cond, Option, None, Some, Result, Ok, Err, List, [], ◌∷◌, ◌++◌, codes, bytes_eq, refl, sym, ◌∙◌, ap, subst, append-nil}
use denote.Enum.Bare.{sameb, same_true}
use Rattle.coq_syntax.specs.declared.token.Token.{Token}
use Rattle.coq_syntax.specs.declared.token.TokenKind.TheVariants.{Identifier}
use Rattle.coq_syntax.specs.contracts.token.TokenKind.{the_type}
use Rattle.coq_syntax.specs.declared.words.TokenPlace.{TokenPlace}
use Rattle.coq_syntax.specs.declared.words.Word.{Word}
use Rattle.coq_syntax.specs.declared.words.BoundName.{BoundName}
use Rattle.coq_syntax.specs.declared.words.BoundName.TheVariants.{Named, Unnamed}
use Rattle.coq_syntax.specs.declared.moves.Direction.{Direction}
use Rattle.coq_syntax.specs.declared.moves.Direction.TheVariants.{Unmarked, Forward, Backward}
use Rattle.coq_syntax.specs.Trees.{Term}
use Rattle.coq_syntax.specs.MoveTrees.{PatternCase, Pattern, Move}
use Rattle.coq_syntax.specs.Spelled.{keyword, identifier, name, names}
use Rattle.coq_syntax.specs.Grammar.{IsTermOf}
use Rattle.coq_syntax.specs.Faults.{Fault}
use Rattle.coq_syntax.specs.Moves.{identifiers, cases, IsMoveOf, move_fault}
use Rattle.coq_syntax.specs.Refusals.{Outcome, unexpected, IsUnexpected}
use Rattle.coq_syntax.specs.Meets.{fault_of_term, IsRead, IsRefused, IsAnswer}
use Rattle.coq_syntax.specs.MeetsWhole.{IsRefusedWhole, IsWholeAnswer}
use Rattle.vernac_parser.specs.Parser.{place_of, word_of}
use Rattle.vernac_parser.specs.Parse.{whole_term}
use Rattle.vernac_parser.proofs.SignLaws.{is_token}
use Rattle.vernac_parser.proofs.Answering.{answers_meet}
use Rattle.move_parser.specs.declared.cursor.Halt.{Halt}
use Rattle.move_parser.specs.declared.cursor.Halt.TheVariants.{Unexpected}
use Rattle.move_parser.specs.declared.mark.Mark.{Mark}
use Rattle.move_parser.specs.declared.mark.Mark.TheVariants as mark
use Rattle.move_parser.specs.declared.move_word.MoveWord.{MoveWord}
use Rattle.move_parser.specs.declared.move_word.MoveWord.TheVariants as word
use Rattle.move_parser.specs.declared.move_word.PlainWord.{PlainWord}
use Rattle.move_parser.specs.declared.move_word.PlainWord.TheVariants as plain
use Rattle.move_parser.specs.Marks.{written, is_mark}
use Rattle.move_parser.specs.MoveWords.{word_of_text, text_of}
use Rattle.move_parser.specs.MoveRests.{PlainRest, Rest, build}
use Rattle.move_parser.specs.Reading.{NoneNext, is_wildcard}
use Rattle.move_parser.specs.Parts.{IsEndOf, IsOptionalOf, AreIdentifiersOf, IsIdentifierOf, IsPatternOf, IsSubjectOf, IsRewritingOf, fault_of_rewriting, no_fault, IsPart, AreNames, AreCases}
use Rattle.move_parser.specs.WholeMove.{Part, ◌>>=◌, next, is_identifier, ending, optional_by, optional_part, identifier_part, identifiers_at, identifiers_part, Body, front_name, front_bar, body_at, pattern_of, pattern_part, subject_part, plain_part, faulty, term_by, term_part, arrow_by, arrow, directed, rewriting_part, rest_part, whole, by_word, move_word, whole_move}
use Rattle.move_parser.specs.WholeMove as spec
use Rattle.move_parser.proofs.Marking.{mark_is, wildcard_is}
use Rattle.move_parser.proofs.Tokens.{none_at_end, heads, bar_no_name}
use Rattle.move_parser.proofs.Ending.{end_refused}
use Rattle.move_parser.proofs.Behind.{refused_behind, read_behind}
use Rattle.move_parser.proofs.PartLaws.{identifier_halted, identifier_end_halted, some_end_halted, none_end_halted, identifiers_end_halted, keyword_halted, opening_halted, closing_halted, pattern_end_halted, subject_halted, subject_pattern_halted}
use Rattle.move_parser.proofs.Terms.{term_whole, term_left, behind_forward, behind_backward, behind_unmarked}
use Rattle.move_parser.proofs.Words.{IsPlainRest, IsRest, rest_fault, behind_word, is_move_word, no_word_first}

-- these tokens, as a halt at them
here : List Token → Halt
here l = Unexpected (record { ref_ptr = (0, 0); now = l })

-- ---- the next token

abbrev IsNext : {X : Type 0} → (X → Token) → List Token → Part (X × List Token) → Type 0
IsNext make l (Ok p) = l ≡ make p.0 ∷ p.1
IsNext make l (Err left) = (left ≡ l) × NoneNext make l

-- a test tells which tokens are made so
record Tells {X : Type 0} (test : Token → Bool) (get : Token → X) (make : X → Token) : Type 0 where
  pub passed : (t : Token) → test t ≡ true → t ≡ make (get t)
  pub made : (x : X) → test (make x) ≡ true

next_by : {X : Type 0} (test : Token → Bool) (get : Token → X) (make : X → Token) → Tells test get make → (b : Bool) (t : Token) (rest : List Token) → test t ≡ b → IsNext make (t ∷ rest) (cond b (Ok (get t, rest)) (Err (t ∷ rest)))
next_by test get make tells true t rest e = ap (λ x. x ∷ rest) (tells.passed t e)
next_by test get make tells false t rest e = (refl, λ x w same. let bad : false ≡ true = sym e ∙ ap test (heads t (make x) rest w same) ∙ tells.made x in cc)

next_is : {X : Type 0} (test : Token → Bool) (get : Token → X) (make : X → Token) → Tells test get make → (l : List Token) → IsNext make l (next test get l)
next_is test get make tells [] = (refl, none_at_end make)
next_is test get make tells (t ∷ rest) = next_by test get make tells (test t) t rest refl

identifiers_tell : Tells is_identifier word_of identifier
identifiers_tell = record {
  passed = λ t e. is_token t Identifier t.text (same_true the_type tt t.kind Identifier e) refl;
  made = λ x. refl;
}

mark_made : (m : Mark) (p : TokenPlace) → is_mark m (written m p) ≡ true
mark_made mark.As p = refl
mark_made mark.OpenBracket p = refl
mark_made mark.CloseBracket p = refl
mark_made mark.Bar p = refl
mark_made mark.Forward p = refl
mark_made mark.Backward p = refl

marks_tell : (m : Mark) → Tells (is_mark m) place_of (written m)
marks_tell m = record { passed = mark_is m; made = mark_made m }

next_identifier : (l : List Token) → IsNext identifier l (spec.identifier l)
next_identifier l = next_is is_identifier word_of identifier identifiers_tell l

next_mark : (m : Mark) (l : List Token) → IsNext (written m) l (spec.marked m l)
next_mark m l = next_is (is_mark m) place_of (written m) (marks_tell m) l

-- ---- the parts of moves without a term

abbrev IsPartOf : {A : Type 0} → (List Token → A → Type 0) → List Token → Part A → Type 0
IsPartOf Is l (Ok x) = Is l x
IsPartOf Is l (Err left) = IsUnexpected Is no_fault l left

refused_end : (t : Token) (rest : List Token) → IsPart IsEndOf no_fault (λ (_ : Unit {0}). tt) (t ∷ rest) (Err (here (t ∷ rest)))
unfolding here
refused_end t rest = end_refused (t ∷ rest) (here (t ∷ rest)) refl (λ e. cc)

end_is : (l : List Token) → IsPartOf IsEndOf l (ending tt l)
unfolding here
end_is [] = refl
end_is (t ∷ rest) = refused_end t rest

some_is : (l : List Token) (w : Word) (rest : List Token) → l ≡ identifier w ∷ rest → IsPartOf IsOptionalOf l (ending (Some w) rest)
unfolding here
some_is l w [] e = sym e
some_is l w (t ∷ rest) e = some_end_halted (λ (x : Option Word). x) l (t ∷ rest) w (here (t ∷ rest)) e (refused_end t rest)

none_is : (l : List Token) → NoneNext identifier l → IsPartOf IsOptionalOf l (ending None l)
unfolding here
none_is [] none = refl
none_is (t ∷ rest) none = none_end_halted (λ (x : Option Word). x) (t ∷ rest) (t ∷ rest) (here (t ∷ rest)) refl none (refused_end t rest)

optional_is : (l : List Token) (r : Part (Word × List Token)) → IsNext identifier l r → IsPartOf IsOptionalOf l (optional_by l r)
optional_is l (Ok p) h = some_is l p.0 p.1 h
optional_is l (Err left) h = none_is l h.1

word_ends : (l : List Token) (w : Word) (rest : List Token) → l ≡ identifier w ∷ rest → IsPartOf IsIdentifierOf l (ending w rest)
unfolding here
word_ends l w [] e = sym e
word_ends l w (t ∷ rest) e = identifier_end_halted (λ (x : Word). x) l (t ∷ rest) w (here (t ∷ rest)) e (refused_end t rest)

identifier_is : (l : List Token) (r : Part (Word × List Token)) → IsNext identifier l r → IsPartOf IsIdentifierOf l (r >>= (λ x. ending x.0 x.1))
unfolding here
identifier_is l (Ok p) h = word_ends l p.0 p.1 h
identifier_is l (Err left) h = identifier_halted (λ (x : Word). x) l l (here left) h

-- identifiers

pub record AreRead (l : List Token) (r : List Word × List Token) : Type 0 where
  pub parts : l ≡ identifiers r.0 ++ r.1
  pub stops : NoneNext identifier r.1

words_more : (b : Bool) (t : Token) (rest : List Token) → is_identifier t ≡ b → AreRead rest (identifiers_at rest) → AreRead (t ∷ rest) (cond b (spec.front_word (word_of t) (identifiers_at rest)) ([], t ∷ rest))
words_more true t rest e r = record { parts = ap (λ x. x ∷ rest) (identifiers_tell.passed t e) ∙ ap (λ i. identifier (word_of t) ∷ i) r.parts; stops = r.stops }
words_more false t rest e r = record { parts = refl; stops = (next_by is_identifier word_of identifier identifiers_tell false t rest e).1 }

are_read : (l : List Token) → AreRead l (identifiers_at l)
unfolding identifiers_at
are_read [] = record { parts = refl; stops = none_at_end identifier }
are_read (t ∷ rest) = words_more (is_identifier t) t rest refl (are_read rest)

words_end : (l left : List Token) (ws : List Word) → l ≡ identifiers ws ++ left → NoneNext identifier left → IsPartOf AreIdentifiersOf l (ending ws left)
unfolding here
words_end l [] ws e none = sym (e ∙ append-nil (identifiers ws))
words_end l (t ∷ rest) ws e none = identifiers_end_halted (λ (x : List Word). x) l (t ∷ rest) (t ∷ rest) ws (here (t ∷ rest)) e refl none (refused_end t rest)

identifiers_are : (l : List Token) → IsPartOf AreIdentifiersOf l (identifiers_part l)
identifiers_are l = let r = are_read l in words_end l (identifiers_at l).1 (identifiers_at l).0 r.parts r.stops

-- names and bars

wildcard_made : (p : TokenPlace) → is_wildcard (name (Unnamed p)) ≡ true
wildcard_made p = refl

no_name : (t : Token) (rest : List Token) → is_wildcard t ≡ false → is_identifier t ≡ false → NoneNext name (t ∷ rest)
no_name t rest u v (Named w) r e = let bad : false ≡ true = sym v ∙ ap is_identifier (heads t (name (Named w)) rest r e) in cc
no_name t rest u v (Unnamed p) r e = let bad : false ≡ true = sym u ∙ ap is_wildcard (heads t (name (Unnamed p)) rest r e) in cc

record IsBody (l : List Token) (b : Body) : Type 0 where
  pub parts : l ≡ names b.first (cases b.others b.left)
  pub nameless : NoneNext name b.left
  pub barless : NoneNext (written mark.Bar) b.left

module _ (t : Token) (rest : List Token) (r : IsBody rest (body_at rest)) where
  by_bar : (b : Bool) → is_mark mark.Bar t ≡ b → is_wildcard t ≡ false → is_identifier t ≡ false → IsBody (t ∷ rest) (cond b (front_bar (place_of t) (body_at rest)) (record { first = []; others = []; left = t ∷ rest }))
  by_bar true e u v = record { parts = ap (λ x. x ∷ rest) (mark_is mark.Bar t e) ∙ ap (λ i. written mark.Bar (place_of t) ∷ i) r.parts; nameless = r.nameless; barless = r.barless }
  by_bar false e u v = record { parts = refl; nameless = no_name t rest u v; barless = (next_by (is_mark mark.Bar) place_of (written mark.Bar) (marks_tell mark.Bar) false t rest e).1 }

  by_name : (b : Bool) → is_identifier t ≡ b → is_wildcard t ≡ false → IsBody (t ∷ rest) (cond b (front_name (Named (word_of t)) (body_at rest)) (cond (is_mark mark.Bar t) (front_bar (place_of t) (body_at rest)) (record { first = []; others = []; left = t ∷ rest })))
  by_name true e u = record { parts = ap (λ x. x ∷ rest) (identifiers_tell.passed t e) ∙ ap (λ i. identifier (word_of t) ∷ i) r.parts; nameless = r.nameless; barless = r.barless }
  by_name false e u = by_bar (is_mark mark.Bar t) refl u e

  by_wildcard : (b : Bool) → is_wildcard t ≡ b → IsBody (t ∷ rest) (cond b (front_name (Unnamed (place_of t)) (body_at rest)) (cond (is_identifier t) (front_name (Named (word_of t)) (body_at rest)) (cond (is_mark mark.Bar t) (front_bar (place_of t) (body_at rest)) (record { first = []; others = []; left = t ∷ rest }))))
  by_wildcard true e = record { parts = ap (λ x. x ∷ rest) (wildcard_is t e) ∙ ap (λ i. name (Unnamed (place_of t)) ∷ i) r.parts; nameless = r.nameless; barless = r.barless }
  by_wildcard false e = by_name (is_identifier t) refl e

is_body : (l : List Token) → IsBody l (body_at l)
unfolding body_at
is_body [] = record { parts = refl; nameless = none_at_end name; barless = none_at_end (written mark.Bar) }
is_body (t ∷ rest) = by_wildcard t rest (is_body rest) (is_wildcard t) refl

-- where names are read as far as they go, none stands before a bar
before_cases : (cs : List PatternCase) (l : List Token) → NoneNext name l → NoneNext name (cases cs l)
before_cases [] l n = n
before_cases (c ∷ cs) l n = bar_no_name c.bar (names c.names (cases cs l))

module _ (l : List Token) (k : TokenPlace × List Token) (first : l ≡ written mark.As k.0 ∷ k.1) where
  pattern_ends : (o : TokenPlace × List Token) (c : TokenPlace) (rest : List Token) → k.1 ≡ written mark.OpenBracket o.0 ∷ o.1 → (body_at o.1).left ≡ written mark.CloseBracket c ∷ rest
      → IsPartOf IsPatternOf l (ending (Some (pattern_of k.0 o.0 (body_at o.1) c)) rest)
  unfolding here
  pattern_ends o c [] opening closing =
      let b = is_body o.1 in
      sym (first ∙ ap (λ i. written mark.As k.0 ∷ i) (opening ∙ ap (λ i. written mark.OpenBracket o.0 ∷ i) (b.parts ∙ ap (λ i. names (body_at o.1).first (cases (body_at o.1).others i)) closing)))
  pattern_ends o c (t ∷ rest) opening closing =
      let b = is_body o.1 in
      pattern_end_halted k.0 o.0 (body_at o.1).first (body_at o.1).others (λ (x : Option Pattern). x) l k.1 o.1 (cases (body_at o.1).others (body_at o.1).left) (body_at o.1).left (t ∷ rest) c (here (t ∷ rest)) first opening
      (b.parts, before_cases (body_at o.1).others (body_at o.1).left b.nameless) (refl, (λ _. b.nameless), b.barless) closing (refused_end t rest)

  closing_is : (o : TokenPlace × List Token) (r : Part (TokenPlace × List Token)) → k.1 ≡ written mark.OpenBracket o.0 ∷ o.1 → IsNext (written mark.CloseBracket) (body_at o.1).left r
      → IsPartOf IsPatternOf l (r >>= (λ c. ending (Some (pattern_of k.0 o.0 (body_at o.1) c.0)) c.1))
  unfolding here
  closing_is o (Ok c) opening h = pattern_ends o c.0 c.1 opening h
  closing_is o (Err left) opening h =
      let b = is_body o.1 in
      closing_halted k.0 o.0 (body_at o.1).first (body_at o.1).others (λ (x : Option Pattern). x) l k.1 o.1 (cases (body_at o.1).others (body_at o.1).left) (body_at o.1).left left (here left) first opening
      (b.parts, before_cases (body_at o.1).others (body_at o.1).left b.nameless) (refl, (λ _. b.nameless), b.barless) h

  opening_is : (r : Part (TokenPlace × List Token)) → IsNext (written mark.OpenBracket) k.1 r
      → IsPartOf IsPatternOf l (r >>= (λ o. spec.marked mark.CloseBracket (body_at o.1).left >>= (λ c. ending (Some (pattern_of k.0 o.0 (body_at o.1) c.0)) c.1)))
  unfolding here
  opening_is (Ok o) h = closing_is o (spec.marked mark.CloseBracket (body_at o.1).left) h (next_mark mark.CloseBracket (body_at o.1).left)
  opening_is (Err left) h = opening_halted (λ (x : Option Pattern). x) l k.1 left k.0 (here left) first h

keyword_is : (t : Token) (rest : List Token) (r : Part (TokenPlace × List Token)) → IsNext (written mark.As) (t ∷ rest) r
    → IsPartOf IsPatternOf (t ∷ rest) (r >>= (λ k. spec.marked mark.OpenBracket k.1 >>= (λ o. spec.marked mark.CloseBracket (body_at o.1).left >>= (λ c. ending (Some (pattern_of k.0 o.0 (body_at o.1) c.0)) c.1))))
unfolding here
keyword_is t rest (Ok k) h = opening_is (t ∷ rest) k h (spec.marked mark.OpenBracket k.1) (next_mark mark.OpenBracket k.1)
keyword_is t rest (Err left) h = keyword_halted (λ (x : Option Pattern). x) (t ∷ rest) left (here left) (λ e. cc) h

pattern_is : (l : List Token) → IsPartOf IsPatternOf l (pattern_part l)
pattern_is [] = refl
pattern_is (t ∷ rest) = keyword_is t rest (spec.marked mark.As (t ∷ rest)) (next_mark mark.As (t ∷ rest))

subject_pattern : (l : List Token) (w : Word) (rest : List Token) (r : Part (Option Pattern)) → l ≡ identifier w ∷ rest → IsPartOf IsPatternOf rest r → IsPartOf IsSubjectOf l (r >>= (λ p. Ok (w, p)))
unfolding here
subject_pattern l w rest (Ok p) e h = ap (λ i. identifier w ∷ i) h ∙ sym e
subject_pattern l w rest (Err left) e h = subject_pattern_halted (λ (x : Option Pattern). x) (λ (x : Word × Option Pattern). x) l rest w (here left) e h

subject_by : (l : List Token) (r : Part (Word × List Token)) → IsNext identifier l r → IsPartOf IsSubjectOf l (r >>= (λ x. pattern_part x.1 >>= (λ p. Ok (x.0, p))))
unfolding here
subject_by l (Ok x) h = subject_pattern l x.0 x.1 (pattern_part x.1) h (pattern_is x.1)
subject_by l (Err left) h = subject_halted (λ (x : Word × Option Pattern). x) l left (here left) h

plain_is : (w : PlainWord) (l : List Token) → IsPartOf (IsPlainRest w) l (plain_part w l)
plain_is plain.Intro l = optional_is l (spec.identifier l) (next_identifier l)
plain_is plain.Intros l = identifiers_are l
plain_is plain.Assumption l = end_is l
plain_is plain.Split l = end_is l
plain_is plain.Left l = end_is l
plain_is plain.Right l = end_is l
plain_is plain.Reflexivity l = end_is l
plain_is plain.Admit l = end_is l
plain_is plain.Simpl l = end_is l
plain_is plain.Unfold l = identifier_is l (spec.identifier l) (next_identifier l)
plain_is plain.Destruct l = subject_by l (spec.identifier l) (next_identifier l)
plain_is plain.Induction l = subject_by l (spec.identifier l) (next_identifier l)

-- ---- terms

abbrev IsWhole : {A : Type 0} → (List Token → A → Type 0) → (A → Option Fault) → List Token → Result A Fault → Type 0
IsWhole Is fault_of l (Ok x) = Is l x × (fault_of x ≡ None)
IsWhole Is fault_of l (Err f) = IsRefusedWhole Is fault_of l f

whole_part : {A : Type 0} (Is : List Token → A → Type 0) (l : List Token) (r : Part A) → IsPartOf Is l r → IsWhole Is no_fault l (faulty r)
whole_part Is l (Ok x) h = (h, refl)
whole_part Is l (Err left) h = inl (refl, h)

term_ends : (l : List Token) (t : Term) (rest : List Token) → IsRead l t rest → IsWhole IsTermOf fault_of_term l (faulty (ending t rest))
term_ends l t [] r = term_whole l [] t r refl
term_ends l t (x ∷ rest) r = inl (refl, term_left l (x ∷ rest) t r (λ e. cc))

refused_whole : (l : List Token) (f : Fault) → IsRefused l f → IsRefusedWhole IsTermOf fault_of_term l f
refused_whole l f (inl h) = inl (h.0, h.1)
refused_whole l f (inr h) = inr h

term_is : (l : List Token) (o : Outcome Term) → IsAnswer l o → IsWhole IsTermOf fault_of_term l (term_by o)
term_is l (Ok p) h = term_ends l p.0 p.1 h
term_is l (Err f) h = refused_whole l f h

term_here : (l : List Token) → IsWhole IsTermOf fault_of_term l (term_part l)
term_here l = term_is l (whole_term l) (answers_meet l)

forward_is : (p : TokenPlace) (l rest : List Token) (r : Result Term Fault) → l ≡ written mark.Forward p ∷ rest → IsWhole IsTermOf fault_of_term rest r → IsWhole IsRewritingOf fault_of_rewriting l (directed (Forward p) r)
forward_is p l rest (Ok t) e h =
    let whole = read_behind IsRewritingOf fault_of_rewriting IsTermOf fault_of_term (written mark.Forward p ∷ []) rest (λ t. (Forward p, t)) (behind_forward p rest) t h.0 h.1 in
    (subst (λ i. IsRewritingOf i (Forward p, t)) (sym e) whole.0, whole.1)
forward_is p l rest (Err f) e h =
    subst (λ i. IsRefusedWhole IsRewritingOf fault_of_rewriting i f) (sym e) (refused_behind IsRewritingOf fault_of_rewriting IsTermOf fault_of_term (written mark.Forward p ∷ []) rest (λ t. (Forward p, t)) (behind_forward p rest) f h)

backward_is : (p : TokenPlace) (l rest : List Token) (r : Result Term Fault) → l ≡ written mark.Backward p ∷ rest → IsWhole IsTermOf fault_of_term rest r → IsWhole IsRewritingOf fault_of_rewriting l (directed (Backward p) r)
backward_is p l rest (Ok t) e h =
    let whole = read_behind IsRewritingOf fault_of_rewriting IsTermOf fault_of_term (written mark.Backward p ∷ []) rest (λ t. (Backward p, t)) (behind_backward p rest) t h.0 h.1 in
    (subst (λ i. IsRewritingOf i (Backward p, t)) (sym e) whole.0, whole.1)
backward_is p l rest (Err f) e h =
    subst (λ i. IsRefusedWhole IsRewritingOf fault_of_rewriting i f) (sym e) (refused_behind IsRewritingOf fault_of_rewriting IsTermOf fault_of_term (written mark.Backward p ∷ []) rest (λ t. (Backward p, t)) (behind_backward p rest) f h)

unmarked_is : (l : List Token) (r : Result Term Fault) → NoneNext (written mark.Forward) l → NoneNext (written mark.Backward) l → IsWhole IsTermOf fault_of_term l r → IsWhole IsRewritingOf fault_of_rewriting l (directed Unmarked r)
unmarked_is l (Ok t) f b h = read_behind IsRewritingOf fault_of_rewriting IsTermOf fault_of_term [] l (λ t. (Unmarked, t)) (behind_unmarked l f b) t h.0 h.1
unmarked_is l (Err g) f b h = refused_behind IsRewritingOf fault_of_rewriting IsTermOf fault_of_term [] l (λ t. (Unmarked, t)) (behind_unmarked l f b) g h

rewriting_by : (l : List Token) (there back : Part (TokenPlace × List Token)) → IsNext (written mark.Forward) l there → IsNext (written mark.Backward) l back
    → IsWhole IsRewritingOf fault_of_rewriting l (directed (arrow_by l there back).0 (term_part (arrow_by l there back).1))
rewriting_by l (Ok p) back h k = forward_is p.0 l p.1 (term_part p.1) h (term_here p.1)
rewriting_by l (Err left) (Ok p) h k = backward_is p.0 l p.1 (term_part p.1) k (term_here p.1)
rewriting_by l (Err left) (Err left') h k = unmarked_is l (term_part l) h.1 k.1 (term_here l)

-- ---- moves

rest_is : (w : MoveWord) (l : List Token) → IsWhole (IsRest w) (rest_fault w) l (rest_part w l)
rest_is word.Exact l = term_here l
rest_is word.Apply l = term_here l
rest_is word.Rewrite l = rewriting_by l (spec.marked mark.Forward l) (spec.marked mark.Backward l) (next_mark mark.Forward l) (next_mark mark.Backward l)
rest_is (word.Plain w) l = whole_part (IsPlainRest w) l (plain_part w l) (plain_is w l)

with_word : (w : MoveWord) (t : Token) (p : TokenPlace) (l : List Token) (r : Result (Rest w) Fault) → t ∷ l ≡ keyword (text_of w) p ∷ l → IsWhole (IsRest w) (rest_fault w) l r → IsWholeAnswer IsMoveOf move_fault (t ∷ l) (whole (build w p) r)
with_word w t p l (Ok r) e h =
    let made = read_behind IsMoveOf move_fault (IsRest w) (rest_fault w) (keyword (text_of w) p ∷ []) l (build w p) (behind_word w p l) r h.0 h.1 in
    (refl, subst (λ i. IsMoveOf i (build w p r)) (sym e) made.0, made.1)
with_word w t p l (Err f) e h =
    subst (λ i. IsRefusedWhole IsMoveOf move_fault i f) (sym e) (refused_behind IsMoveOf move_fault (IsRest w) (rest_fault w) (keyword (text_of w) p ∷ []) l (build w p) (behind_word w p l) f h)

not_a_word : (t : Token) (rest : List Token) → is_identifier t ≡ false → (w : MoveWord) (p : TokenPlace) → t ≡ keyword (text_of w) p → ⊥
not_a_word t rest e w p same = let bad : false ≡ true = sym e ∙ ap is_identifier same in cc

none_first : (t : Token) (rest : List Token) → ((w : MoveWord) (p : TokenPlace) → t ≡ keyword (text_of w) p → ⊥) → IsWholeAnswer IsMoveOf move_fault (t ∷ rest) (by_word t rest None)
none_first t rest none = inl (refl, no_word_first (t ∷ rest) (λ w p more e. none w p (heads t (keyword (text_of w) p) rest more e)))

by_text : (t : Token) (rest : List Token) (o : Option MoveWord) → is_identifier t ≡ true → o ≡ word_of_text t.text → IsWholeAnswer IsMoveOf move_fault (t ∷ rest) (by_word t rest o)
by_text t rest None e is = none_first t rest (is_move_word t None (same_true the_type tt t.kind Identifier e) is)
by_text t rest (Some w) e is =
    let first : t ≡ keyword (text_of w) (place_of t) = is_move_word t (Some w) (same_true the_type tt t.kind Identifier e) is in
    with_word w t (place_of t) rest (rest_part w rest) (ap (λ x. x ∷ rest) first) (rest_is w rest)

by_kind : (b : Bool) (t : Token) (rest : List Token) → is_identifier t ≡ b → IsWholeAnswer IsMoveOf move_fault (t ∷ rest) (by_word t rest (cond b (word_of_text t.text) None))
by_kind true t rest e = by_text t rest (word_of_text t.text) e refl
by_kind false t rest e = none_first t rest (not_a_word t rest e)

pub moves_meet : (tokens : List Token) → IsWholeAnswer IsMoveOf move_fault tokens (whole_move tokens)
moves_meet [] = inl (refl, no_word_first [] (λ w p more e. cc))
moves_meet (t ∷ rest) = by_kind (is_identifier t) t rest refl
