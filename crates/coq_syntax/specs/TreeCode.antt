-- A term as a list of marks, one for each node, behind the marks of its parts.
use Rattle.std.specs.Prelude.{◌≡◌, ◌==◌, ℕ, ◌⊎◌, List, [], ◌∷◌, refl, drop, get_or, if◌then◌else◌}
use Rattle.std.proofs.Common.{◌∙◌, inl, inr}
use Rattle.std.specs.Coded.{Coded, code_by, coded×, coded⊎, coded_ℕ, coded_list}
use Rattle.coq_syntax.specs.declared.words.TokenPlace.{TokenPlace}
use Rattle.coq_syntax.specs.declared.words.Word.{Word}
use Rattle.coq_syntax.specs.declared.words.BoundName.{BoundName}
use Rattle.coq_syntax.specs.declared.words.BoundName.TheVariants.{Named, Unnamed}
use Rattle.coq_syntax.specs.Trees.{Term, Forall, Fun, Let, Arrow, Or, And, Not, Equal, Apply, Name, PropSort, SetSort, TypeSort, TypeAt, Numeral, Parenthesized, Binders, Names, Groups, GroupList, NoGroup, Group, Annotation, Untyped, Typed, Arguments, NoArgument, Positional, Given}

abbrev pub place_code : Coded TokenPlace
place_code = code_by (ℕ × ℕ) (coded× coded_ℕ coded_ℕ) (λ p. (p.from, p.to)) (λ q. record { from = q.0; to = q.1 }) (λ _. refl)

abbrev pub word_code : Coded Word
word_code = code_by (List ℕ × TokenPlace) (coded× (coded_list coded_ℕ) place_code) (λ w. (w.text, w.place)) (λ q. record { text = q.0; place = q.1 }) (λ _. refl)

abbrev pub name_cases : BoundName → Word ⊎ TokenPlace
name_cases (Named w) = inl w
name_cases (Unnamed p) = inr p

abbrev pub name_of : Word ⊎ TokenPlace → BoundName
name_of (inl w) = Named w
name_of (inr p) = Unnamed p

pub name_of-name_cases : (n : BoundName) → name_of (name_cases n) ≡ n
name_of-name_cases (Named w) = refl
name_of-name_cases (Unnamed p) = refl

abbrev pub bound_code : Coded BoundName
bound_code = code_by (Word ⊎ TokenPlace) (coded⊎ word_code place_code) name_cases name_of name_of-name_cases

-- a node without its parts: the number of its row, its places, its names
abbrev pub Mark : Type 0
Mark = ℕ × (List TokenPlace × List BoundName)

abbrev pub mark : ℕ → List TokenPlace → List BoundName → Mark
mark n ps ns = (n, (ps, ns))

-- the marks of a tree, and then the rest
abbrev mutual
  pub term_marks : Term → List Mark → List Mark
  term_marks (Forall p bs q b) rest = binders_marks bs (term_marks b (mark 0 (p ∷ q ∷ []) [] ∷ rest))
  term_marks (Fun p bs q b) rest = binders_marks bs (term_marks b (mark 1 (p ∷ q ∷ []) [] ∷ rest))
  term_marks (Let p n a q v r b) rest = annotation_marks a (term_marks v (term_marks b (mark 2 (p ∷ q ∷ r ∷ []) (n ∷ []) ∷ rest)))
  term_marks (Arrow a p b) rest = term_marks a (term_marks b (mark 3 (p ∷ []) [] ∷ rest))
  term_marks (Or a p b) rest = term_marks a (term_marks b (mark 4 (p ∷ []) [] ∷ rest))
  term_marks (And a p b) rest = term_marks a (term_marks b (mark 5 (p ∷ []) [] ∷ rest))
  term_marks (Not p a) rest = term_marks a (mark 6 (p ∷ []) [] ∷ rest)
  term_marks (Equal a p b) rest = term_marks a (term_marks b (mark 7 (p ∷ []) [] ∷ rest))
  term_marks (Apply f args) rest = term_marks f (arguments_marks args (mark 8 [] [] ∷ rest))
  term_marks (Name w) rest = mark 9 [] (Named w ∷ []) ∷ rest
  term_marks (PropSort p) rest = mark 10 (p ∷ []) [] ∷ rest
  term_marks (SetSort p) rest = mark 11 (p ∷ []) [] ∷ rest
  term_marks (TypeSort p) rest = mark 12 (p ∷ []) [] ∷ rest
  term_marks (TypeAt p q r w s) rest = mark 13 (p ∷ q ∷ r ∷ s ∷ []) (Named w ∷ []) ∷ rest
  term_marks (Numeral w) rest = mark 14 [] (Named w ∷ []) ∷ rest
  term_marks (Parenthesized p t q) rest = term_marks t (mark 15 (p ∷ q ∷ []) [] ∷ rest)

  pub binders_marks : Binders → List Mark → List Mark
  binders_marks (Names ns p t) rest = term_marks t (mark 16 (p ∷ []) ns ∷ rest)
  binders_marks (Groups gs) rest = groups_marks gs (mark 17 [] [] ∷ rest)

  pub groups_marks : GroupList → List Mark → List Mark
  groups_marks NoGroup rest = mark 18 [] [] ∷ rest
  groups_marks (Group p ns q t r after) rest = term_marks t (groups_marks after (mark 19 (p ∷ q ∷ r ∷ []) ns ∷ rest))

  pub annotation_marks : Annotation → List Mark → List Mark
  annotation_marks Untyped rest = mark 20 [] [] ∷ rest
  annotation_marks (Typed p t) rest = term_marks t (mark 21 (p ∷ []) [] ∷ rest)

  pub arguments_marks : Arguments → List Mark → List Mark
  arguments_marks NoArgument rest = mark 22 [] [] ∷ rest
  arguments_marks (Positional t after) rest = term_marks t (arguments_marks after (mark 23 [] [] ∷ rest))
  arguments_marks (Given p w q t r after) rest = term_marks t (arguments_marks after (mark 24 (p ∷ q ∷ r ∷ []) (Named w ∷ []) ∷ rest))

-- a tree that was read, of any kind
pub data Part : Type 0 where
  TermPart : Term → Part
  BindersPart : Binders → Part
  GroupsPart : GroupList → Part
  AnnotationPart : Annotation → Part
  ArgumentsPart : Arguments → Part

abbrev pub nowhere : TokenPlace
nowhere = record { from = 0; to = 0 }

abbrev pub as_term : Part → Term
as_term (TermPart t) = t
as_term _ = PropSort nowhere

abbrev pub as_binders : Part → Binders
as_binders (BindersPart bs) = bs
as_binders _ = Groups NoGroup

abbrev pub as_groups : Part → GroupList
as_groups (GroupsPart gs) = gs
as_groups _ = NoGroup

abbrev pub as_annotation : Part → Annotation
as_annotation (AnnotationPart a) = a
as_annotation _ = Untyped

abbrev pub as_arguments : Part → Arguments
as_arguments (ArgumentsPart args) = args
as_arguments _ = NoArgument

abbrev pub as_word : BoundName → Word
as_word (Named w) = w
as_word (Unnamed p) = record { text = []; place = p }

-- the parts of a node, the last first, and its places and names
module _ (ps : List TokenPlace) (ns : List BoundName) (stack : List Part) where
  abbrev at : ℕ → TokenPlace
  at k = get_or ps k nowhere

  abbrev word : Word
  word = as_word (get_or ns 0 (Unnamed nowhere))

  abbrev part : ℕ → Part
  part k = get_or stack k (TermPart (PropSort nowhere))

  abbrev term : ℕ → Term
  term k = as_term (part k)

  -- the stack after a node: the node stands in place of its parts
  abbrev pub built : ℕ → List Part
  built n =
      if n == 0 then TermPart (Forall (at 0) (as_binders (part 1)) (at 1) (term 0)) ∷ drop 2 stack
      else if n == 1 then TermPart (Fun (at 0) (as_binders (part 1)) (at 1) (term 0)) ∷ drop 2 stack
      else if n == 2 then TermPart (Let (at 0) (get_or ns 0 (Unnamed nowhere)) (as_annotation (part 2)) (at 1) (term 1) (at 2) (term 0)) ∷ drop 3 stack
      else if n == 3 then TermPart (Arrow (term 1) (at 0) (term 0)) ∷ drop 2 stack
      else if n == 4 then TermPart (Or (term 1) (at 0) (term 0)) ∷ drop 2 stack
      else if n == 5 then TermPart (And (term 1) (at 0) (term 0)) ∷ drop 2 stack
      else if n == 6 then TermPart (Not (at 0) (term 0)) ∷ drop 1 stack
      else if n == 7 then TermPart (Equal (term 1) (at 0) (term 0)) ∷ drop 2 stack
      else if n == 8 then TermPart (Apply (term 1) (as_arguments (part 0))) ∷ drop 2 stack
      else if n == 9 then TermPart (Name word) ∷ stack
      else if n == 10 then TermPart (PropSort (at 0)) ∷ stack
      else if n == 11 then TermPart (SetSort (at 0)) ∷ stack
      else if n == 12 then TermPart (TypeSort (at 0)) ∷ stack
      else if n == 13 then TermPart (TypeAt (at 0) (at 1) (at 2) word (at 3)) ∷ stack
      else if n == 14 then TermPart (Numeral word) ∷ stack
      else if n == 15 then TermPart (Parenthesized (at 0) (term 0) (at 1)) ∷ drop 1 stack
      else if n == 16 then BindersPart (Names ns (at 0) (term 0)) ∷ drop 1 stack
      else if n == 17 then BindersPart (Groups (as_groups (part 0))) ∷ drop 1 stack
      else if n == 18 then GroupsPart NoGroup ∷ stack
      else if n == 19 then GroupsPart (Group (at 0) ns (at 1) (term 1) (at 2) (as_groups (part 0))) ∷ drop 2 stack
      else if n == 20 then AnnotationPart Untyped ∷ stack
      else if n == 21 then AnnotationPart (Typed (at 0) (term 0)) ∷ drop 1 stack
      else if n == 22 then ArgumentsPart NoArgument ∷ stack
      else if n == 23 then ArgumentsPart (Positional (term 1) (as_arguments (part 0))) ∷ drop 2 stack
      else ArgumentsPart (Given (at 0) word (at 1) (term 1) (at 2) (as_arguments (part 0))) ∷ drop 2 stack

-- the term that stands on the stack after all marks
abbrev pub read : List Mark → List Part → Term
read [] stack = as_term (get_or stack 0 (TermPart (PropSort nowhere)))
read (m ∷ ms) stack = read ms (built m.1.0 m.1.1 stack m.0)

-- reading the marks of a tree puts it on the stack
mutual
  pub read_term : (t : Term) (rest : List Mark) (stack : List Part) → read (term_marks t rest) stack ≡ read rest (TermPart t ∷ stack)
  read_term (Forall p bs q b) rest stack = read_binders bs _ stack ∙ read_term b _ (BindersPart bs ∷ stack)
  read_term (Fun p bs q b) rest stack = read_binders bs _ stack ∙ read_term b _ (BindersPart bs ∷ stack)
  read_term (Let p n a q v r b) rest stack = read_annotation a _ stack ∙ read_term v _ (AnnotationPart a ∷ stack) ∙ read_term b _ (TermPart v ∷ AnnotationPart a ∷ stack)
  read_term (Arrow a p b) rest stack = read_term a _ stack ∙ read_term b _ (TermPart a ∷ stack)
  read_term (Or a p b) rest stack = read_term a _ stack ∙ read_term b _ (TermPart a ∷ stack)
  read_term (And a p b) rest stack = read_term a _ stack ∙ read_term b _ (TermPart a ∷ stack)
  read_term (Not p a) rest stack = read_term a _ stack
  read_term (Equal a p b) rest stack = read_term a _ stack ∙ read_term b _ (TermPart a ∷ stack)
  read_term (Apply f args) rest stack = read_term f _ stack ∙ read_arguments args _ (TermPart f ∷ stack)
  read_term (Name w) rest stack = refl
  read_term (PropSort p) rest stack = refl
  read_term (SetSort p) rest stack = refl
  read_term (TypeSort p) rest stack = refl
  read_term (TypeAt p q r w s) rest stack = refl
  read_term (Numeral w) rest stack = refl
  read_term (Parenthesized p t q) rest stack = read_term t _ stack

  pub read_binders : (bs : Binders) (rest : List Mark) (stack : List Part) → read (binders_marks bs rest) stack ≡ read rest (BindersPart bs ∷ stack)
  read_binders (Names ns p t) rest stack = read_term t _ stack
  read_binders (Groups gs) rest stack = read_groups gs _ stack

  pub read_groups : (gs : GroupList) (rest : List Mark) (stack : List Part) → read (groups_marks gs rest) stack ≡ read rest (GroupsPart gs ∷ stack)
  read_groups NoGroup rest stack = refl
  read_groups (Group p ns q t r after) rest stack = read_term t _ stack ∙ read_groups after _ (TermPart t ∷ stack)

  pub read_annotation : (a : Annotation) (rest : List Mark) (stack : List Part) → read (annotation_marks a rest) stack ≡ read rest (AnnotationPart a ∷ stack)
  read_annotation Untyped rest stack = refl
  read_annotation (Typed p t) rest stack = read_term t _ stack

  pub read_arguments : (args : Arguments) (rest : List Mark) (stack : List Part) → read (arguments_marks args rest) stack ≡ read rest (ArgumentsPart args ∷ stack)
  read_arguments NoArgument rest stack = refl
  read_arguments (Positional t after) rest stack = read_term t _ stack ∙ read_arguments after _ (TermPart t ∷ stack)
  read_arguments (Given p w q t r after) rest stack = read_term t _ stack ∙ read_arguments after _ (TermPart t ∷ stack)

-- a term is stored as its marks
abbrev pub term_code : Coded Term
term_code = code_by (List Mark) (coded_list (coded× coded_ℕ (coded× (coded_list place_code) (coded_list bound_code)))) (λ t. term_marks t []) (λ ms. read ms []) (λ t. read_term t [] [])

abbrev pub groups_in : Term → GroupList
groups_in (Forall _ (Groups gs) _ _) = gs
groups_in _ = NoGroup

-- groups are stored as a term that holds them, and so is an annotation
abbrev pub groups_code : Coded GroupList
groups_code = code_by Term term_code (λ gs. Forall nowhere (Groups gs) nowhere (PropSort nowhere)) groups_in (λ _. refl)

abbrev pub annotation_in : Term → Annotation
annotation_in (Let _ _ a _ _ _ _) = a
annotation_in _ = Untyped

abbrev pub annotation_code : Coded Annotation
annotation_code = code_by Term term_code (λ a. Let nowhere (Unnamed nowhere) a nowhere (PropSort nowhere) nowhere (PropSort nowhere)) annotation_in (λ _. refl)
