-- The rules read every tree of the grammar: at its tokens they answer the tree, or its first fault.
use Rattle.std.proofs.Common.{◌≡◌, ℕ, zero, suc, ◌<◌, ◌≤◌, ◌⊎◌, inl, inr, Bool, true, false, None, Ok, List, [], ◌∷◌, codes, length, refl, ◌∙◌, ap, arith}
use Rattle.coq_syntax.specs.declared.token.Token.{Token}
use Rattle.coq_syntax.specs.declared.words.BoundName.{BoundName}
use Rattle.coq_syntax.specs.declared.words.BoundName.TheVariants.{Named, Unnamed}
use Rattle.coq_syntax.specs.Trees.{Term, Forall, Fun, Let, Arrow, Or, And, Not, Equal, Apply, Name, PropSort, SetSort, TypeSort, TypeAt, Numeral, Parenthesized, Binders, Names, Groups, GroupList, NoGroup, Group, Annotation, Untyped, Typed, Arguments, NoArgument, Positional, Given}
use Rattle.coq_syntax.specs.Spelled.{reserved, symbol, name, names as spelled_names, spells, binders as spelled_binders, groups as spelled_groups, annotation as spelled_annotation, arguments as spelled_arguments}
use Rattle.coq_syntax.specs.Limits.{open_level}
use Rattle.coq_syntax.specs.Grammar.{level, IsTerm, IsRight, HasNames, HasArguments, HasGroups, AreBinders, AreGroups, IsAnnotation, AreArguments}
use Rattle.coq_syntax.specs.declared.words.TokenPlace.{TokenPlace}
use Rattle.coq_syntax.specs.declared.words.Word.{Word}
use Rattle.coq_syntax.specs.Faults.{Fault}
use Rattle.coq_syntax.specs.Faults as faults
use Rattle.vernac_parser.specs.declared.sign.Sign.TheVariants as sign
use Rattle.vernac_parser.specs.Signs.{is_sign, sign_at, begins_atom, reserved_sign, symbol_sign}
use Rattle.vernac_parser.specs.Parser.{◌>>=◌, pure, many, repeated, take}
use Rattle.vernac_parser.specs.Parse.{Rule, Whole, Right85, Right80, Right75, Checks, is_name, with_name, binder_name, Argument, Plain, OneGroup, with_argument, with_group, applied, type_sort, parenthesized, given, atom, argument_behind, argument, arguments, application, group, groups, binders, annotation, forall_form, fun_form, let_form, equal_behind, t70, operand, t75, and_behind, t80, or_behind, t85, arrow_behind, t99, open_form, term, by_rule, nested}
use Rattle.vernac_parser.specs.Parse as parse
use Rattle.vernac_parser.proofs.SignLaws.{reach, beyond, no_atom}
use Rattle.vernac_parser.proofs.Checked.{fault_by, binders_fault_by, groups_fault_by, annotation_fault_by, arguments_fault_by}
use Rattle.vernac_parser.proofs.Heads.{begins, head_of, atom_begins, atom_reach, no_assign, behind_argument}
use Rattle.vernac_parser.proofs.Answered.{answered, step, step_sure, step_last, step_free, took, passed, many_more, many_done}
use Rattle.vernac_parser.proofs.Longer.{names_length, count_groups, count_arguments, longer_groups, longer_arguments}
use Rattle.vernac_parser.proofs.Tower.{Follows, Reads, Tower, whole_read, tower0, tower10, tower70, tower75, tower80, tower85, tower99, tower_open, inside, operand_fault, whole_inside, operand_inside}

name_begins : (x : BoundName) (rest : List Token) → is_name (sign_at (name x ∷ rest)) ≡ true
name_begins (Named w) rest = refl
name_begins (Unnamed p) rest = refl

name_read : (x : BoundName) (rest : List Token) → binder_name (name x ∷ rest) ≡ Ok (x, rest)
unfolding binder_name
name_read (Named w) rest = refl
name_read (Unnamed p) rest = refl

-- no name begins with this sign
abbrev Nameless : List Token → Type 0
Nameless rest = is_name (sign_at rest) ≡ false

more_names : (ns : List BoundName) (turns : ℕ) (rest : List Token) → length ns < turns → Nameless rest → many is_name binder_name with_name [] turns (spelled_names ns rest) ≡ Ok (ns, rest)
more_names [] zero rest l h = absurd (omega arith)
more_names (x ∷ ns) zero rest l h = absurd (omega arith)
more_names [] (suc n) rest l h = many_done is_name binder_name with_name [] n rest h
more_names (x ∷ ns) (suc n) rest l h = many_more is_name binder_name with_name [] n (name x ∷ spelled_names ns rest) (spelled_names ns rest) rest None None x ns (name_begins x (spelled_names ns rest)) (name_read x (spelled_names ns rest)) (more_names ns n rest (omega arith) h)

names_read : (ns : List BoundName) (rest : List Token) → HasNames ns → Nameless rest → parse.names (spelled_names ns rest) ≡ Ok (ns, rest)
unfolding parse.names
names_read [] rest h g = absurd h
names_read (x ∷ ns) rest h g =
    step_free (binder_name (name x ∷ spelled_names ns rest)) _ x (spelled_names ns rest) (Ok (x ∷ ns, rest)) (name_read x (spelled_names ns rest))
    (step_last (repeated is_name binder_name with_name [] (spelled_names ns rest)) (λ others. x ∷ others) None ns rest (more_names ns (suc (length (spelled_names ns rest))) rest (omega (arith, names_length ns rest)) g))

-- an argument that is an atom
argument_read : (c : Checks) (n : ℕ) (t : Term) (rest : List Token) → IsTerm t → level t ≡ 0 → Reads c n t rest (atom c) → argument c (nested c n) (spells t rest) ≡ answered (fault_by c t n rest) (Plain t) rest
unfolding argument argument_behind atom symbol_sign reserved_sign
argument_read c n (Name w) rest h l p = step_last (atom c (nested c n) (spells (Name w) rest)) Plain (fault_by c (Name w) n rest) (Name w) rest p
argument_read c n (PropSort q) rest h l p = step_last (atom c (nested c n) (spells (PropSort q) rest)) Plain (fault_by c (PropSort q) n rest) (PropSort q) rest p
argument_read c n (SetSort q) rest h l p = step_last (atom c (nested c n) (spells (SetSort q) rest)) Plain (fault_by c (SetSort q) n rest) (SetSort q) rest p
argument_read c n (TypeSort q) rest h l p = step_last (atom c (nested c n) (spells (TypeSort q) rest)) Plain (fault_by c (TypeSort q) n rest) (TypeSort q) rest p
argument_read c n (TypeAt a b d w e) rest h l p = step_last (atom c (nested c n) (spells (TypeAt a b d w e) rest)) Plain (fault_by c (TypeAt a b d w e) n rest) (TypeAt a b d w e) rest p
argument_read c n (Numeral w) rest h l p = step_last (atom c (nested c n) (spells (Numeral w) rest)) Plain (fault_by c (Numeral w) n rest) (Numeral w) rest p
argument_read c n (Parenthesized a t b) rest h l p =
    passed _ _ (no_assign t (symbol (codes ")") b ∷ rest) refl)
    ∙ step_last (parenthesized c (nested c n) a (spells t (symbol (codes ")") b ∷ rest))) Plain (fault_by c (Parenthesized a t b) n rest) (Parenthesized a t b) rest p
argument_read c n (Forall p bs q b) rest h l r = absurd (omega arith)
argument_read c n (Fun p bs q b) rest h l r = absurd (omega arith)
argument_read c n (Let p x a q v s b) rest h l r = absurd (omega arith)
argument_read c n (Arrow a p b) rest h l r = absurd (omega arith)
argument_read c n (Or a p b) rest h l r = absurd (omega arith)
argument_read c n (And a p b) rest h l r = absurd (omega arith)
argument_read c n (Not p a) rest h l r = absurd (omega arith)
argument_read c n (Equal a p b) rest h l r = absurd (omega arith)
argument_read c n (Apply f args) rest h l r = absurd (omega arith)

right_level : (most : ℕ) (t : Term) → most ≤ 99 → IsRight most t → (level t ≤ 99) ⊎ (level t ≡ open_level)
right_level most t l (inl h) = inl (omega arith)
right_level most t l (inr e) = inr e

below : (most : ℕ) (t : Term) → most ≤ 99 → IsRight most t → level t ≤ 99 → level t ≤ most
below most t l (inl h) g = h
below most t l (inr e) g = absurd (omega arith)

unclosed : (most : ℕ) (t : Term) (rest : List Token) → most ≤ 99 → level t ≡ 200 → Follows most t rest → 99 < reach (sign_at rest)
unclosed most t rest l e (inl h) = h
unclosed most (Forall p bs q b) rest l e (inr h) = absurd h.0
unclosed most (Fun p bs q b) rest l e (inr h) = absurd h.0
unclosed most (Let p x a q v s b) rest l e (inr h) = absurd h.0
unclosed most (Arrow a p b) rest l e (inr h) = absurd (omega arith)
unclosed most (Or a p b) rest l e (inr h) = absurd (omega arith)
unclosed most (And a p b) rest l e (inr h) = absurd (omega arith)
unclosed most (Not p a) rest l e (inr h) = absurd (omega arith)
unclosed most (Equal a p b) rest l e (inr h) = absurd (omega arith)
unclosed most (Apply f args) rest l e (inr h) = absurd (omega arith)
unclosed most (Name w) rest l e (inr h) = absurd (omega arith)
unclosed most (PropSort p) rest l e (inr h) = absurd (omega arith)
unclosed most (SetSort p) rest l e (inr h) = absurd (omega arith)
unclosed most (TypeSort p) rest l e (inr h) = absurd (omega arith)
unclosed most (TypeAt a b d w f) rest l e (inr h) = absurd (omega arith)
unclosed most (Numeral w) rest l e (inr h) = absurd (omega arith)
unclosed most (Parenthesized a t b) rest l e (inr h) = absurd (omega arith)

-- a right operand by its tower
operand_read : (c : Checks) (n : ℕ) (rule : Rule) (most : ℕ) (t : Term) (rest : List Token) → most ≤ 99 → IsTerm t → IsRight most t → Follows most t rest → ((m : ℕ) → Tower c m t rest) → ((m : ℕ) → Tower c m t rest → level t ≤ most → Follows most t rest → Reads c m t rest (λ inner. by_rule c inner rule)) → operand c (nested c n) rule (spells t rest) ≡ answered (operand_fault c n t rest) t rest
operand_read c n rule most t rest l h r f towers at = operand_inside c n rule t rest h (right_level most t l r) (λ e. (towers n).at_open e (unclosed most t rest l e f)) (λ g m. at m (towers m) (below most t l r g) f)

applied_same : (f : Term) (args : Arguments) → HasArguments args → applied f args ≡ Apply f args
applied_same f NoArgument h = absurd h
applied_same f (Positional t after) h = refl
applied_same f (Given p w q t r after) h = refl

arguments_begin : (args : Arguments) (rest : List Token) → AreArguments args → HasArguments args → 0 < reach (sign_at (spelled_arguments args rest))
unfolding symbol_sign
arguments_begin NoArgument rest h g = absurd g
arguments_begin (Positional t after) rest h g = let e : reach (sign_at (spells t (spelled_arguments after rest))) ≡ 10 = ap reach (head_of t _) ∙ atom_reach (begins t) (atom_begins t h.1 (omega (arith, h.0))) in omega arith
arguments_begin (Given p w q t r after) rest h g = omega arith

abbrev one_group : TokenPlace → List BoundName → TokenPlace → Term → TokenPlace → OneGroup
one_group p ns q t s = record { opening = p; names = ns; colon = q; ty = t; closing = s }

names_begin : (ns : List BoundName) (rest : List Token) → HasNames ns → is_sign (sign_at (spelled_names ns rest)) sign.Open ≡ false
names_begin [] rest h = absurd h
names_begin (Named w ∷ ns) rest h = refl
names_begin (Unnamed p ∷ ns) rest h = refl

groups_begin : (gs : GroupList) (rest : List Token) → HasGroups gs → is_sign (sign_at (spelled_groups gs rest)) sign.Open ≡ true
unfolding symbol_sign
groups_begin NoGroup rest h = absurd h
groups_begin (Group p ns q t s after) rest h = refl

numeral_read : (c : Checks) (n : ℕ) (w : Word) (rest : List Token) (b : Bool) → c.numeral (faults.value_of w) ≡ b → Reads c n (Numeral w) rest (atom c)
unfolding atom
numeral_read c n w rest true e = simp e
numeral_read c n w rest false e = simp e

level_read : (c : Checks) (n : ℕ) (p q r : TokenPlace) (w : Word) (s : TokenPlace) (rest : List Token) (b : Bool) → c.level (faults.value_of w) ≡ b → Reads c n (TypeAt p q r w s) rest (atom c)
unfolding atom type_sort symbol_sign reserved_sign
level_read c n p q r w s rest true e = simp e
level_read c n p q r w s rest false e = simp e

mutual
  unfolding type_sort parenthesized given atom argument argument_behind arguments application group groups binders annotation forall_form fun_form let_form equal_behind t70 t75 and_behind t80 or_behind t85 arrow_behind t99 open_form by_rule reserved_sign symbol_sign

  pub complete : (c : Checks) (t : Term) → IsTerm t → (n : ℕ) (rest : List Token) → Tower c n t rest
  complete c (Forall p bs q b) h n rest = tower_open c n (Forall p bs q b) rest refl (λ r.
      step (binders c (nested c n) (spelled_binders bs (symbol (codes ",") q ∷ spells b rest))) (λ x. take sign.Comma >>= (λ y. nested c n Whole >>= (λ z. pure (Forall p x y z)))) (binders_fault_by c bs n (symbol (codes ",") q ∷ spells b rest)) (inside c n b rest) bs (Forall p bs q b) (symbol (codes ",") q ∷ spells b rest) rest (complete_binders c bs h.0 n (symbol (codes ",") q ∷ spells b rest) (omega arith))
      (step_last (nested c n Whole (spells b rest)) (λ x. Forall p bs q x) (inside c n b rest) b rest (whole_inside c n b rest (λ m. whole_read c m b rest h.1 (complete c b h.1 m rest) r))))
  complete c (Fun p bs q b) h n rest = tower_open c n (Fun p bs q b) rest refl (λ r.
      step (binders c (nested c n) (spelled_binders bs (symbol (codes "=>") q ∷ spells b rest))) (λ x. take sign.Yields >>= (λ y. nested c n Whole >>= (λ z. pure (Fun p x y z)))) (binders_fault_by c bs n (symbol (codes "=>") q ∷ spells b rest)) (inside c n b rest) bs (Fun p bs q b) (symbol (codes "=>") q ∷ spells b rest) rest (complete_binders c bs h.0 n (symbol (codes "=>") q ∷ spells b rest) (omega arith))
      (step_last (nested c n Whole (spells b rest)) (λ x. Fun p bs q x) (inside c n b rest) b rest (whole_inside c n b rest (λ m. whole_read c m b rest h.1 (complete c b h.1 m rest) r))))
  complete c (Let p x a q v s b) h n rest = tower_open c n (Let p x a q v s b) rest refl (λ r.
      step_free (binder_name (name x ∷ spelled_annotation a (symbol (codes ":=") q ∷ spells v (reserved (codes "in") s ∷ spells b rest)))) (λ x'. annotation c (nested c n) >>= (λ a'. take sign.Assign >>= (λ q'. nested c n Whole >>= (λ v'. take sign.In >>= (λ s'. nested c n Whole >>= (λ b'. pure (Let p x' a' q' v' s' b'))))))) x (spelled_annotation a (symbol (codes ":=") q ∷ spells v (reserved (codes "in") s ∷ spells b rest))) (answered (fault_by c (Let p x a q v s b) n rest) (Let p x a q v s b) rest) (name_read x (spelled_annotation a (symbol (codes ":=") q ∷ spells v (reserved (codes "in") s ∷ spells b rest))))
      (step (annotation c (nested c n) (spelled_annotation a (symbol (codes ":=") q ∷ spells v (reserved (codes "in") s ∷ spells b rest)))) (λ a'. take sign.Assign >>= (λ q'. nested c n Whole >>= (λ v'. take sign.In >>= (λ s'. nested c n Whole >>= (λ b'. pure (Let p x a' q' v' s' b')))))) (annotation_fault_by c a n (symbol (codes ":=") q ∷ spells v (reserved (codes "in") s ∷ spells b rest))) (faults.first (inside c n v (reserved (codes "in") s ∷ spells b rest)) (inside c n b rest)) a (Let p x a q v s b) (symbol (codes ":=") q ∷ spells v (reserved (codes "in") s ∷ spells b rest)) rest (complete_annotation c a h.0 n (symbol (codes ":=") q ∷ spells v (reserved (codes "in") s ∷ spells b rest)) (omega arith) refl)
      (step (nested c n Whole (spells v (reserved (codes "in") s ∷ spells b rest))) (λ v'. take sign.In >>= (λ s'. nested c n Whole >>= (λ b'. pure (Let p x a q v' s' b')))) (inside c n v (reserved (codes "in") s ∷ spells b rest)) (inside c n b rest) v (Let p x a q v s b) (reserved (codes "in") s ∷ spells b rest) rest (whole_inside c n v (reserved (codes "in") s ∷ spells b rest) (λ m. whole_read c m v (reserved (codes "in") s ∷ spells b rest) h.1 (complete c v h.1 m (reserved (codes "in") s ∷ spells b rest)) (omega arith)))
      (step_last (nested c n Whole (spells b rest)) (λ x'. Let p x a q v s x') (inside c n b rest) b rest (whole_inside c n b rest (λ m. whole_read c m b rest h.2 (complete c b h.2 m rest) r))))))
  complete c (Arrow a p b) h n rest = tower99 c n (Arrow a p b) rest refl (λ r.
      step (t85 c (nested c n) (spells a (symbol (codes "->") p ∷ spells b rest))) (arrow_behind c (nested c n)) (fault_by c a n (symbol (codes "->") p ∷ spells b rest)) (inside c n b rest) a (Arrow a p b) (symbol (codes "->") p ∷ spells b rest) rest ((complete c a h.2 n (symbol (codes "->") p ∷ spells b rest)).at85 h.0 (inr (h.1, omega arith)))
      (step_last (nested c n Whole (spells b rest)) (λ x. Arrow a p x) (inside c n b rest) b rest (whole_inside c n b rest (λ m. whole_read c m b rest h.3 (complete c b h.3 m rest) r))))
  complete c (Or a p b) h n rest = tower85 c n (Or a p b) rest refl (λ f.
      step (t80 c (nested c n) (spells a (symbol (codes "\\/") p ∷ spells b rest))) (or_behind c (nested c n)) (fault_by c a n (symbol (codes "\\/") p ∷ spells b rest)) (operand_fault c n b rest) a (Or a p b) (symbol (codes "\\/") p ∷ spells b rest) rest ((complete c a h.2 n (symbol (codes "\\/") p ∷ spells b rest)).at80 h.0 (inr (h.1, omega arith)))
      (step_last (operand c (nested c n) Right85 (spells b rest)) (λ x. Or a p x) (operand_fault c n b rest) b rest (operand_read c n Right85 85 b rest (omega arith) h.4 h.3 f (λ m. complete c b h.4 m rest) (λ m tower l g. tower.at85 l g))))
  complete c (And a p b) h n rest = tower80 c n (And a p b) rest refl (λ f.
      step (t75 c (nested c n) (spells a (symbol (codes "/\\") p ∷ spells b rest))) (and_behind c (nested c n)) (fault_by c a n (symbol (codes "/\\") p ∷ spells b rest)) (operand_fault c n b rest) a (And a p b) (symbol (codes "/\\") p ∷ spells b rest) rest ((complete c a h.2 n (symbol (codes "/\\") p ∷ spells b rest)).at75 h.0 (inr (h.1, omega arith)))
      (step_last (operand c (nested c n) Right80 (spells b rest)) (λ x. And a p x) (operand_fault c n b rest) b rest (operand_read c n Right80 80 b rest (omega arith) h.4 h.3 f (λ m. complete c b h.4 m rest) (λ m tower l g. tower.at80 l g))))
  complete c (Not p a) h n rest = tower75 c n (Not p a) rest refl (λ f.
      step_last (operand c (nested c n) Right75 (spells a rest)) (λ x. Not p x) (operand_fault c n a rest) a rest (operand_read c n Right75 75 a rest (omega arith) h.1 h.0 f (λ m. complete c a h.1 m rest) (λ m tower l g. tower.at75 l g)))
  complete c (Equal a p b) h n rest = tower70 c n (Equal a p b) rest h refl (λ r.
      step (application c (nested c n) (spells a (symbol (codes "=") p ∷ spells b rest))) (equal_behind c (nested c n)) (fault_by c a n (symbol (codes "=") p ∷ spells b rest)) (fault_by c b n rest) a (Equal a p b) (symbol (codes "=") p ∷ spells b rest) rest ((complete c a h.1 n (symbol (codes "=") p ∷ spells b rest)).at_application h.0 (omega arith))
      (step_last (application c (nested c n) (spells b rest)) (λ x. Equal a p x) (fault_by c b n rest) b rest ((complete c b h.3 n rest).at_application h.2 (omega arith))))
  complete c (Apply f args) h n rest = tower10 c n (Apply f args) rest h refl (λ r.
      step (atom c (nested c n) (spells f (spelled_arguments args rest))) (λ head. arguments c (nested c n) >>= (λ found. pure (applied head found))) (fault_by c f n (spelled_arguments args rest)) (arguments_fault_by c args n rest) f (Apply f args) (spelled_arguments args rest) rest ((complete c f h.1 n (spelled_arguments args rest)).at_atom (omega (arith, h.0)) (arguments_begin args rest h.3 h.2))
      (step_last (arguments c (nested c n) (spelled_arguments args rest)) (applied f) (arguments_fault_by c args n rest) args rest (complete_arguments c args h.3 (suc (length (spelled_arguments args rest))) n rest (omega (arith, longer_arguments args rest)) r)
      ∙ ap (λ t. answered (arguments_fault_by c args n rest) t rest) (applied_same f args h.2)))
  complete c (Name w) h n rest = tower0 c n (Name w) rest tt refl (λ r. refl)
  complete c (PropSort p) h n rest = tower0 c n (PropSort p) rest tt refl (λ r. refl)
  complete c (SetSort p) h n rest = tower0 c n (SetSort p) rest tt refl (λ r. refl)
  complete c (TypeSort p) h n rest = tower0 c n (TypeSort p) rest tt refl (λ r. passed _ _ (beyond (sign_at rest) sign.At r))
  complete c (TypeAt a b d w e) h n rest = tower0 c n (TypeAt a b d w e) rest tt refl (λ r. level_read c n a b d w e rest (c.level (faults.value_of w)) refl)
  complete c (Numeral w) h n rest = tower0 c n (Numeral w) rest tt refl (λ r. numeral_read c n w rest (c.numeral (faults.value_of w)) refl)
  complete c (Parenthesized p t q) h n rest = tower0 c n (Parenthesized p t q) rest h refl (λ r.
      step_sure (nested c n Whole (spells t (symbol (codes ")") q ∷ rest))) (λ x. take sign.Close >>= (λ y. pure (Parenthesized p x y))) (inside c n t (symbol (codes ")") q ∷ rest)) t (Parenthesized p t q) (symbol (codes ")") q ∷ rest) rest (whole_inside c n t (symbol (codes ")") q ∷ rest) (λ m. whole_read c m t (symbol (codes ")") q ∷ rest) h (complete c t h m (symbol (codes ")") q ∷ rest)) (omega arith))) refl)

  complete_binders : (c : Checks) (bs : Binders) → AreBinders bs → (n : ℕ) (rest : List Token) → 99 < reach (sign_at rest) → binders c (nested c n) (spelled_binders bs rest) ≡ answered (binders_fault_by c bs n rest) bs rest
  complete_binders c (Names ns p t) h n rest r =
      passed _ _ (names_begin ns (symbol (codes ":") p ∷ spells t rest) h.0)
      ∙ step_free (parse.names (spelled_names ns (symbol (codes ":") p ∷ spells t rest))) (λ ns'. take sign.Colon >>= (λ p'. nested c n Whole >>= (λ t'. pure (Names ns' p' t')))) ns (symbol (codes ":") p ∷ spells t rest) (answered (inside c n t rest) (Names ns p t) rest) (names_read ns (symbol (codes ":") p ∷ spells t rest) h.0 refl)
      (step_last (nested c n Whole (spells t rest)) (λ x. Names ns p x) (inside c n t rest) t rest (whole_inside c n t rest (λ m. whole_read c m t rest h.1 (complete c t h.1 m rest) r)))
  complete_binders c (Groups gs) h n rest r =
      took _ _ (groups_begin gs rest h.0)
      ∙ step_last (groups c (nested c n) (spelled_groups gs rest)) Groups (groups_fault_by c gs n rest) gs rest (complete_groups c gs h.1 (suc (length (spelled_groups gs rest))) n rest (omega (arith, longer_groups gs rest)) (beyond (sign_at rest) sign.Open (omega arith)))

  pub complete_groups : (c : Checks) (gs : GroupList) → AreGroups gs → (turns n : ℕ) (rest : List Token) → count_groups gs < turns → is_sign (sign_at rest) sign.Open ≡ false → many (λ s. is_sign s sign.Open) (group c (nested c n)) with_group NoGroup turns (spelled_groups gs rest) ≡ answered (groups_fault_by c gs n rest) gs rest
  complete_groups c NoGroup h zero n rest l r = absurd (omega arith)
  complete_groups c NoGroup h (suc turns) n rest l r = many_done (λ s. is_sign s sign.Open) (group c (nested c n)) with_group NoGroup turns rest r
  complete_groups c (Group p ns q t s after) h zero n rest l r = absurd (omega arith)
  complete_groups c (Group p ns q t s after) h (suc turns) n rest l r =
      many_more (λ s. is_sign s sign.Open) (group c (nested c n)) with_group NoGroup turns (spelled_groups (Group p ns q t s after) rest) (spelled_groups after rest) rest (inside c n t (symbol (codes ")") s ∷ spelled_groups after rest)) (groups_fault_by c after n rest) (record { opening = p; names = ns; colon = q; ty = t; closing = s }) after refl
      (step_free (parse.names (spelled_names ns (symbol (codes ":") q ∷ spells t (symbol (codes ")") s ∷ spelled_groups after rest)))) (λ ns'. take sign.Colon >>= (λ q'. nested c n Whole >>= (λ t'. take sign.Close >>= (λ s'. pure (one_group p ns' q' t' s'))))) ns (symbol (codes ":") q ∷ spells t (symbol (codes ")") s ∷ spelled_groups after rest)) (answered (inside c n t (symbol (codes ")") s ∷ spelled_groups after rest)) (one_group p ns q t s) (spelled_groups after rest)) (names_read ns (symbol (codes ":") q ∷ spells t (symbol (codes ")") s ∷ spelled_groups after rest)) h.0 refl)
      (step_sure (nested c n Whole (spells t (symbol (codes ")") s ∷ spelled_groups after rest))) (λ t'. take sign.Close >>= (λ s'. pure (one_group p ns q t' s'))) (inside c n t (symbol (codes ")") s ∷ spelled_groups after rest)) t (one_group p ns q t s) (symbol (codes ")") s ∷ spelled_groups after rest) (spelled_groups after rest) (whole_inside c n t (symbol (codes ")") s ∷ spelled_groups after rest) (λ m. whole_read c m t (symbol (codes ")") s ∷ spelled_groups after rest) h.1 (complete c t h.1 m (symbol (codes ")") s ∷ spelled_groups after rest)) (omega arith))) refl))
      (complete_groups c after h.2 turns n rest (omega arith) r)

  pub complete_annotation : (c : Checks) (a : Annotation) → IsAnnotation a → (n : ℕ) (rest : List Token) → 99 < reach (sign_at rest) → is_sign (sign_at rest) sign.Colon ≡ false → annotation c (nested c n) (spelled_annotation a rest) ≡ answered (annotation_fault_by c a n rest) a rest
  complete_annotation c Untyped h n rest r e = passed _ _ e
  complete_annotation c (Typed p t) h n rest r e = step_last (nested c n Whole (spells t rest)) (λ x. Typed p x) (inside c n t rest) t rest (whole_inside c n t rest (λ m. whole_read c m t rest h (complete c t h m rest) r))

  pub complete_arguments : (c : Checks) (args : Arguments) → AreArguments args → (turns n : ℕ) (rest : List Token) → count_arguments args < turns → 10 < reach (sign_at rest) → many begins_atom (argument c (nested c n)) with_argument NoArgument turns (spelled_arguments args rest) ≡ answered (arguments_fault_by c args n rest) args rest
  complete_arguments c NoArgument h zero n rest l r = absurd (omega arith)
  complete_arguments c NoArgument h (suc turns) n rest l r = many_done begins_atom (argument c (nested c n)) with_argument NoArgument turns rest (no_atom (sign_at rest) r)
  complete_arguments c (Positional t after) h zero n rest l r = absurd (omega arith)
  complete_arguments c (Positional t after) h (suc turns) n rest l r =
      many_more begins_atom (argument c (nested c n)) with_argument NoArgument turns (spells t (spelled_arguments after rest)) (spelled_arguments after rest) rest (fault_by c t n (spelled_arguments after rest)) (arguments_fault_by c after n rest) (Plain t) after (ap begins_atom (head_of t (spelled_arguments after rest)) ∙ atom_begins t h.1 (omega (arith, h.0)))
      (argument_read c n t (spelled_arguments after rest) h.1 h.0 ((complete c t h.1 n (spelled_arguments after rest)).at_atom (omega (arith, h.0)) (behind_argument after rest h.2 (omega arith))))
      (complete_arguments c after h.2 turns n rest (omega arith) r)
  complete_arguments c (Given p w q t s after) h zero n rest l r = absurd (omega arith)
  complete_arguments c (Given p w q t s after) h (suc turns) n rest l r =
      many_more begins_atom (argument c (nested c n)) with_argument NoArgument turns (spelled_arguments (Given p w q t s after) rest) (spelled_arguments after rest) rest (inside c n t (symbol (codes ")") s ∷ spelled_arguments after rest)) (arguments_fault_by c after n rest) (parse.Given p w q t s) after refl
      (step_sure (nested c n Whole (spells t (symbol (codes ")") s ∷ spelled_arguments after rest))) (λ t'. take sign.Close >>= (λ s'. pure (parse.Given p w q t' s'))) (inside c n t (symbol (codes ")") s ∷ spelled_arguments after rest)) t (parse.Given p w q t s) (symbol (codes ")") s ∷ spelled_arguments after rest) (spelled_arguments after rest) (whole_inside c n t (symbol (codes ")") s ∷ spelled_arguments after rest) (λ m. whole_read c m t (symbol (codes ")") s ∷ spelled_arguments after rest) h.0 (complete c t h.0 m (symbol (codes ")") s ∷ spelled_arguments after rest)) (omega arith))) refl)
      (complete_arguments c after h.1 turns n rest (omega arith) r)
