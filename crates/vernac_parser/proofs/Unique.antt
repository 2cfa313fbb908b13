-- A token list has at most one tree.
use Rattle.std.proofs.Common.{◌≡◌, ℕ, zero, suc, ◌+◌, ◌==◌, ◌<◌, ◌≤◌, Bool, true, false, cond, Option, None, Ok, Err, List, [], refl, sym, ◌∙◌, ap, arith}
use Rattle.coq_syntax.specs.declared.token.Token.{Token}
use Rattle.coq_syntax.specs.Trees.{Term, Forall, Fun, Let, Arrow, Or, And, Not, Equal, Apply, Name, PropSort, SetSort, TypeSort, TypeAt, Numeral, Parenthesized, Binders, Names, Groups, GroupList, NoGroup, Group, Annotation, Untyped, Typed, Arguments, NoArgument, Positional, Given, size_of, size_of_binders, size_of_groups, size_of_annotation, size_of_arguments}
use Rattle.coq_syntax.specs.Spelled.{spells}
use Rattle.coq_syntax.specs.Limits.{open_level, most_nested}
use Rattle.coq_syntax.specs.Grammar.{level, IsTerm}
use Rattle.coq_syntax.specs.Faults.{Fault, first, term_fault, fault}
use Rattle.vernac_parser.specs.Signs.{sign_at}
use Rattle.vernac_parser.specs.Parser.{Outcome}
use Rattle.vernac_parser.specs.Parse.{Checks, standard, Whole, whole_term}
use Rattle.vernac_parser.specs.Parse as parse
use Rattle.coq_syntax.specs.Meets.{OneTree}
use Rattle.vernac_parser.proofs.SignLaws.{reach}
use Rattle.vernac_parser.proofs.Checked.{fault_by, binders_fault_by, groups_fault_by, annotation_fault_by, arguments_fault_by, same_nested, standard_fault}
use Rattle.vernac_parser.proofs.Answered.{answered}
use Rattle.vernac_parser.proofs.Tower.{inside, whole_read, whole_inside}
use Rattle.vernac_parser.proofs.Complete.{complete}

-- a whole term, with so many rules left
pub complete_whole : (c : Checks) (n : ℕ) (t : Term) (rest : List Token) → IsTerm t → 99 < reach (sign_at rest) → parse.nested c n Whole (spells t rest) ≡ answered (inside c n t rest) t rest
complete_whole c n t rest h r = whole_inside c n t rest (λ m. whole_read c m t rest h (complete c t h m rest) r)

-- a term that stands by itself
pub complete_term : (t : Term) (rest : List Token) → IsTerm t → 99 < reach (sign_at rest) → whole_term (spells t rest) ≡ answered (term_fault t rest) t rest
complete_term t rest h r = complete_whole standard most_nested t rest h r ∙ ap (λ f. answered f t rest) (same_nested most_nested (λ m. fault_by standard t m rest) (λ m. fault t m rest) (spells t rest) (λ m. standard_fault t m rest))

-- no number is refused
pub loose : Checks
loose = record { numeral = λ _. false; level = λ _. false }

pub none_first : {f g : Option Fault} → f ≡ None → g ≡ None → first f g ≡ None
none_first {f} {g} p q = ap (λ x. first x g) p ∙ q

pub none_inside : (n : ℕ) (t : Term) (rest : List Token) → size_of t < n → ((m : ℕ) → size_of t ≤ m → fault_by loose t m rest ≡ None) → inside loose n t rest ≡ None
none_inside zero t rest l h = absurd (omega arith)
none_inside (suc n) t rest l h = h n (omega arith)

none_if : (b : Bool) (f g : Option Fault) → f ≡ None → g ≡ None → cond b f g ≡ None
none_if true f g p q = p
none_if false f g p q = q

-- with at least as many rules as a tree has nodes there is no fault
mutual
  unfolding loose

  pub shallow : (t : Term) (n : ℕ) (rest : List Token) → size_of t ≤ n → fault_by loose t n rest ≡ None
  shallow (Forall p bs q b) n rest l = none_first (shallow_binders bs n _ (omega arith)) (none_inside n b rest (omega arith) (λ m k. shallow b m rest k))
  shallow (Fun p bs q b) n rest l = none_first (shallow_binders bs n _ (omega arith)) (none_inside n b rest (omega arith) (λ m k. shallow b m rest k))
  shallow (Let p x a q v s b) n rest l = none_first (shallow_annotation a n _ (omega arith)) (none_first (none_inside n v _ (omega arith) (λ m k. shallow v m _ k)) (none_inside n b rest (omega arith) (λ m k. shallow b m rest k)))
  shallow (Arrow a p b) n rest l = none_first (shallow a n _ (omega arith)) (none_inside n b rest (omega arith) (λ m k. shallow b m rest k))
  shallow (Or a p b) n rest l = none_first (shallow a n _ (omega arith)) (none_if (level b == open_level) _ _ (shallow b n rest (omega arith)) (none_inside n b rest (omega arith) (λ m k. shallow b m rest k)))
  shallow (And a p b) n rest l = none_first (shallow a n _ (omega arith)) (none_if (level b == open_level) _ _ (shallow b n rest (omega arith)) (none_inside n b rest (omega arith) (λ m k. shallow b m rest k)))
  shallow (Not p a) n rest l = none_if (level a == open_level) _ _ (shallow a n rest (omega arith)) (none_inside n a rest (omega arith) (λ m k. shallow a m rest k))
  shallow (Equal a p b) n rest l = none_first (shallow a n _ (omega arith)) (shallow b n rest (omega arith))
  shallow (Apply f args) n rest l = none_first (shallow f n _ (omega arith)) (shallow_arguments args n rest (omega arith))
  shallow (Name w) n rest l = refl
  shallow (PropSort p) n rest l = refl
  shallow (SetSort p) n rest l = refl
  shallow (TypeSort p) n rest l = refl
  shallow (TypeAt p q r w s) n rest l = refl
  shallow (Numeral w) n rest l = refl
  shallow (Parenthesized p t q) n rest l = none_inside n t _ (omega arith) (λ m k. shallow t m _ k)

  shallow_binders : (bs : Binders) (n : ℕ) (rest : List Token) → size_of_binders bs ≤ n → binders_fault_by loose bs n rest ≡ None
  shallow_binders (Names ns p t) n rest l = none_inside n t rest (omega arith) (λ m k. shallow t m rest k)
  shallow_binders (Groups gs) n rest l = shallow_groups gs n rest (omega arith)

  pub shallow_groups : (gs : GroupList) (n : ℕ) (rest : List Token) → size_of_groups gs ≤ n → groups_fault_by loose gs n rest ≡ None
  shallow_groups NoGroup n rest l = refl
  shallow_groups (Group p ns q t r after) n rest l = none_first (none_inside n t _ (omega arith) (λ m k. shallow t m _ k)) (shallow_groups after n rest (omega arith))

  pub shallow_annotation : (a : Annotation) (n : ℕ) (rest : List Token) → size_of_annotation a ≤ n → annotation_fault_by loose a n rest ≡ None
  shallow_annotation Untyped n rest l = refl
  shallow_annotation (Typed p t) n rest l = none_inside n t rest (omega arith) (λ m k. shallow t m rest k)

  shallow_arguments : (args : Arguments) (n : ℕ) (rest : List Token) → size_of_arguments args ≤ n → arguments_fault_by loose args n rest ≡ None
  shallow_arguments NoArgument n rest l = refl
  shallow_arguments (Positional t after) n rest l = none_first (shallow t n _ (omega arith)) (shallow_arguments after n rest (omega arith))
  shallow_arguments (Given p w q t r after) n rest l = none_first (none_inside n t _ (omega arith) (λ m k. shallow t m _ k)) (shallow_arguments after n rest (omega arith))

read_alone : (t : Term) (n : ℕ) → IsTerm t → size_of t < n → parse.nested loose n Whole (spells t []) ≡ Ok (t, [])
read_alone t n h l = complete_whole loose n t [] h (omega arith) ∙ ap (λ f. answered f t []) (none_inside n t [] l (λ m k. shallow t m [] k))

pub tree_of : Term → Outcome Term → Term
tree_of t (Ok p) = p.0
tree_of t (Err f) = t

pub unique : (s t : Term) → IsTerm s → IsTerm t → spells s [] ≡ spells t [] → s ≡ t
unfolding tree_of
unique s t f g e =
    let n : ℕ = suc (size_of s + size_of t) in
    let same : Ok (s, []) ≡ Ok (t, []) = sym (read_alone s n f (omega arith)) ∙ ap (parse.nested loose n Whole) e ∙ read_alone t n g (omega arith) in
    ap (tree_of s) same

pub one_tree : OneTree
one_tree tokens s t f g = unique s t f.0 g.0 (f.1 ∙ sym g.1)
