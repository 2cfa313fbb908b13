-- The first fault of a tree under any checks of numbers, which with the grammar's checks is the grammar's fault.
use Rattle.std.proofs.Common.{◌≡◌, ℕ, zero, suc, ◌==◌, Bool, cond, if◌then◌else◌, Option, None, Some, List, ◌∷◌, codes, refl, ap₂}
use Rattle.coq_syntax.specs.declared.token.Token.{Token}
use Rattle.coq_syntax.specs.Trees.{Term, Forall, Fun, Let, Arrow, Or, And, Not, Equal, Apply, Name, PropSort, SetSort, TypeSort, TypeAt, Numeral, Parenthesized, Binders, Names, Groups, GroupList, NoGroup, Group, Annotation, Untyped, Typed, Arguments, NoArgument, Positional, Given}
use Rattle.coq_syntax.specs.Spelled.{reserved, symbol, number, spells, groups, arguments}
use Rattle.coq_syntax.specs.Grammar.{level}
use Rattle.coq_syntax.specs.Limits.{open_level, no_level, too_great}
use Rattle.coq_syntax.specs.Faults.{Fault, first, nested, value_of, fault, binders_fault, groups_fault, annotation_fault, arguments_fault}
use Rattle.vernac_parser.specs.Parse.{Checks, standard}

-- the same rows as those of the grammar, with the checks as a parameter
module _ (c : Checks) where
  abbrev mutual
    pub fault_by : Term → ℕ → List Token → Option Fault
    fault_by (Forall p bs q b) n rest = first (binders_fault_by bs n (symbol (codes ",") q ∷ spells b rest)) (nested n (λ m. fault_by b m rest) (spells b rest))
    fault_by (Fun p bs q b) n rest = first (binders_fault_by bs n (symbol (codes "=>") q ∷ spells b rest)) (nested n (λ m. fault_by b m rest) (spells b rest))
    fault_by (Let p x a q v r b) n rest =
        first (annotation_fault_by a n (symbol (codes ":=") q ∷ spells v (reserved (codes "in") r ∷ spells b rest)))
        (first (nested n (λ m. fault_by v m (reserved (codes "in") r ∷ spells b rest)) (spells v (reserved (codes "in") r ∷ spells b rest))) (nested n (λ m. fault_by b m rest) (spells b rest)))
    fault_by (Arrow a p b) n rest = first (fault_by a n (symbol (codes "->") p ∷ spells b rest)) (nested n (λ m. fault_by b m rest) (spells b rest))
    fault_by (Or a p b) n rest = first (fault_by a n (symbol (codes "\\/") p ∷ spells b rest)) (if level b == open_level then fault_by b n rest else nested n (λ m. fault_by b m rest) (spells b rest))
    fault_by (And a p b) n rest = first (fault_by a n (symbol (codes "/\\") p ∷ spells b rest)) (if level b == open_level then fault_by b n rest else nested n (λ m. fault_by b m rest) (spells b rest))
    fault_by (Not p a) n rest = if level a == open_level then fault_by a n rest else nested n (λ m. fault_by a m rest) (spells a rest)
    fault_by (Equal a p b) n rest = first (fault_by a n (symbol (codes "=") p ∷ spells b rest)) (fault_by b n rest)
    fault_by (Apply f args) n rest = first (fault_by f n (arguments args rest)) (arguments_fault_by args n rest)
    fault_by (Name w) n rest = None
    fault_by (PropSort p) n rest = None
    fault_by (SetSort p) n rest = None
    fault_by (TypeSort p) n rest = None
    fault_by (TypeAt p q r w s) n rest = if c.level (value_of w) then Some (record { code = no_level; rest = number w ∷ symbol (codes "}") s ∷ rest }) else None
    fault_by (Numeral w) n rest = if c.numeral (value_of w) then Some (record { code = too_great; rest = number w ∷ rest }) else None
    fault_by (Parenthesized p t q) n rest = nested n (λ m. fault_by t m (symbol (codes ")") q ∷ rest)) (spells t (symbol (codes ")") q ∷ rest))

    pub binders_fault_by : Binders → ℕ → List Token → Option Fault
    binders_fault_by (Names ns p t) n rest = nested n (λ m. fault_by t m rest) (spells t rest)
    binders_fault_by (Groups gs) n rest = groups_fault_by gs n rest

    pub groups_fault_by : GroupList → ℕ → List Token → Option Fault
    groups_fault_by NoGroup n rest = None
    groups_fault_by (Group p ns q t r after) n rest =
        first (nested n (λ m. fault_by t m (symbol (codes ")") r ∷ groups after rest)) (spells t (symbol (codes ")") r ∷ groups after rest))) (groups_fault_by after n rest)

    pub annotation_fault_by : Annotation → ℕ → List Token → Option Fault
    annotation_fault_by Untyped n rest = None
    annotation_fault_by (Typed p t) n rest = nested n (λ m. fault_by t m rest) (spells t rest)

    pub arguments_fault_by : Arguments → ℕ → List Token → Option Fault
    arguments_fault_by NoArgument n rest = None
    arguments_fault_by (Positional t after) n rest = first (fault_by t n (arguments after rest)) (arguments_fault_by after n rest)
    arguments_fault_by (Given p w q t r after) n rest =
        first (nested n (λ m. fault_by t m (symbol (codes ")") r ∷ arguments after rest)) (spells t (symbol (codes ")") r ∷ arguments after rest))) (arguments_fault_by after n rest)

pub same_nested : (n : ℕ) (f g : ℕ → Option Fault) (start : List Token) → ((m : ℕ) → f m ≡ g m) → nested n f start ≡ nested n g start
same_nested zero f g start h = refl
same_nested (suc n) f g start h = h n

same_if : (b : Bool) {x x' y y' : Option Fault} → x ≡ x' → y ≡ y' → cond b x y ≡ cond b x' y'
same_if b p q = ap₂ (cond b) p q

mutual
  pub standard_fault : (t : Term) (n : ℕ) (rest : List Token) → fault_by standard t n rest ≡ fault t n rest
  standard_fault (Forall p bs q b) n rest = ap₂ first (standard_binders bs n _) (same_nested n _ _ _ (λ m. standard_fault b m rest))
  standard_fault (Fun p bs q b) n rest = ap₂ first (standard_binders bs n _) (same_nested n _ _ _ (λ m. standard_fault b m rest))
  standard_fault (Let p x a q v r b) n rest = ap₂ first (standard_annotation a n _) (ap₂ first (same_nested n _ _ _ (λ m. standard_fault v m _)) (same_nested n _ _ _ (λ m. standard_fault b m rest)))
  standard_fault (Arrow a p b) n rest = ap₂ first (standard_fault a n _) (same_nested n _ _ _ (λ m. standard_fault b m rest))
  standard_fault (Or a p b) n rest = ap₂ first (standard_fault a n _) (same_if (level b == open_level) (standard_fault b n rest) (same_nested n _ _ _ (λ m. standard_fault b m rest)))
  standard_fault (And a p b) n rest = ap₂ first (standard_fault a n _) (same_if (level b == open_level) (standard_fault b n rest) (same_nested n _ _ _ (λ m. standard_fault b m rest)))
  standard_fault (Not p a) n rest = same_if (level a == open_level) (standard_fault a n rest) (same_nested n _ _ _ (λ m. standard_fault a m rest))
  standard_fault (Equal a p b) n rest = ap₂ first (standard_fault a n _) (standard_fault b n rest)
  standard_fault (Apply f args) n rest = ap₂ first (standard_fault f n _) (standard_arguments args n rest)
  standard_fault (Name w) n rest = refl
  standard_fault (PropSort p) n rest = refl
  standard_fault (SetSort p) n rest = refl
  standard_fault (TypeSort p) n rest = refl
  standard_fault (TypeAt p q r w s) n rest = refl
  standard_fault (Numeral w) n rest = refl
  standard_fault (Parenthesized p t q) n rest = same_nested n _ _ _ (λ m. standard_fault t m _)

  standard_binders : (bs : Binders) (n : ℕ) (rest : List Token) → binders_fault_by standard bs n rest ≡ binders_fault bs n rest
  standard_binders (Names ns p t) n rest = same_nested n _ _ _ (λ m. standard_fault t m rest)
  standard_binders (Groups gs) n rest = standard_groups gs n rest

  pub standard_groups : (gs : GroupList) (n : ℕ) (rest : List Token) → groups_fault_by standard gs n rest ≡ groups_fault gs n rest
  standard_groups NoGroup n rest = refl
  standard_groups (Group p ns q t r after) n rest = ap₂ first (same_nested n _ _ _ (λ m. standard_fault t m _)) (standard_groups after n rest)

  pub standard_annotation : (a : Annotation) (n : ℕ) (rest : List Token) → annotation_fault_by standard a n rest ≡ annotation_fault a n rest
  standard_annotation Untyped n rest = refl
  standard_annotation (Typed p t) n rest = same_nested n _ _ _ (λ m. standard_fault t m rest)

  standard_arguments : (args : Arguments) (n : ℕ) (rest : List Token) → arguments_fault_by standard args n rest ≡ arguments_fault args n rest
  standard_arguments NoArgument n rest = refl
  standard_arguments (Positional t after) n rest = ap₂ first (standard_fault t n _) (standard_arguments after n rest)
  standard_arguments (Given p w q t r after) n rest = ap₂ first (same_nested n _ _ _ (λ m. standard_fault t m _)) (standard_arguments after n rest)
