-- The tokens of a command, and then others; and its first fault before them.
use Rattle.std.proofs.Common.{◌≡◌, ℕ, ◌+◌, ◌<◌, Option, None, Some, List, [], ◌∷◌, codes, refl, ◌∙◌, ap, ap₂, arith}
use Rattle.coq_syntax.specs.declared.token.Token.{Token}
use Rattle.coq_syntax.specs.Trees.{Term, GroupList, Annotation, size_of, size_of_groups, size_of_annotation}
use Rattle.coq_syntax.specs.CommandTrees.{Constructor, Command, Assume, Define, State, Inductive, Check, Proof, Qed, Defined, Admitted, Aborted}
use Rattle.coq_syntax.specs.Spelled.{symbol, keyword, identifier, spells, groups, annotation}
use Rattle.coq_syntax.specs.Limits.{most_nested}
use Rattle.coq_syntax.specs.Faults.{Fault, first, fault, groups_fault, annotation_fault, term_fault}
use Rattle.coq_syntax.specs.Commands.{assumption_word, statement_word, constructors, command_tokens, constructors_fault, command_fault}
use Rattle.vernac_parser.specs.Parse.{Checks, standard}
use Rattle.vernac_parser.proofs.Checked.{fault_by, groups_fault_by, annotation_fault_by, same_nested, standard_fault, standard_groups, standard_annotation}
use Rattle.vernac_parser.proofs.Tower.{inside}
use Rattle.vernac_parser.proofs.Unique.{loose, none_first, none_inside, shallow, shallow_groups, shallow_annotation}
use Rattle.vernac_parser.proofs.Refused.{Sound, sound_first, sound_groups, sound_annotation, term_sound}

abbrev pub command_spells : Command → List Token → List Token
command_spells (Assume w p x q t) rest = keyword (assumption_word w) p ∷ identifier x ∷ symbol (codes ":") q ∷ spells t rest
command_spells (Define p x gs a q t) rest = keyword (codes "Definition") p ∷ identifier x ∷ groups gs (annotation a (symbol (codes ":=") q ∷ spells t rest))
command_spells (State w p x gs q t) rest = keyword (statement_word w) p ∷ identifier x ∷ groups gs (symbol (codes ":") q ∷ spells t rest)
command_spells (Inductive p x gs q t r cs) rest = keyword (codes "Inductive") p ∷ identifier x ∷ groups gs (symbol (codes ":") q ∷ spells t (symbol (codes ":=") r ∷ constructors cs rest))
command_spells (Check p t) rest = keyword (codes "Check") p ∷ spells t rest
command_spells (Proof p) rest = keyword (codes "Proof") p ∷ rest
command_spells (Qed p) rest = keyword (codes "Qed") p ∷ rest
command_spells (Defined p) rest = keyword (codes "Defined") p ∷ rest
command_spells (Admitted p) rest = keyword (codes "Admitted") p ∷ rest
command_spells (Aborted p) rest = keyword (codes "Abort") p ∷ rest

pub spelled_alone : (c : Command) → command_spells c [] ≡ command_tokens c
spelled_alone (Assume w p x q t) = refl
spelled_alone (Define p x gs a q t) = refl
spelled_alone (State w p x gs q t) = refl
spelled_alone (Inductive p x gs q t r cs) = refl
spelled_alone (Check p t) = refl
spelled_alone (Proof p) = refl
spelled_alone (Qed p) = refl
spelled_alone (Defined p) = refl
spelled_alone (Admitted p) = refl
spelled_alone (Aborted p) = refl

-- the first fault, by those of the parts
pub record Parts : Type 0 where
  pub of_groups : GroupList → List Token → Option Fault
  pub of_annotation : Annotation → List Token → Option Fault
  pub of_term : Term → List Token → Option Fault

module _ (f : Parts) where
  abbrev pub constructor_faults : Constructor → List Token → Option Fault
  constructor_faults c rest = first (f.of_groups c.groups (annotation c.annotation rest)) (f.of_annotation c.annotation rest)

  abbrev pub constructors_faults : List Constructor → List Token → Option Fault
  constructors_faults [] rest = None
  constructors_faults (c ∷ cs) rest = first (constructor_faults c (constructors cs rest)) (constructors_faults cs rest)

  abbrev pub command_faults : Command → List Token → Option Fault
  command_faults (Assume w p x q t) rest = f.of_term t rest
  command_faults (Define p x gs a q t) rest =
      first (f.of_groups gs (annotation a (symbol (codes ":=") q ∷ spells t rest)))
      (first (f.of_annotation a (symbol (codes ":=") q ∷ spells t rest)) (f.of_term t rest))
  command_faults (State w p x gs q t) rest = first (f.of_groups gs (symbol (codes ":") q ∷ spells t rest)) (f.of_term t rest)
  command_faults (Inductive p x gs q t r cs) rest =
      first (f.of_groups gs (symbol (codes ":") q ∷ spells t (symbol (codes ":=") r ∷ constructors cs rest)))
      (first (f.of_term t (symbol (codes ":=") r ∷ constructors cs rest)) (constructors_faults cs rest))
  command_faults (Check p t) rest = f.of_term t rest
  command_faults (Proof p) rest = None
  command_faults (Qed p) rest = None
  command_faults (Defined p) rest = None
  command_faults (Admitted p) rest = None
  command_faults (Aborted p) rest = None

-- the grammar's, and those under any checks with so many rules left
abbrev pub plain : Parts
plain = record { of_groups = λ gs rest. groups_fault gs most_nested rest; of_annotation = λ a rest. annotation_fault a most_nested rest; of_term = term_fault }

abbrev pub checked : Checks → ℕ → Parts
checked c n = record { of_groups = λ gs rest. groups_fault_by c gs n rest; of_annotation = λ a rest. annotation_fault_by c a n rest; of_term = inside c n }

pub first_joined : (f g h : Option Fault) → first (first f g) h ≡ first f (first g h)
first_joined None g h = refl
first_joined (Some f) g h = refl

constructors_alone : (cs : List Constructor) → constructors_faults plain cs [] ≡ constructors_fault cs
constructors_alone [] = refl
constructors_alone (c ∷ cs) = first_joined _ _ (constructors_faults plain cs []) ∙ ap (λ k. first (groups_fault c.groups most_nested (annotation c.annotation (constructors cs []))) (first (annotation_fault c.annotation most_nested (constructors cs [])) k)) (constructors_alone cs)

pub fault_alone : (c : Command) → command_faults plain c [] ≡ command_fault c
fault_alone (Assume w p x q t) = refl
fault_alone (Define p x gs a q t) = refl
fault_alone (State w p x gs q t) = refl
fault_alone (Inductive p x gs q t r cs) = ap (λ k. first (groups_fault gs most_nested (symbol (codes ":") q ∷ spells t (symbol (codes ":=") r ∷ constructors cs []))) (first (term_fault t (symbol (codes ":=") r ∷ constructors cs [])) k)) (constructors_alone cs)
fault_alone (Check p t) = refl
fault_alone (Proof p) = refl
fault_alone (Qed p) = refl
fault_alone (Defined p) = refl
fault_alone (Admitted p) = refl
fault_alone (Aborted p) = refl

-- the grammar's checks give the grammar's faults
standard_term : (t : Term) (rest : List Token) → inside standard most_nested t rest ≡ term_fault t rest
standard_term t rest = same_nested most_nested (λ m. fault_by standard t m rest) (λ m. fault t m rest) (spells t rest) (λ m. standard_fault t m rest)

standard_constructors : (cs : List Constructor) (rest : List Token) → constructors_faults (checked standard most_nested) cs rest ≡ constructors_faults plain cs rest
standard_constructors [] rest = refl
standard_constructors (c ∷ cs) rest = ap₂ first (ap₂ first (standard_groups c.groups most_nested _) (standard_annotation c.annotation most_nested _)) (standard_constructors cs rest)

pub standard_command : (c : Command) (rest : List Token) → command_faults (checked standard most_nested) c rest ≡ command_faults plain c rest
standard_command (Assume w p x q t) rest = standard_term t rest
standard_command (Define p x gs a q t) rest = ap₂ first (standard_groups gs most_nested _) (ap₂ first (standard_annotation a most_nested _) (standard_term t rest))
standard_command (State w p x gs q t) rest = ap₂ first (standard_groups gs most_nested _) (standard_term t rest)
standard_command (Inductive p x gs q t r cs) rest = ap₂ first (standard_groups gs most_nested _) (ap₂ first (standard_term t _) (standard_constructors cs rest))
standard_command (Check p t) rest = standard_term t rest
standard_command (Proof p) rest = refl
standard_command (Qed p) rest = refl
standard_command (Defined p) rest = refl
standard_command (Admitted p) rest = refl
standard_command (Aborted p) rest = refl

-- no fault is one of an unexpected token
sound_constructors : (cs : List Constructor) (rest : List Token) → Sound (constructors_faults plain cs rest)
sound_constructors [] rest = tt
sound_constructors (c ∷ cs) rest = sound_first _ _ (sound_first _ _ (sound_groups c.groups most_nested _) (sound_annotation c.annotation most_nested _)) (sound_constructors cs rest)

pub sound_command : (c : Command) (rest : List Token) → Sound (command_faults plain c rest)
sound_command (Assume w p x q t) rest = term_sound t rest
sound_command (Define p x gs a q t) rest = sound_first _ _ (sound_groups gs most_nested _) (sound_first _ _ (sound_annotation a most_nested _) (term_sound t rest))
sound_command (State w p x gs q t) rest = sound_first _ _ (sound_groups gs most_nested _) (term_sound t rest)
sound_command (Inductive p x gs q t r cs) rest = sound_first _ _ (sound_groups gs most_nested _) (sound_first _ _ (term_sound t _) (sound_constructors cs rest))
sound_command (Check p t) rest = term_sound t rest
sound_command (Proof p) rest = tt
sound_command (Qed p) rest = tt
sound_command (Defined p) rest = tt
sound_command (Admitted p) rest = tt
sound_command (Aborted p) rest = tt

-- with more rules than the parts have nodes there is none
abbrev pub constructors_size : List Constructor → ℕ
constructors_size [] = 0
constructors_size (c ∷ cs) = size_of_groups c.groups + size_of_annotation c.annotation + constructors_size cs

abbrev pub command_size : Command → ℕ
command_size (Assume w p x q t) = size_of t
command_size (Define p x gs a q t) = size_of_groups gs + size_of_annotation a + size_of t
command_size (State w p x gs q t) = size_of_groups gs + size_of t
command_size (Inductive p x gs q t r cs) = size_of_groups gs + size_of t + constructors_size cs
command_size (Check p t) = size_of t
command_size (Proof p) = 0
command_size (Qed p) = 0
command_size (Defined p) = 0
command_size (Admitted p) = 0
command_size (Aborted p) = 0

none_term : (t : Term) (n : ℕ) (rest : List Token) → size_of t < n → inside loose n t rest ≡ None
none_term t n rest l = none_inside n t rest l (λ m k. shallow t m rest k)

none_constructors : (cs : List Constructor) (n : ℕ) (rest : List Token) → constructors_size cs < n → constructors_faults (checked loose n) cs rest ≡ None
none_constructors [] n rest l = refl
none_constructors (c ∷ cs) n rest l = none_first (none_first (shallow_groups c.groups n _ (omega arith)) (shallow_annotation c.annotation n _ (omega arith))) (none_constructors cs n rest (omega arith))

pub none_command : (c : Command) (n : ℕ) (rest : List Token) → command_size c < n → command_faults (checked loose n) c rest ≡ None
none_command (Assume w p x q t) n rest l = none_term t n rest l
none_command (Define p x gs a q t) n rest l = none_first (shallow_groups gs n _ (omega arith)) (none_first (shallow_annotation a n _ (omega arith)) (none_term t n rest (omega arith)))
none_command (State w p x gs q t) n rest l = none_first (shallow_groups gs n _ (omega arith)) (none_term t n rest (omega arith))
none_command (Inductive p x gs q t r cs) n rest l = none_first (shallow_groups gs n _ (omega arith)) (none_first (none_term t n _ (omega arith)) (none_constructors cs n rest (omega arith)))
none_command (Check p t) n rest l = none_term t n rest l
none_command (Proof p) n rest l = refl
none_command (Qed p) n rest l = refl
none_command (Defined p) n rest l = refl
none_command (Admitted p) n rest l = refl
none_command (Aborted p) n rest l = refl
